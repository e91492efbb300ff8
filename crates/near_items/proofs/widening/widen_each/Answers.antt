use Rattle.std.proofs.Common.{◌≡◌, ℕ, length, subst, arith}
use Rattle.std.proofs.lemmas.Option.{MatchOption-at_some}
use Rattle.near_items.specs.Steps.{AreWidenedTo, IsPutWide}
use Rattle.near_items.proofs.Wides.{wide_all, wide_more, without_at}
use Rattle.near_items.proofs.widening.widen_each.Goals as goal

pub widen_one-requires-clause-one : goal.widen_one-requires-clause-one
widen_one-requires-clause-one c =
    without_at c.args.site.now.part.now.relations c.args.narrow.now _ c.get.result.now c.requires.narrow c.get.ensures

pub loop-place-preserved : goal.loop-place-preserved
loop-place-preserved c =
    let s = c.args.site.now.spec.now in
    let n = c.args.site.now.places.now in
    let q = c.args.site.now.question.now in
    let base = c.args.base.now in
    let narrow = c.args.narrow.now in
    let start = c.loop-place.start in
    let bound = c.in-Ok-Some.bound in
    let old = c.loop-place.wide in
    let new = c.widen_one.new.wide in
    let put = MatchOption-at_some (Unit {0}) (IsPutWide s n q base start c.get.result.now old new) bound
    c.in-Ok-Some.field-0-is c.in-Ok-Some.ensures in
    record {
      widened = wide_more s n q base narrow c.loop-place.place start bound c.get.result.now old new
          c.loop-place.invariant.widened c.get.ensures put;
    }

pub returns : goal.returns
returns c =
    let s = c.args.site.now.spec.now in
    let n = c.args.site.now.places.now in
    let q = c.args.site.now.question.now in
    let base = c.args.base.now in
    let narrow = c.args.narrow.now in
    let start = c.loop-place.start in
    let wide = c.loop-place.wide in
    let end : c.loop-place.place ≡ length narrow =
    omega (arith, c.loop-place-test.false, c.loop-place.auto.place-end, c.len-place-end.ensures) in
    λ all.
    wide_all s n q base narrow start wide
    (subst (λ (count : ℕ). AreWidenedTo s n q base narrow count start wide) end c.loop-place.invariant.widened)
