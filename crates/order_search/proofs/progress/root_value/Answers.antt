use Rattle.std.proofs.Common.{◌≡◌, ◌∙◌, Some, ap, length, subst, sym, arith}
use Rattle.std.proofs.lemmas.List.FromFn.{length-map-range_with_len}
use Rattle.std.proofs.lemmas.Option.{none-some}
use Rattle.std.specs.List.{slice_get}
use Rattle.search_trail.proofs.KnownValues.{is_value}
use Rattle.search_trail.specs.Trails.{ScopedValues, Trail, lits_of, value_in}
use Rattle.order_search.proofs.progress.root_value.Goals as goal

pub level-requires-clause-within : goal.level-requires-clause-within
level-requires-clause-within c =
    let t = c.args.trail.now in
    let many : c.len.result ≡ t.vars =
    c.len.ensures.count ∙ ap (λ (v : ScopedValues). length v.given) c.values.ensures
    ∙ length-map-range_with_len (value_in (lits_of t)) 0 t.vars in
    omega (arith, many, c.if-var-len.false)

pub level-requires-clause-given : goal.level-requires-clause-given
level-requires-clause-given c =
    λ free.
    let t : Trail = c.args.trail.now in
    let there = is_value t c.args.var (Some c.in-Some.value)
    (subst (λ (v : ScopedValues). slice_get v.given c.args.var ≡ Some (Some c.in-Some.value)) c.values-2.ensures
    c.in-Some.ensures) in
    none-some c.in-Some.value (sym free ∙ there)

pub returns-then-level-eq0 : goal.returns-then-level-eq0
returns-then-level-eq0 c =
    let t : Trail = c.args.trail.now in
    is_value t c.args.var (Some c.in-Some.value)
    (subst (λ (v : ScopedValues). slice_get v.given c.args.var ≡ Some (Some c.in-Some.value)) c.values-2.ensures
    c.in-Some.ensures)
