use Rattle.std.proofs.Common.{List, ℕ, get_or, take, subst, sym, arith}
use Rattle.std.proofs.lemmas.List.{take_all, take_more}
use Rattle.order_search.specs.Moved.{IsWithout}
use Rattle.order_search.proofs.Members.{without_more}
use Rattle.order_search.proofs.tying.without.Goals as goal

pub loop-other-preserved : goal.loop-other-preserved
loop-other-preserved c =
    let list = c.args.list.now in
    let at = c.loop-other.other-index in
    let other = get_or list at 0 in
    subst (λ (front : List ℕ). IsWithout c.args.item front c.keep.new.kept) (sym (take_more list at 0 c.loop-other-test.true))
    (without_more c.args.item other (take at list) c.loop-other.kept c.keep.new.kept c.loop-other.invariant
    c.in_ok-keep.ensures)

pub returns : goal.returns
returns c =
    let list = c.args.list.now in
    let at = c.loop-other.other-index in
    subst (λ (front : List ℕ). IsWithout c.args.item front c.loop-other.kept)
    (take_all at list (omega (arith, c.loop-other-test.false))) c.loop-other.invariant
