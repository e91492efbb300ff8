use Rattle.std.proofs.Common.{◌++◌, ◌∙◌, List, map, ap}
use Rattle.std.specs.Map.Iter.{deref}
use Rattle.std.proofs.lemmas.Map.Iter.{iter_end}
use Rattle.currency_base.specs.declared.pair.Pair.{Pair}
use Rattle.spec_items.specs.declared.item.Item.TheVariants as item
use Rattle.spec_items.proofs.listing.put_pairs.Goals as goal

pub returns : goal.returns
returns c =
    let given = c.args.relation.now.given in
    let goes_over = c.into_iter-pair-iterator.ensures.into_iter_gives ∙ c.iter-pair-items.ensures.all in
    let end =
    iter_end deref given c.loop-pair.yielded c.into_iter-pair-iterator.result c.loop-pair.pair-iterator
    c.next.new.self c.next.result
    goes_over c.loop-pair.yielded_by c.in-None.is c.next.ensures.steps in
    c.loop-pair.invariant ∙ ap (λ (ps : List Pair). c.args.items.now ++ map (λ p. item.Given c.args.rel p) ps) end.0
