use Rattle.std.proofs.Common.{List, [], length, sym, ap, subst, arith}
use Rattle.spec_model.specs.declared.question.Asked.{Asked}
use Rattle.spec_model.specs.declared.relation.Relation.{Relation}
use Rattle.forced_write.specs.Listing.{AreListed}
use Rattle.forced_write.proofs.Growing.{listed_none, listed_all, pairs_named}
use Rattle.forced_write.proofs.listing.forced_pairs.Goals as goal

pub loop-rel-init : goal.loop-rel-init
loop-rel-init c =
    subst (λ (pairs : List Asked). AreListed c.args.spec.now 0 0 0 [] pairs) (sym c.new-pairs.ensures)
    (listed_none c.args.spec.now)

pub returns-clause-pairs : goal.returns-clause-pairs
returns-clause-pairs c =
    let long = ap (λ (relations : List Relation). length relations) c.relations-rel-end.ensures.value in
    listed_all c.args.spec.now c.loop-rel.rel c.loop-rel.pairs c.keeps_facts.ensures (omega arith) c.loop-rel.invariant

pub returns-clause-named : goal.returns-clause-named
returns-clause-named c = pairs_named c.args.spec.now c.loop-rel.pairs c.keeps_facts.ensures (returns-clause-pairs c)
