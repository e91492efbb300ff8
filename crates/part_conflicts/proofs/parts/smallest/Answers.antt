use Rattle.std.proofs.Common.{◌∷◌, []}
use Rattle.std.proofs.lemmas.Result.{IfOk-weaker}
use Rattle.entity_ties.specs.Labels.{scope_of}
use Rattle.part_conflicts.proofs.Listing.{smallest}
use Rattle.part_conflicts.proofs.parts.smallest.Goals as goal

pub part-requires-clause-places : goal.part-requires-clause-places
part-requires-clause-places c =
    (scope_of c.args.ties.now (c.args.number ∷ []), c.in_ok-places.ensures.places, c.in_ok-places.ensures.closed)

pub returns : goal.returns
returns c =
    IfOk-weaker c.part.result _ _ (λ part built.
    smallest c.args.spec.now c.args.ties.now c.args.number c.in_ok-places.places part c.requires.number
    c.in_ok-places.ensures.places c.in_ok-places.ensures.closed built) c.part.ensures
