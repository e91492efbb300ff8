use Rattle.std.proofs.Common.{List, length, subst, sym, ap, arith}
use Rattle.spec_model.specs.declared.relation.Relation.{Relation}
use Rattle.value_candidates.specs.Steps.{AreMarks}
use Rattle.value_candidates.proofs.Placing.{claims_all}
use Rattle.value_candidates.proofs.listing.value_claims.Goals as goal

pub loop-rel-preserved : goal.loop-rel-preserved
loop-rel-preserved c =
    let rels = c.args.rels.now in
    let marks =
    subst (λ (relations : List Relation). AreMarks rels (length relations) c.in_ok-marks.marks.items) c.relations.ensures.value
    c.in_ok-marks.ensures in
    c.in_ok-put_asked.ensures rels
    (subst (AreMarks rels (length c.args.spec.now.relations)) (sym c.deref.ensures.value) marks) c.loop-rel.invariant

pub returns : goal.returns
returns c =
    claims_all c.args.spec.now.relations c.args.rels.now c.loop-rel.rel c.loop-rel.claims
    (omega (arith, ap length c.relations-rel-end.ensures.value)) c.loop-rel.invariant
