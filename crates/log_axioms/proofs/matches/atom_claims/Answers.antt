use Rattle.std.proofs.Common.{◌∙◌, ap, slice_get, sym}
use Rattle.log_axioms.proofs.Indexed.{indexed_at}
use Rattle.log_axioms.proofs.matches.atom_claims.Goals as goal

pub atom_premises-requires-clause-members : goal.atom_premises-requires-clause-members
atom_premises-requires-clause-members c =
    indexed_at c.args.spec.now.relations c.args.index.now c.args.atom.now.relation.0 c.get-members.result.now
    c.in-Some.relation.now c.requires c.get-members.ensures
    (ap (λ rs. slice_get rs c.args.atom.now.relation.0) (sym c.relations.ensures.value) ∙ sym c.in-Some.ensures)
