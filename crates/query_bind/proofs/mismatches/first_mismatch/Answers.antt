-- What is refused from the names of the head, and from no kinds, is what is refused.
use Rattle.std.proofs.Common.{[], Option, ap, subst, ◌≡◌}
use Rattle.std.specs.Prelude.{IfOk, is_some}
use Rattle.bind_faults.specs.declared.fault.BindFault.{BindFault}
use Rattle.spec_names.specs.Names.{place_of}
use Rattle.query_bind.specs.Steps.{kind_for}
use Rattle.query_bind.proofs.Kept.{from_after}
use Rattle.query_bind.proofs.mismatches.first_mismatch.Goals as goal

pub returns : goal.returns
returns c =
    subst (λ (due : Option BindFault). IfOk c.mismatch_from.result (λ fault. fault ≡ due))
    (from_after c.args.names.now c.args.relations.now c.args.head.now
    (λ name. is_some (place_of c.in_ok-head.head name)) (kind_for c.new-before.result) [] c.args.disjuncts.now
    c.in_ok-head.ensures (λ name. ap (λ noted. kind_for noted name) c.new-before.ensures)) c.mismatch_from.ensures
