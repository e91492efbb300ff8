use Rattle.std.proofs.Common.{List, ap, sym, ◌∙◌, subst}
use Rattle.query_model.specs.declared.query.Atom.{Atom}
use Rattle.query_plan.specs.Plans.{AreSameAtoms}
use Rattle.ucq_answers.specs.Kept.{atoms_of}
use Rattle.ucq_answers.specs.Seen.{IsSeen}
use Rattle.ucq_answers.proofs.Keeping.{seen_prepared, zip_atoms}
use Rattle.ucq_answers.proofs.prepared.PreparedDisjunct.new.Goals as goal

pub invariant_of-result : goal.invariant_of-result
invariant_of-result c =
    let order = c.in_ok-order.order.items in
    record {
      fits = c.in_ok-order.ensures.fits;
      same = subst (AreSameAtoms c.args.planned.atoms) (sym (ap atoms_of c.in_ok-atoms.ensures
          ∙ zip_atoms c.deref-2.result.now c.in_ok-seen.seen.kept.items ∙ c.deref-2.ensures.value)) c.in_ok-order.ensures.same;
    }

pub returns-clause-right : goal.returns-clause-right
returns-clause-right c =
    let kept = c.in_ok-seen.seen.kept.items in
    let unmatched = c.in_ok-seen.seen.is_unmatched in
    let instance = c.args.instance.now.relations in
    let tests = c.conditions.result.now.tests in
    seen_prepared instance c.args.planned tests c.deref-2.result.now kept unmatched c.in_ok-atoms.atoms.items
    c.conditions.ensures.tests (subst (AreSameAtoms c.args.planned.atoms) (sym c.deref-2.ensures.value) c.in_ok-order.ensures.same)
    (subst (λ (l : List Atom). IsSeen instance l tests kept unmatched) (c.deref.ensures.value ∙ sym c.deref-2.ensures.value)
    c.in_ok-seen.ensures) c.in_ok-atoms.ensures
