use Rattle.std.proofs.Common.{◌≡◌, Some, slice_get, subst}
use Rattle.query_model.specs.declared.query.Term.TheVariants.{Var}
use Rattle.ucq_answers.proofs.Narrowing.{narrowed_are}
use Rattle.ucq_answers.proofs.bounds.bounded.Goals as goal

pub returns : goal.returns
returns c =
    narrowed_are c.args.index.now.tuples c.args.index.now.place c.args.tests.now c.args.terms.now c.in_ok-var.var
    c.args.values.now c.narrowed.result.now
    (subst (λ p. slice_get c.args.terms.now p ≡ Some (Var c.in_ok-var.var)) c.place.ensures c.in_ok-var.ensures)
    c.narrowed.ensures
