use Rattle.std.proofs.Common.{◌≡◌, ◌∙◌, Bool, List, Some, true, false, length, slice_get, sym, ap, subst}
use Rattle.std.proofs.lemmas.List.{length-replicate}
use Rattle.spec_model.specs.Completion.{HasShape}
use Rattle.spec_model.specs.Spec.{Spec}
use Rattle.known_models.specs.Changes.{left_in}
use Rattle.known_models.proofs.Counting.{all_left, not_done}
use Rattle.known_models.proofs.known.KnownModel.new.Goals as goal

pub invariant_of-result : goal.invariant_of-result
invariant_of-result c = record {
  same = c.in_ok-trial.ensures ∙ sym c.in_ok-truths.ensures;
  left_is = sym (ap left_in c.in_ok-done.ensures ∙ all_left c.count-left.result);
}

pub returns-clause-known : goal.returns-clause-known
returns-clause-known c = record {
  per_variable = ap (λ (ts : List Bool). length ts) c.in_ok-truths.ensures ∙ length-replicate c.variables-vars.result false
      ∙ c.variables-vars.ensures.value;
  shape = subst (λ (s : Spec). HasShape s.relations c.in_ok-completion.completion) c.spec.ensures
      c.in_ok-completion.ensures.shape;
  per_part = ap (λ (ds : List Bool). length ds) c.in_ok-done.ensures ∙ length-replicate c.count-left.result
      false ∙ c.count-left.ensures;
  each = λ part is.
      absurd (not_done c.count-left.result part
      (subst (λ (ds : List Bool). slice_get ds part ≡ Some true) c.in_ok-done.ensures is));
}
