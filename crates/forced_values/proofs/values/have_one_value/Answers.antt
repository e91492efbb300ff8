use Rattle.std.proofs.Common.{◌∙◌, Some, sym, ap}
use Rattle.forced_values.proofs.SameValues.{equal_same}
use Rattle.forced_values.proofs.values.have_one_value.Goals as goal

pub returns : goal.returns
returns c = λ told.
    c.value_of.ensures
    ∙ ap (λ v. Some v) (equal_same c.value_of.result.now c.value_of-2.result.now (sym c.test.ensures ∙ told))
    ∙ sym c.value_of-2.ensures
