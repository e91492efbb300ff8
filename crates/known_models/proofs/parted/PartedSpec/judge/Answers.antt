use Rattle.std.proofs.Common.{◌∙◌, length, sym, ap}
use Rattle.order_literals.specs.Numbers.{Numbers}
use Rattle.order_literals.specs.Statements.{statements_of}
use Rattle.known_models.specs.Known.{numbers_in}
use Rattle.known_models.proofs.parted.PartedSpec.judge.Goals as goal

pub judge_list-requires-clause-assignment : goal.judge_list-requires-clause-assignment
judge_list-requires-clause-assignment c =
    c.requires.truths
    ∙ sym (ap (λ (n : Numbers). length (statements_of n)) (c.self.invariant.numbers ∙ ap numbers_in c.self.view_is))
