use Rattle.std.proofs.Common.{◌∙◌, ◌<◌, ap, arith}
use Rattle.refutation_log.specs.declared.statement.Statement.TheVariants as says
use Rattle.order_literals.specs.Numbers.{Numbers}
use Rattle.order_literals.specs.Statements.{statements_of}
use Rattle.order_literals.specs.declared.block.Block.TheVariants.{Answers}
use Rattle.order_literals.proofs.Inside.{answer_in, answers_count}
use Rattle.order_literals.proofs.Saying.{says_it, answer_said}
use Rattle.order_literals.proofs.numbering.Numbering.answer_if.Goals as goal

pub returns-then-tuple-answers-clause-none : goal.returns-then-tuple-answers-clause-none
returns-then-tuple-answers-clause-none c lit told =
    let within = answer_said c.args.self.now c.args.tuple lit told in
    let many = c.answers.ensures ∙ ap (λ (n : Numbers). n.answers) c.self.view_is in
    absurd (omega arith)

pub var-requires : goal.var-requires
var-requires c =
    let n = c.self.inside.catalogue in
    record {
      block = Answers;
      is_block = c.answers_place-place.ensures;
      within = omega (arith, answers_count n, c.answers.ensures);
    }

pub returns-clause-some : goal.returns-clause-some
returns-clause-some c =
    let n = c.self.inside.catalogue in
    let within : c.args.tuple < n.answers = omega (arith, c.answers.ensures) in
    let at = rw c.self.view_is at (c.var.ensures.value Answers c.answers_place-place.ensures ∙ answer_in n c.args.tuple within) in
    says_it (statements_of c.args.self.now) c.new.result c.var.result (says.Answer c.args.tuple) c.new.ensures.var
    c.new.ensures.negative at
