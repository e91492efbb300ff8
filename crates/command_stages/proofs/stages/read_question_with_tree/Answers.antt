use Rattle.std.proofs.Common.{arith, ap, length}
use Rattle.command_stages.specs.Stages.{IsQuestionSaid, text_bound}
use Rattle.command_stages.specs.Trees.{question_result}
use Rattle.command_stages.proofs.WholeTexts.{of_document, of_whole_question}
use Rattle.command_stages.proofs.stages.read_question_with_tree.Goals as goal

pub returns-clause-stage : goal.returns-clause-stage
returns-clause-stage g c determined =
    of_document (g.S.Shelf.texts c.args.shelf.now) c.args.name.now c.in_ok-bytes.bytes.items text_bound
    (λ t b. IsQuestionSaid t c.args.spec.now.relations c.args.name.now b) (question_result c.question_said.result)
    c.in_ok-bytes.ensures.whole
    (omega (arith, c.in_ok-bytes.ensures.within, c.as_slice.ensures.len, ap length c.as_slice.ensures.value))
    (rw c.as_slice.ensures.value at (rw c.in_ok-bytes.ensures.kept at (c.question_said.ensures.said determined)))

pub returns-clause-tree : goal.returns-clause-tree
returns-clause-tree g c =
    of_whole_question (g.S.Shelf.texts c.args.shelf.now) c.args.spec.now.relations c.args.name.now
    c.in_ok-bytes.bytes.items c.question_said.result
    c.in_ok-bytes.ensures.whole
    (rw c.as_slice.ensures.value at c.question_said.ensures.tree)
    (rw c.in_ok-bytes.ensures.kept at c.question_said.ensures.bound)
