use Rattle.std.proofs.Common.{IfSome}
use Rattle.std.proofs.lemmas.Result.{IfErr-weaker}
use Rattle.command_stages.specs.Named.{IsDeterminedTrouble}
use Rattle.answer_tables.specs.Asked.{AsksNothing, IsTrouble, table_said}
use Rattle.answer_tables.proofs.Reading.{none_asked, question_refused, spec_refused}
use Rattle.answer_tables.proofs.asked.read_query.Goals as goal

pub returns-in-Err-clause-refused : goal.returns-in-Err-clause-refused
returns-in-Err-clause-refused g c =
    spec_refused (g.S.Shelf.texts c.args.shelf.now) (table_said c.args.asked) c.in-Err.trouble c.in-Err.ensures.stage

pub returns-in-Err-read_question_with_tree-clause-refused : goal.returns-in-Err-read_question_with_tree-clause-refused
returns-in-Err-read_question_with_tree-clause-refused g c =
    question_refused (g.S.Shelf.texts c.args.shelf.now) (table_said c.args.asked) c.in-Ok.spec
    c.in-Err-read_question_with_tree.trouble
    (c.in-Ok.ensures.stage tt) (rw c.in-Ok.ensures.kept at c.in-Err-read_question_with_tree.ensures.stage)

pub returns-in-Ok-read_question_with_tree-clause-refused : goal.returns-in-Ok-read_question_with_tree-clause-refused
returns-in-Ok-read_question_with_tree-clause-refused g c =
    IfErr-weaker c.with_query.result (λ e. IsDeterminedTrouble e → AsksNothing c.in-Ok-read_question_with_tree.read.tree (table_said c.args.asked).question e)
    (λ e. IsDeterminedTrouble e → IfSome (g.S.Shelf.texts c.args.shelf.now) (λ told. IsTrouble told (table_said c.args.asked) e))
    (λ e. none_asked (g.S.Shelf.texts c.args.shelf.now) (table_said c.args.asked) c.in-Ok.spec
    c.in-Ok-read_question_with_tree.read.question c.in-Ok-read_question_with_tree.read.tree e
    (c.in-Ok.ensures.stage tt) (rw c.in-Ok.ensures.kept at c.in-Ok-read_question_with_tree.ensures.stage tt)
    (rw c.in-Ok.ensures.kept at c.in-Ok-read_question_with_tree.ensures.tree))
    c.with_query.ensures.none
