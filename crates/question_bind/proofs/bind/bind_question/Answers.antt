-- A question on relations reads no table, and neither does one on a query.
use Rattle.bind_faults.proofs.Outcomes.{read_fault_of}
use Rattle.question_bind.proofs.Unread.{same_no_read}
use Rattle.question_bind.proofs.bind.bind_question.Goals as goal

pub returns-in-Same-clause-read_fault : goal.returns-in-Same-clause-read_fault
returns-in-Same-clause-read_fault g c = λ reads. absurd (same_no_read c.args.spec.now.relations _ c.bind_same.result
    c.bind_same.ensures.due reads)

pub returns-in-Same-clause-table_due : goal.returns-in-Same-clause-table_due
returns-in-Same-clause-table_due g c = λ name reads.
    absurd (same_no_read c.args.spec.now.relations _ c.bind_same.result c.bind_same.ensures.due
    (read_fault_of c.bind_same.result name reads))

pub returns-in-Answers-clause-read_fault : goal.returns-in-Answers-clause-read_fault
returns-in-Answers-clause-read_fault g c = λ reads. absurd (c.bind_answers.ensures.reads reads)

pub returns-in-Answers-clause-table_due : goal.returns-in-Answers-clause-table_due
returns-in-Answers-clause-table_due g c = λ name reads. absurd
    (c.bind_answers.ensures.reads (read_fault_of c.bind_answers.result name reads))
