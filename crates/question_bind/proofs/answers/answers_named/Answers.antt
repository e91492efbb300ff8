-- A query becomes a question, and its fault is handed on.
use Rattle.std.proofs.Common.{Result, Ok, map, ap}
use Rattle.bind_faults.specs.Faults.{and_then}
use Rattle.bind_faults.specs.declared.fault.BindFault.{BindFault}
use Rattle.bind_faults.proofs.Outcomes.{due_through, same_read_fault}
use Rattle.query_model.specs.declared.query.Query.{Query}
use Rattle.spec_model.specs.declared.question.Question.{Question}
use Rattle.spec_model.specs.declared.question.Question.TheVariants.{Answers}
use Rattle.query_bind.specs.Queried.{queried_on}
use Rattle.question_bind.specs.Bound.{answers_of}
use Rattle.question_bind.proofs.answers.answers_named.Goals as goal

pub returns-in-Ok-clause-due : goal.returns-in-Ok-clause-due
returns-in-Ok-clause-due c = ap (λ (r : Result Query BindFault). and_then r (λ q. Ok (Answers q))) c.in-Ok.ensures.due

pub returns-in-Err-clause-due : goal.returns-in-Err-clause-due
returns-in-Err-clause-due c =
    due_through (queried_on (map (λ r. r.name) c.args.spec.now.relations) c.args.spec.now.relations c.args.tree.now)
    (answers_of c.args.spec.now.relations c.args.tree.now) c.in-Err.fault c.in-Err.ensures.due
    (λ is. ap (λ (r : Result Query BindFault). and_then r (λ q. Ok (Answers q))) is)

pub returns-in-Err-clause-reads : goal.returns-in-Err-clause-reads
returns-in-Err-clause-reads c = λ reads. c.in-Err.ensures.reads (same_read_fault Question Query c.in-Err.fault reads)
