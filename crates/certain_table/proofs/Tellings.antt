-- What the job comes to is what is due, and what is told.
use Rattle.std.proofs.Common.{◌≡◌, ℕ, List, Option, None, Some, IfErr, IfOk, IfSome, Result, Ok, Err, ap, inl, inr, subst}
use Rattle.answer_tables.proofs.Stages.{job_due, trouble_due}
use Rattle.answer_tables.specs.Asked.{IsQueryRead, IsTrouble}
use Rattle.certain_table.specs.Table.{IsCertainTableDue, IsCertainTableOf, IsCertainTablePrinted, table_done}
use Rattle.command_stages.specs.Named.{IsDetermined, IsDeterminedTrouble}
use Rattle.command_stages.specs.declared.done.Done.{Done}
use Rattle.command_stages.specs.declared.trouble.Trouble.{Trouble}
use Rattle.command_stages.specs.declared.trouble.Trouble.TheVariants as trouble
use Rattle.currency_ask.specs.Answered.{HasTooMany}
use Rattle.program_words.specs.Words.{TableSaid}
use Rattle.query_syntax.specs.declared.trees.QueryTree.{QueryTree}
use Rattle.report_model.specs.declared.report.Report.{Report}
use Rattle.spec_model.specs.Completion.{Rankings}
use Rattle.spec_model.specs.Spec.{Spec}
use Rattle.spec_model.specs.declared.question.Question.{Question}
use Rattle.answer_texts.specs.Answers.{IsAnswer}

-- a report is told
pub answered : (s : Spec) (budget : ℕ) (q : Question) (query : QueryTree) (r : Report) (outcome : Result Done Trouble)
    → IsAnswer s q budget r → IfOk outcome (λ d. d ≡ table_done s.relations query r)
    → IfErr outcome (λ e. e ≡ trouble.NoMemory) → IsDetermined outcome → IsCertainTableOf budget s q query outcome
answered s budget q query r (Ok d) answer told memory determined = inl (r, answer, ap Ok told)
answered s budget q query r (Err e) answer told memory determined = absurd (subst IsDeterminedTrouble memory determined)

-- there are too many answers
pub not_answered : (s : Spec) (budget : ℕ) (q : Question) (query : QueryTree) (e : Trouble)
    → (IsDeterminedTrouble e → (c : Rankings) × HasTooMany s q c × (e ≡ trouble.Limit 3))
    → IsDetermined {A = Done} (Err e) → IsCertainTableOf budget s q query (Err e)
not_answered s budget q query e many determined =
    let m = many determined in
    inr (m.0, m.1, ap Err m.2)

-- what is due where the query is read
pub table_due : (texts : Option (List (List ℕ × List ℕ))) (a : TableSaid) (s : Spec) (q : Question) (query : QueryTree)
    (outcome : Result Done Trouble) → IfSome texts (λ told. IsQueryRead told a s q query)
    → (IsDetermined outcome → IsCertainTableOf a.budget s q query outcome) → IsDetermined outcome
    → IfSome texts (λ told. IsCertainTableDue told a outcome)
table_due None a s q query outcome read job determined = tt
table_due (Some told) a s q query outcome read job determined =
    job_due told a (IsCertainTableOf a.budget) s q query outcome read (job determined)

-- and where it is not
pub refused_due : (texts : Option (List (List ℕ × List ℕ))) (a : TableSaid) (e : Trouble)
    → (IsDeterminedTrouble e → IfSome texts (λ told. IsTrouble told a e)) → IsDeterminedTrouble e
    → IfSome texts (λ told. IsCertainTableDue told a (Err e))
refused_due None a e is determined = tt
refused_due (Some told) a e is determined = trouble_due told a (IsCertainTableOf a.budget) e (is determined)

-- what is told
pub table_printed : (texts : Option (List (List ℕ × List ℕ))) (a : TableSaid) (s : Spec) (q : Question) (query : QueryTree)
    (outcome : Result Done Trouble) → IfSome texts (λ told. IsQueryRead told a s q query)
    → (IsDetermined outcome → IsCertainTableOf a.budget s q query outcome)
    → IfOk outcome (λ d. IfSome texts (λ told. IsCertainTablePrinted told a d.text d.ending))
table_printed texts a s q query (Err e) read job = tt
table_printed None a s q query (Ok d) read job = tt
table_printed (Some told) a s q query (Ok d) read job =
    record { spec = s; question = q; query = query; is_read = read; job = job tt }
