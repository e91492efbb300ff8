-- What the job comes to is what is due, and what is told.
use Rattle.std.proofs.Common.{ℕ, List, Option, None, Some, IfOk, IfSome, Result, Ok, Err}
use Rattle.answer_tables.proofs.Stages.{job_due, trouble_due}
use Rattle.answer_tables.specs.Asked.{IsQueryRead, IsTrouble}
use Rattle.command_stages.specs.Named.{IsDetermined, IsDeterminedTrouble}
use Rattle.command_stages.specs.declared.done.Done.{Done}
use Rattle.command_stages.specs.declared.trouble.Trouble.{Trouble}
use Rattle.program_words.specs.Words.{TableSaid}
use Rattle.query_syntax.specs.declared.trees.QueryTree.{QueryTree}
use Rattle.spec_model.specs.Spec.{Spec}
use Rattle.spec_model.specs.declared.question.Question.{Question}
use Rattle.possible_table.specs.Table.{IsPossibleTableDue, IsPossibleTableOf, IsPossibleTablePrinted}

-- what is due where the query is read
pub table_due : (texts : Option (List (List ℕ × List ℕ))) (a : TableSaid) (s : Spec) (q : Question) (query : QueryTree)
    (outcome : Result Done Trouble) → IfSome texts (λ told. IsQueryRead told a s q query)
    → (IsDetermined outcome → IsPossibleTableOf a.budget s q query outcome) → IsDetermined outcome
    → IfSome texts (λ told. IsPossibleTableDue told a outcome)
table_due None a s q query outcome read job determined = tt
table_due (Some told) a s q query outcome read job determined =
    job_due told a (IsPossibleTableOf a.budget) s q query outcome read (job determined)

-- and where it is not
pub refused_due : (texts : Option (List (List ℕ × List ℕ))) (a : TableSaid) (e : Trouble)
    → (IsDeterminedTrouble e → IfSome texts (λ told. IsTrouble told a e)) → IsDeterminedTrouble e
    → IfSome texts (λ told. IsPossibleTableDue told a (Err e))
refused_due None a e is determined = tt
refused_due (Some told) a e is determined = trouble_due told a (IsPossibleTableOf a.budget) e (is determined)

-- what is told
pub table_printed : (texts : Option (List (List ℕ × List ℕ))) (a : TableSaid) (s : Spec) (q : Question) (query : QueryTree)
    (outcome : Result Done Trouble) → IfSome texts (λ told. IsQueryRead told a s q query)
    → (IsDetermined outcome → IsPossibleTableOf a.budget s q query outcome)
    → IfOk outcome (λ d. IfSome texts (λ told. IsPossibleTablePrinted told a d.text d.ending))
table_printed texts a s q query (Err e) read job = tt
table_printed None a s q query (Ok d) read job = tt
table_printed (Some told) a s q query (Ok d) read job =
    record { spec = s; question = q; query = query; is_read = read; job = job tt }
