-- Where the documents of `ask --csv` are read, a table is told, or what hinders it; and what is due is alike.
use Rattle.std.proofs.Common.{◌≡◌, ◌∙◌, ℕ, true, List, Result, ap, inl, inr, refl, subst, sym}
use Rattle.answer_tables.proofs.Stages.{OneQuestion, OneSpec, OneTree, table_like}
use Rattle.certain_table.specs.Table.{ComesToTable, IsCertainTableDue, IsCertainTableOf, table_done, verdict_done}
use Rattle.command_stages.proofs.Outcomes.{IsLike, answer_or_limit, limit_or_answer, same_alike, tables_alike}
use Rattle.command_stages.specs.Endings.{IsOfAnswers, IsOfTable, ending_status}
use Rattle.command_stages.specs.Outcomes.{status_of}
use Rattle.command_stages.specs.declared.done.Done.{Done}
use Rattle.command_stages.specs.declared.done.Ending.{Ending}
use Rattle.command_stages.specs.declared.done.Ending.TheVariants as ending
use Rattle.command_stages.specs.declared.trouble.Trouble.{Trouble}
use Rattle.currency_ask.specs.Answered.{HasTooMany}
use Rattle.program_words.specs.Words.{TableSaid}
use Rattle.query_syntax.specs.declared.trees.QueryTree.{QueryTree}
use Rattle.report_model.specs.Verdicts.{is_decided, kind_of}
use Rattle.report_model.specs.declared.report.Report.{Report}
use Rattle.report_model.specs.declared.verdict.Verdict.{Verdict}
use Rattle.report_model.specs.declared.verdict.Verdict.TheVariants as verdict
use Rattle.report_verify.specs.Right.{IsRight}
use Rattle.spec_model.specs.Completion.{Rankings}
use Rattle.spec_model.specs.Consistent.{IsSatisfiable}
use Rattle.spec_model.specs.Spec.{Spec}
use Rattle.spec_model.specs.declared.question.Question.{Question}
use Rattle.spec_model.specs.declared.relation.Relation.{Relation}
use Rattle.answer_texts.specs.Answers.{IsAnswer}

-- ---- it ends as a table does

pub of_table : (relations : List Relation) (query : QueryTree) (r : Report) (v : Verdict)
    → IsOfTable (verdict_done relations query r v).ending
of_table relations query r (verdict.Answers tuples) = tt
of_table relations query r verdict.Inconsistent = tt
of_table relations query r verdict.Consistent = tt
of_table relations query r verdict.Certain = tt
of_table relations query r (verdict.NotCertain p) = tt
of_table relations query r (verdict.Same items) = tt
of_table relations query r (verdict.NotSame rel attr ent) = tt
of_table relations query r (verdict.Undecided n) = tt

-- and, where there is a consistent completion, as what looks for answers
of_answers : (relations : List Relation) (query : QueryTree) (r : Report) (v : Verdict) → (v ≡ verdict.Inconsistent → ⊥)
    → IsOfAnswers (verdict_done relations query r v).ending
of_answers relations query r (verdict.Answers tuples) not = tt
of_answers relations query r verdict.Inconsistent not = absurd (not refl)
of_answers relations query r verdict.Consistent not = tt
of_answers relations query r verdict.Certain not = tt
of_answers relations query r (verdict.NotCertain p) not = tt
of_answers relations query r (verdict.Same items) not = tt
of_answers relations query r (verdict.NotSame rel attr ent) not = tt
of_answers relations query r (verdict.Undecided n) not = tt

-- ---- a consistent completion, and the verdict that there is none

pub of_inconsistent : (s : Spec) (q : Question) (budget : ℕ) (r : Report) → IsAnswer s q budget r → r.verdict ≡ verdict.Inconsistent
    → IsSatisfiable s → ⊥
of_inconsistent s q budget r answer is =
    let right : is_decided (kind_of verdict.Inconsistent) ≡ true → IsRight s q verdict.Inconsistent =
    subst (λ (v : Verdict). is_decided (kind_of v) ≡ true → IsRight s q v) is answer.right in
    right refl

not_inconsistent : (s : Spec) (q : Question) (budget : ℕ) (r : Report) (c : Rankings) → IsAnswer s q budget r
    → HasTooMany s q c → r.verdict ≡ verdict.Inconsistent → ⊥
not_inconsistent s q budget r c answer many is =
    of_inconsistent s q budget r answer is (c, many.consistent)

-- ---- it is alike

pub certain_of_like : (budget : ℕ) (s : Spec) (q : Question) (query : QueryTree) → IsLike (IsCertainTableOf budget s q query)
certain_of_like budget s q query x y (inl h) (inl k) =
    tables_alike (table_done s.relations query h.0) (table_done s.relations query k.0) x y
    (of_table s.relations query h.0 h.0.verdict) (of_table s.relations query k.0 k.0.verdict) h.2 k.2
certain_of_like budget s q query x y (inl h) (inr k) =
    answer_or_limit (table_done s.relations query h.0) x y
    (of_answers s.relations query h.0 h.0.verdict (not_inconsistent s q budget h.0 k.0 h.1 k.1)) h.2 k.2
certain_of_like budget s q query x y (inr h) (inl k) =
    limit_or_answer (table_done s.relations query k.0) x y
    (of_answers s.relations query k.0 k.0.verdict (not_inconsistent s q budget k.0 h.0 k.1 h.1)) h.2 k.2
certain_of_like budget s q query x y (inr h) (inr k) = same_alike x y (h.2 ∙ sym k.2)

pub certain_like : OneTree → OneSpec → OneQuestion → (told : List (List ℕ × List ℕ)) (a : TableSaid)
    → IsLike (IsCertainTableDue told a)
certain_like trees specs questions told a =
    table_like told a (IsCertainTableOf a.budget) trees (certain_of_like a.budget) specs questions

-- ---- its status

table_status : (s : Spec) (q : Question) (e : Ending) (status : ℕ) → IsOfTable e → status ≡ ending_status e
    → ComesToTable s q status
table_status s q ending.Printed status of is = absurd of
table_status s q ending.Decided status of is = absurd of
table_status s q ending.Denied status of is = absurd of
table_status s q ending.Undecided status of is = absurd of
table_status s q ending.Tabled status of is = inl is
table_status s q ending.Inconsistent status of is = inr (inr (inr is))
table_status s q ending.Open status of is = inr (inl is)

pub certain_comes : (budget : ℕ) (s : Spec) (q : Question) (query : QueryTree) (got : Result Done Trouble) (status : ℕ)
    → IsCertainTableOf budget s q query got → status ≡ status_of got → ComesToTable s q status
certain_comes budget s q query got status (inl h) is =
    table_status s q (table_done s.relations query h.0).ending status (of_table s.relations query h.0 h.0.verdict)
    (is ∙ ap (λ (o : Result Done Trouble). status_of o) h.2)
certain_comes budget s q query got status (inr h) is =
    inr (inr (inl (is ∙ ap (λ (o : Result Done Trouble). status_of o) h.2, h.0, h.1)))
