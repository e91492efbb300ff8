-- Where the documents of `possible --csv` are read, a table is told, or what hinders it; and what is due is alike.
use Rattle.std.proofs.Common.{◌≡◌, ◌⊎◌, ◌∙◌, ℕ, List, Result, Ok, Err, ap, inl, inr, sym}
use Rattle.answer_tables.proofs.Stages.{OneQuestion, OneSpec, OneTree, table_like}
use Rattle.command_stages.proofs.Outcomes.{IsLike, answer_or_limit, limit_or_answer, same_alike, tables_alike}
use Rattle.command_stages.specs.Alike.{AreAlike}
use Rattle.command_stages.specs.Endings.{IsOfAnswers, IsOfTable, ending_status}
use Rattle.command_stages.specs.Outcomes.{status_of}
use Rattle.command_stages.specs.declared.done.Done.{Done}
use Rattle.command_stages.specs.declared.done.Ending.{Ending}
use Rattle.command_stages.specs.declared.done.Ending.TheVariants as ending
use Rattle.command_stages.specs.declared.trouble.Trouble.{Trouble}
use Rattle.command_stages.specs.declared.trouble.Trouble.TheVariants as trouble
use Rattle.possible_values.specs.Possible.{HasTooMany}
use Rattle.possible_values.proofs.Few.{few_or_many}
use Rattle.possible_values.specs.Candidates.{HasTooManyCandidates}
use Rattle.possible_values.specs.Possible.{HasFewCandidates}
use Rattle.program_words.specs.Words.{TableSaid}
use Rattle.query_syntax.specs.declared.trees.QueryTree.{QueryTree}
use Rattle.spec_model.specs.Completion.{Rankings}
use Rattle.spec_model.specs.Consistent.{IsSatisfiable}
use Rattle.spec_model.specs.Spec.{Spec}
use Rattle.spec_model.specs.declared.question.Question.{Question}
use Rattle.possible_table.specs.Table.{ComesToPossibleTable, IsPossibleTableDue, IsPossibleTableOf, bare, left_open}
use Rattle.possible_table.specs.Table.{left_short, many_answers, many_matches, tabled}

-- ---- the ways in which it ends

-- it ends as a table does; where there is a consistent completion, as what looks for answers
record EndsAsTable (s : Spec) (outcome : Result Done Trouble) : Type 0 where
  pub done : Done
  pub of_table : IsOfTable done.ending
  pub of_answers : IsSatisfiable s → IsOfAnswers done.ending
  pub comes : outcome ≡ Ok done

-- a table, or a limit that is exceeded
abbrev IsTableOrLimit : Spec → Question → Result Done Trouble → Type 0
IsTableOrLimit s q outcome =
    (HasFewCandidates s q × EndsAsTable s outcome)
    ⊎ ((HasTooManyCandidates s.relations q × (outcome ≡ Err (trouble.Limit 13)))
    ⊎ (HasFewCandidates s q × ((c : Rankings) × HasTooMany s q c) × (outcome ≡ Err (trouble.Limit 3))))

table_or_limit : (budget : ℕ) (s : Spec) (q : Question) (query : QueryTree) (outcome : Result Done Trouble)
    → IsPossibleTableOf budget s q query outcome → IsTableOrLimit s q outcome
table_or_limit budget s q query outcome (tabled few h) =
    inl (few, record { done = _; of_table = tt; of_answers = λ one. tt; comes = h.comes })
table_or_limit budget s q query outcome (bare few h) =
    inl (few, record { done = _; of_table = tt; of_answers = λ one. absurd (h.none one); comes = h.comes })
table_or_limit budget s q query outcome (left_open few h) =
    inl (few, record { done = _; of_table = tt; of_answers = λ one. tt; comes = h.comes })
table_or_limit budget s q query outcome (left_short few h) =
    inl (few, record { done = _; of_table = tt; of_answers = λ one. tt; comes = h.comes })
table_or_limit budget s q query outcome (many_matches many is) = inr (inl (many, is))
table_or_limit budget s q query outcome (many_answers {c} few many is) = inr (inr (few, (c, many), is))

-- ---- it is alike

apart : (s : Spec) (q : Question) → HasFewCandidates s q → HasTooManyCandidates s.relations q → ⊥
apart s q few many = few_or_many s.relations q few.0 few.1 many

one_of : (s : Spec) (q : Question) → (c : Rankings) × HasTooMany s q c → IsSatisfiable s
one_of s q h = (h.0, h.1.consistent)

alike : (s : Spec) (q : Question) (x y : Result Done Trouble) → IsTableOrLimit s q x → IsTableOrLimit s q y → AreAlike x y
alike s q x y (inl h) (inl k) = tables_alike h.1.done k.1.done x y h.1.of_table k.1.of_table h.1.comes k.1.comes
alike s q x y (inl h) (inr (inl k)) = absurd (apart s q h.0 k.0)
alike s q x y (inl h) (inr (inr k)) =
    answer_or_limit h.1.done x y (h.1.of_answers (one_of s q k.1)) h.1.comes k.2
alike s q x y (inr (inl h)) (inl k) = absurd (apart s q k.0 h.0)
alike s q x y (inr (inl h)) (inr (inl k)) = same_alike x y (h.1 ∙ sym k.1)
alike s q x y (inr (inl h)) (inr (inr k)) = absurd (apart s q k.0 h.0)
alike s q x y (inr (inr h)) (inl k) =
    limit_or_answer k.1.done x y (k.1.of_answers (one_of s q h.1)) h.2 k.1.comes
alike s q x y (inr (inr h)) (inr (inl k)) = absurd (apart s q h.0 k.0)
alike s q x y (inr (inr h)) (inr (inr k)) = same_alike x y (h.2 ∙ sym k.2)

pub possible_of_like : (budget : ℕ) (s : Spec) (q : Question) (query : QueryTree) → IsLike (IsPossibleTableOf budget s q query)
possible_of_like budget s q query x y h k =
    alike s q x y (table_or_limit budget s q query x h) (table_or_limit budget s q query y k)

pub possible_table_like : OneTree → OneSpec → OneQuestion → (told : List (List ℕ × List ℕ)) (a : TableSaid)
    → IsLike (IsPossibleTableDue told a)
possible_table_like trees specs questions told a =
    table_like told a (IsPossibleTableOf a.budget) trees (possible_of_like a.budget) specs questions

-- what is told ends as a table does
pub ends_as_table : (budget : ℕ) (s : Spec) (q : Question) (query : QueryTree) (d : Done)
    → IsPossibleTableOf budget s q query (Ok d) → IsOfTable d.ending
ends_as_table budget s q query d h = by (table_or_limit budget s q query (Ok d) h)
  where
    same : {e : Done} → ◌≡◌ {A = Result Done Trouble} (Ok d) (Ok e) → IsOfTable e.ending → IsOfTable d.ending
    same is of = rw (done_is is) of
      where
        done_is : {e : Done} → ◌≡◌ {A = Result Done Trouble} (Ok d) (Ok e) → d ≡ e
        done_is is = cc

    no : {e : Trouble} → ◌≡◌ {A = Result Done Trouble} (Ok d) (Err e) → ⊥
    no is = cc

    by : IsTableOrLimit s q (Ok d) → IsOfTable d.ending
    by (inl h) = same h.1.comes h.1.of_table
    by (inr (inl h)) = absurd (no h.1)
    by (inr (inr h)) = absurd (no h.2)

-- ---- its status

table_status : (s : Spec) (q : Question) (e : Ending) (status : ℕ) → IsOfTable e → status ≡ ending_status e
    → ComesToPossibleTable s q status
table_status s q ending.Printed status of is = absurd of
table_status s q ending.Decided status of is = absurd of
table_status s q ending.Denied status of is = absurd of
table_status s q ending.Undecided status of is = absurd of
table_status s q ending.Tabled status of is = inl is
table_status s q ending.Inconsistent status of is = inr (inr (inr is))
table_status s q ending.Open status of is = inr (inl is)

comes_at : (s : Spec) (q : Question) (got : Result Done Trouble) (status : ℕ) → IsTableOrLimit s q got → status ≡ status_of got
    → ComesToPossibleTable s q status
comes_at s q got status (inl h) is =
    table_status s q h.1.done.ending status h.1.of_table (is ∙ ap (λ (o : Result Done Trouble). status_of o) h.1.comes)
comes_at s q got status (inr (inl h)) is =
    inr (inr (inl (is ∙ ap (λ (o : Result Done Trouble). status_of o) h.1, inl h.0)))
comes_at s q got status (inr (inr h)) is =
    inr (inr (inl (is ∙ ap (λ (o : Result Done Trouble). status_of o) h.2, inr h.1)))

pub possible_table_comes : (budget : ℕ) (s : Spec) (q : Question) (query : QueryTree) (got : Result Done Trouble) (status : ℕ)
    → IsPossibleTableOf budget s q query got → status ≡ status_of got → ComesToPossibleTable s q status
possible_table_comes budget s q query got status h is = comes_at s q got status (table_or_limit budget s q query got h) is
