-- What `possible --csv` told, by the status it ended with.
use Rattle.std.proofs.Common.{◌≡◌, ◌⊎◌, ℕ, List, Result, Ok, Err, ap, arith, inl, inr, sym}
use Rattle.command_stages.specs.Endings.{IsOfTable, ending_status}
use Rattle.command_stages.specs.declared.done.Done.{Done}
use Rattle.command_stages.specs.declared.done.Ending.{Ending}
use Rattle.command_stages.specs.declared.done.Ending.TheVariants as ending
use Rattle.command_stages.specs.declared.trouble.Trouble.{Trouble}
use Rattle.program_words.specs.Words.{TableSaid}
use Rattle.query_syntax.specs.declared.trees.QueryTree.{QueryTree}
use Rattle.spec_model.specs.Consistent.{IsSatisfiable}
use Rattle.spec_model.specs.Spec.{Spec}
use Rattle.spec_model.specs.declared.question.Question.{Question}
use Rattle.possible_table.specs.Table.{IsLeftOpen, IsLeftShort, IsPossibleTable, IsPossibleTableBare, IsPossibleTableOf}
use Rattle.possible_table.specs.Table.{IsPossibleTablePrinted, IsPossibleTableShort, IsPossibleTabled, bare, left_open}
use Rattle.possible_table.specs.Table.{left_short}
use Rattle.possible_table.specs.Table.{many_answers, many_matches, tabled}
use Rattle.possible_table.proofs.Replies.{ends_as_table}

-- ---- one text with one ending

apart : {text other : List ℕ} {e f : Ending} → (e ≡ f → ⊥)
    → ◌≡◌ {A = Result Done Trouble} (Ok (record { text = text; ending = e })) (Ok (record { text = other; ending = f })) → ⊥
apart {text} {other} {e} {f} differ is = differ (ap (λ (d : Done). d.ending) (ok_is is))
  where
    ok_is : {x y : Done} → ◌≡◌ {A = Result Done Trouble} (Ok x) (Ok y) → x ≡ y
    ok_is is = cc

tabled_none : ending.Tabled ≡ ending.Inconsistent → ⊥
tabled_none e = cc

tabled_open : ending.Tabled ≡ ending.Open → ⊥
tabled_open e = cc

none_open : ending.Inconsistent ≡ ending.Open → ⊥
none_open e = cc

refusal : {d : Done} {e : Trouble} → ◌≡◌ {A = Result Done Trouble} (Ok d) (Err e) → ⊥
refusal is = cc

module _ (budget : ℕ) (s : Spec) (q : Question) (query : QueryTree) (text : List ℕ) where
  abbrev Comes : Ending → Type 0
  Comes e = IsPossibleTableOf budget s q query (Ok (record { text = text; ending = e }))

  whole : Comes ending.Tabled → IsPossibleTable s q query (Ok (record { text = text; ending = ending.Tabled }))
  whole (tabled few h) = h
  whole (bare few h) = absurd (apart tabled_none h.comes)
  whole (left_open few h) = absurd (apart tabled_open h.comes)
  whole (left_short few h) = absurd (apart tabled_open h.comes)
  whole (many_matches many is) = absurd (refusal is)
  whole (many_answers few many is) = absurd (refusal is)

  short : Comes ending.Open → IsLeftOpen s budget (Ok (record { text = text; ending = ending.Open }))
      ⊎ IsLeftShort s q budget (Ok (record { text = text; ending = ending.Open }))
  short (tabled few h) = absurd (apart (λ e. tabled_open (sym e)) h.comes)
  short (bare few h) = absurd (apart (λ e. none_open (sym e)) h.comes)
  short (left_open few h) = inl h
  short (left_short few h) = inr h
  short (many_matches many is) = absurd (refusal is)
  short (many_answers few many is) = absurd (refusal is)

  none : Comes ending.Inconsistent → IsSatisfiable s → ⊥
  none (tabled few h) = absurd (apart (λ e. tabled_none (sym e)) h.comes)
  none (bare few h) = h.none
  none (left_open few h) = absurd (apart none_open h.comes)
  none (left_short few h) = absurd (apart none_open h.comes)
  none (many_matches many is) = absurd (refusal is)
  none (many_answers few many is) = absurd (refusal is)

-- ---- by the status

module _ (told : List (List ℕ × List ℕ)) (a : TableSaid) (text : List ℕ) where
  pub of_table : (e : Ending) → IsPossibleTablePrinted told a text e → IsOfTable e
  of_table e h = ends_as_table a.budget h.spec h.question h.query (record { text = text; ending = e }) h.job

  pub tabled_printed : (e : Ending) → ending_status e ≡ 0 → IsPossibleTablePrinted told a text e → IsPossibleTabled told a text
  tabled_printed ending.Tabled zero h = (h, whole a.budget h.spec h.question h.query text h.job)
  tabled_printed ending.Printed zero h = absurd (of_table ending.Printed h)
  tabled_printed ending.Decided zero h = absurd (of_table ending.Decided h)
  tabled_printed ending.Denied zero h = absurd (of_table ending.Denied h)
  tabled_printed ending.Undecided zero h = absurd (of_table ending.Undecided h)
  tabled_printed ending.Inconsistent zero h = absurd (omega (arith, zero))
  tabled_printed ending.Open zero h = absurd (omega (arith, zero))

  pub open_printed : (e : Ending) → ending_status e ≡ 3 → IsPossibleTablePrinted told a text e → IsPossibleTableShort told a text
  open_printed ending.Open three h = (h, short a.budget h.spec h.question h.query text h.job)
  open_printed ending.Printed three h = absurd (of_table ending.Printed h)
  open_printed ending.Decided three h = absurd (of_table ending.Decided h)
  open_printed ending.Denied three h = absurd (of_table ending.Denied h)
  open_printed ending.Undecided three h = absurd (of_table ending.Undecided h)
  open_printed ending.Tabled three h = absurd (omega (arith, three))
  open_printed ending.Inconsistent three h = absurd (omega (arith, three))

  pub bare_printed : (e : Ending) → ending_status e ≡ 10 → IsPossibleTablePrinted told a text e → IsPossibleTableBare told a text
  bare_printed ending.Inconsistent ten h = (h, none a.budget h.spec h.question h.query text h.job)
  bare_printed ending.Printed ten h = absurd (of_table ending.Printed h)
  bare_printed ending.Decided ten h = absurd (of_table ending.Decided h)
  bare_printed ending.Denied ten h = absurd (of_table ending.Denied h)
  bare_printed ending.Undecided ten h = absurd (of_table ending.Undecided h)
  bare_printed ending.Tabled ten h = absurd (omega (arith, ten))
  bare_printed ending.Open ten h = absurd (omega (arith, ten))
