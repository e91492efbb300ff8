-- What `ask` told, by the status it ended with.
use Rattle.std.proofs.Common.{◌≡◌, ◌⊎◌, ℕ, Bool, true, false, cond, List, refl, subst, sym, arith, inl, inr}
use Rattle.std.specs.Prelude.{◌&&◌}
use Rattle.ask_command.specs.Asked.{IsAnswerPrinted, IsAskDenied, IsAskSpent}
use Rattle.ask_command.specs.Forms.{ask_ending, is_no}
use Rattle.command_stages.specs.Endings.{IsOfDenial, IsOfQuestion, ending_of, ending_status}
use Rattle.command_stages.specs.declared.done.Ending.{Ending}
use Rattle.command_stages.specs.declared.done.Ending.TheVariants as ending
use Rattle.program_words.specs.Words.{AskSaid}
use Rattle.report_model.specs.Verdicts.{is_decided, kind_of}
use Rattle.report_model.specs.declared.verdict.VerdictKind.{VerdictKind}
use Rattle.answer_texts.proofs.Spent.{short}

-- a question ends so, whether or not the status tells an answer of no
abbrev pub IsOfAsk : Ending → Type 0
IsOfAsk e = IsOfQuestion e ⊎ IsOfDenial e

pub ends_as_asked : (exit : Bool) (k : VerdictKind) → IsOfAsk (ask_ending exit k)
ends_as_asked exit k = by (exit && is_no k) (is_decided k)
  where
    by : (denied decided : Bool) → IsOfAsk (cond denied ending.Denied (ending_of decided))
    by true decided = inr tt
    by false true = inl tt
    by false false = inl tt

-- an answer ends as a question does
pub of_ask : (told : List (List ℕ × List ℕ)) (a : AskSaid) (text : List ℕ) (e : Ending) → IsAnswerPrinted told a text e
    → IsOfAsk e
of_ask told a text e h = subst IsOfAsk (sym h.ended) (ends_as_asked a.exit (kind_of h.report.verdict))

neither : ⊥ ⊎ ⊥ → ⊥
neither (inl h) = h
neither (inr h) = h

undecided_apart : ending.Undecided ≡ ending.Decided → ⊥
undecided_apart e = cc

undecided_no_denial : ending.Undecided ≡ ending.Denied → ⊥
undecided_no_denial e = cc

denied_apart : ending.Denied ≡ ending.Decided → ⊥
denied_apart e = cc

is_undecided : (exit : Bool) (k : VerdictKind) → ending.Undecided ≡ ask_ending exit k → is_decided k ≡ false
is_undecided exit k e = by (exit && is_no k) (is_decided k) e
  where
    by : (denied decided : Bool) → ending.Undecided ≡ cond denied ending.Denied (ending_of decided) → decided ≡ false
    by true decided e = absurd (undecided_no_denial e)
    by false true e = absurd (undecided_apart e)
    by false false e = refl

is_denied : (exit : Bool) (k : VerdictKind) → ending.Denied ≡ ask_ending exit k → (exit ≡ true) × (is_no k ≡ true)
is_denied exit k e = by exit (is_no k) (is_decided k) e
  where
    by : (exit negative decided : Bool) → ending.Denied ≡ cond (exit && negative) ending.Denied (ending_of decided)
        → (exit ≡ true) × (negative ≡ true)
    by true true decided e = (refl, refl)
    by true false true e = absurd (denied_apart e)
    by true false false e = absurd (undecided_no_denial (sym e))
    by false negative true e = absurd (denied_apart e)
    by false negative false e = absurd (undecided_no_denial (sym e))

pub decided_printed : (told : List (List ℕ × List ℕ)) (a : AskSaid) (text : List ℕ) (e : Ending) → ending_status e ≡ 0
    → IsAnswerPrinted told a text e
    → IsAnswerPrinted told a text ending.Decided
decided_printed told a text ending.Decided zero h = h
decided_printed told a text ending.Denied zero h = absurd (omega (arith, zero))
decided_printed told a text ending.Undecided zero h = absurd (omega (arith, zero))
decided_printed told a text ending.Printed zero h = absurd (neither (of_ask told a text ending.Printed h))
decided_printed told a text ending.Tabled zero h = absurd (neither (of_ask told a text ending.Tabled h))
decided_printed told a text ending.Inconsistent zero h = absurd (neither (of_ask told a text ending.Inconsistent h))
decided_printed told a text ending.Open zero h = absurd (neither (of_ask told a text ending.Open h))

pub denied_printed : (told : List (List ℕ × List ℕ)) (a : AskSaid) (text : List ℕ) (e : Ending) → ending_status e ≡ 1
    → IsAnswerPrinted told a text e
    → IsAskDenied told a text
denied_printed told a text ending.Denied one h =
    let is = is_denied a.exit (kind_of h.report.verdict) h.ended in
    (h, is.0, is.1)
denied_printed told a text ending.Decided one h = absurd (omega (arith, one))
denied_printed told a text ending.Undecided one h = absurd (omega (arith, one))
denied_printed told a text ending.Printed one h = absurd (omega (arith, one))
denied_printed told a text ending.Tabled one h = absurd (omega (arith, one))
denied_printed told a text ending.Inconsistent one h = absurd (omega (arith, one))
denied_printed told a text ending.Open one h = absurd (omega (arith, one))

pub spent_printed : (told : List (List ℕ × List ℕ)) (a : AskSaid) (text : List ℕ) (e : Ending) → ending_status e ≡ 3
    → IsAnswerPrinted told a text e
    → IsAskSpent told a text
spent_printed told a text ending.Decided three h = absurd (omega (arith, three))
spent_printed told a text ending.Denied three h = absurd (omega (arith, three))
spent_printed told a text ending.Printed three h = absurd (omega (arith, three))
spent_printed told a text ending.Tabled three h = absurd (omega (arith, three))
spent_printed told a text ending.Inconsistent three h = absurd (omega (arith, three))
spent_printed told a text ending.Open three h = absurd (neither (of_ask told a text ending.Open h))
spent_printed told a text ending.Undecided three h = (
  h,
  short h.spec h.question a.budget h.report h.answer (is_undecided a.exit (kind_of h.report.verdict) h.ended),
)

-- no question ends with the status of a table that could not be told of
pub not_bare : (told : List (List ℕ × List ℕ)) (a : AskSaid) (text : List ℕ) (e : Ending) → ending_status e ≡ 10
    → IsAnswerPrinted told a text e → ⊥
not_bare told a text ending.Inconsistent ten h = neither (of_ask told a text ending.Inconsistent h)
not_bare told a text ending.Decided ten h = omega (arith, ten)
not_bare told a text ending.Denied ten h = omega (arith, ten)
not_bare told a text ending.Undecided ten h = omega (arith, ten)
not_bare told a text ending.Printed ten h = omega (arith, ten)
not_bare told a text ending.Tabled ten h = omega (arith, ten)
not_bare told a text ending.Open ten h = omega (arith, ten)
