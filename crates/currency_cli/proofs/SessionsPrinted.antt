-- What is due for `session` where its documents are read, and what it printed, by the status it ended with.
use Rattle.std.proofs.Common.{◌≡◌, ◌⊎◌, ◌∙◌, ℕ, List, Bool, true, false, MatchResult, Result, Ok, Err, ap, arith, inl, inr, refl, subst, sym}
use Rattle.std.specs.Prelude.{not}
use Rattle.command_stages.specs.Endings.{IsOfQuestion, ending_of, ending_status}
use Rattle.command_stages.specs.Outcomes.{status_of}
use Rattle.command_stages.specs.Stages.{IsSpecRead, Then}
use Rattle.command_stages.specs.declared.done.Done.{Done}
use Rattle.command_stages.specs.declared.done.Ending.{Ending}
use Rattle.command_stages.specs.declared.done.Ending.TheVariants as ending
use Rattle.command_stages.specs.declared.trouble.Trouble.{Trouble}
use Rattle.program_words.specs.Words.{SessionSaid}
use Rattle.script_syntax.specs.declared.trees.Entry.{Entry}
use Rattle.session_command.specs.Sessions.{IsScriptRead, IsSessionDue, IsSessionPrinted, IsTold}
use Rattle.spec_model.specs.Spec.{Spec}

-- a document is read as one specification, and as one script
abbrev pub OneSpec : Type 0
OneSpec = (told : List (List ℕ × List ℕ)) (name : List ℕ) (a b : Result Spec Trouble) → IsSpecRead told name a
    → IsSpecRead told name b → a ≡ b

abbrev pub OneScript : Type 0
OneScript = (told : List (List ℕ × List ℕ)) (name : List ℕ) (a b : Result (List Entry) Trouble) → IsScriptRead told name a
    → IsScriptRead told name b → a ≡ b

-- ---- what is due

told_at : OneScript → (told : List (List ℕ × List ℕ)) (a : SessionSaid) (s : Spec) (entries : List Entry)
    (got : Result Done Trouble) → IsScriptRead told a.script (Ok entries)
    → Then (IsScriptRead told a.script) (IsTold told a s) got → IsTold told a s entries got
told_at one told a s entries got script h =
    subst (λ (o : Result (List Entry) Trouble). MatchResult o (λ x. IsTold told a s x got) (λ e. got ≡ Err e))
    (one told a.script h.0 (Ok entries) h.1 script) h.2

pub session_due : OneSpec → OneScript → (told : List (List ℕ × List ℕ)) (a : SessionSaid) (s : Spec) (entries : List Entry)
    (got : Result Done Trouble) → IsSpecRead told a.spec (Ok s) → IsScriptRead told a.script (Ok entries)
    → IsSessionDue told a got → IsTold told a s entries got
session_due one_spec one_script told a s entries got spec script h =
    told_at one_script told a s entries got script
    (subst (λ (o : Result Spec Trouble). MatchResult o (λ x. Then (IsScriptRead told a.script) (IsTold told a x) got)
    (λ e. got ≡ Err e)) (one_spec told a.spec h.0 (Ok s) h.1 spec) h.2)

-- ---- its status

pub session_comes : (told : List (List ℕ × List ℕ)) (a : SessionSaid) (s : Spec) (entries : List Entry)
    (got : Result Done Trouble) (status : ℕ) → IsTold told a s entries got → status ≡ status_of got → (status ≡ 0) ⊎ (status ≡ 3)
session_comes told a s entries got status h is =
    by h.1 (is ∙ ap (λ (o : Result Done Trouble). status_of o) h.3)
  where
    by : (undecided : Bool) → status ≡ ending_status (ending_of (not undecided)) → (status ≡ 0) ⊎ (status ≡ 3)
    by true same = inr same
    by false same = inl same

-- ---- what is printed

ends_as_question : (decided : Bool) → IsOfQuestion (ending_of decided)
ends_as_question true = tt
ends_as_question false = tt

pub of_question : (told : List (List ℕ × List ℕ)) (a : SessionSaid) (text : List ℕ) (e : Ending) → IsSessionPrinted told a text e
    → IsOfQuestion e
of_question told a text e h = subst IsOfQuestion (sym h.ended) (ends_as_question (not h.undecided))

pub decided_printed : (told : List (List ℕ × List ℕ)) (a : SessionSaid) (text : List ℕ) (e : Ending) → ending_status e ≡ 0
    → IsSessionPrinted told a text e → IsSessionPrinted told a text ending.Decided
decided_printed told a text ending.Decided zero h = h
decided_printed told a text ending.Undecided zero h = absurd (omega (arith, zero))
decided_printed told a text ending.Denied zero h = absurd (omega (arith, zero))
decided_printed told a text ending.Printed zero h = absurd (of_question told a text ending.Printed h)
decided_printed told a text ending.Tabled zero h = absurd (of_question told a text ending.Tabled h)
decided_printed told a text ending.Inconsistent zero h = absurd (omega (arith, zero))
decided_printed told a text ending.Open zero h = absurd (omega (arith, zero))

pub spent_printed : (told : List (List ℕ × List ℕ)) (a : SessionSaid) (text : List ℕ) (e : Ending) → ending_status e ≡ 3
    → IsSessionPrinted told a text e → IsSessionPrinted told a text ending.Undecided
spent_printed told a text ending.Undecided three h = h
spent_printed told a text ending.Decided three h = absurd (omega (arith, three))
spent_printed told a text ending.Denied three h = absurd (omega (arith, three))
spent_printed told a text ending.Printed three h = absurd (omega (arith, three))
spent_printed told a text ending.Tabled three h = absurd (omega (arith, three))
spent_printed told a text ending.Inconsistent three h = absurd (omega (arith, three))
spent_printed told a text ending.Open three h = absurd (of_question told a text ending.Open h)
