-- What is due is what the program comes to.
use Rattle.std.proofs.Common.{◌≡◌, ◌⊎◌, ℕ, List, Option, Some, None, IfSome, Result, Ok, Err, ◌∙◌, ap, subst, sym, refl, inl, inr}
use Rattle.currency_edge.specs.Fault.{Rose}
use Rattle.command_stages.specs.Alike.{AreAlike, EndAlike}
use Rattle.command_stages.specs.Endings.{IsOfAnswers, IsOfDenial, IsOfQuestion, IsOfTable, ending_status}
use Rattle.command_stages.specs.declared.done.Ending.{Ending}
use Rattle.command_stages.specs.declared.done.Ending.TheVariants as ending
use Rattle.currency_cli.specs.Due.{IsDue}
use Rattle.currency_cli.specs.Ends.{EndsWith, HasEndStatus, HasStatus, HasFailedStatus, ComesTo, failed_status_of}
use Rattle.command_stages.specs.Outcomes.{status_of}
use Rattle.command_stages.specs.Named.{IsDetermined, IsReadFault}
use Rattle.command_stages.specs.Texts.{trouble_status}
use Rattle.command_stages.specs.declared.done.Done.{Done}
use Rattle.command_stages.specs.declared.trouble.Trouble.{Trouble}
use Rattle.command_stages.specs.declared.trouble.Trouble.TheVariants as trouble

-- what is due is determined, but for which report answers a question
abbrev pub OneDue : Type 0
OneDue = (told : List (List ℕ × List ℕ)) (count : ℕ) (words : List (List ℕ)) (a b : Result Done Trouble)
    → IsDue told count words a → IsDue told count words b → AreAlike a b

-- ---- the outcome that was come to is like the one that is due

zero_or_three : (e : Ending) (status : ℕ) → IsOfAnswers e → status ≡ ending_status e → (status ≡ 0) ⊎ (status ≡ 3)
zero_or_three ending.Printed status of is = absurd of
zero_or_three ending.Decided status of is = inl is
zero_or_three ending.Denied status of is = absurd of
zero_or_three ending.Undecided status of is = inr is
zero_or_three ending.Tabled status of is = inl is
zero_or_three ending.Inconsistent status of is = absurd of
zero_or_three ending.Open status of is = inr is

-- where a limit on answers is exceeded over one completion
six_of_answers : (e : Ending) (status : ℕ) → IsOfAnswers e → status ≡ 6 → HasEndStatus e status
six_of_answers ending.Printed status of is = absurd of
six_of_answers ending.Decided status of is = inr (inr is)
six_of_answers ending.Denied status of is = absurd of
six_of_answers ending.Undecided status of is = inr (inr (inr is))
six_of_answers ending.Tabled status of is = inr (inr (inr is))
six_of_answers ending.Inconsistent status of is = absurd of
six_of_answers ending.Open status of is = inr (inr (inr is))

any_of_question : (e : Ending) (status : ℕ) → IsOfQuestion e → (status ≡ 0) ⊎ ((status ≡ 3) ⊎ (status ≡ 6))
    → HasEndStatus e status
any_of_question ending.Printed status of is = absurd of
any_of_question ending.Decided status of is = is
any_of_question ending.Denied status of is = absurd of
any_of_question ending.Undecided status of is = inr is
any_of_question ending.Tabled status of is = absurd of
any_of_question ending.Inconsistent status of is = absurd of
any_of_question ending.Open status of is = absurd of

any_of_denial : (e : Ending) (status : ℕ) → IsOfDenial e → (status ≡ 1) ⊎ (status ≡ 3) → HasEndStatus e status
any_of_denial ending.Printed status of is = absurd of
any_of_denial ending.Decided status of is = absurd of
any_of_denial ending.Denied status of is = is
any_of_denial ending.Undecided status of (inl one) = inl one
any_of_denial ending.Undecided status of (inr three) = inr (inr (inl three))
any_of_denial ending.Tabled status of is = absurd of
any_of_denial ending.Inconsistent status of is = absurd of
any_of_denial ending.Open status of is = absurd of

any_of_table : (e : Ending) (status : ℕ) → IsOfTable e → (status ≡ 0) ⊎ ((status ≡ 3) ⊎ (status ≡ 10))
    → HasEndStatus e status
any_of_table ending.Printed status of is = absurd of
any_of_table ending.Decided status of is = absurd of
any_of_table ending.Denied status of is = absurd of
any_of_table ending.Undecided status of is = absurd of
any_of_table ending.Tabled status of (inl zero) = inl zero
any_of_table ending.Tabled status of (inr (inl three)) = inr (inl three)
any_of_table ending.Tabled status of (inr (inr ten)) = inr (inr (inl ten))
any_of_table ending.Inconsistent status of is = is
any_of_table ending.Open status of (inl zero) = inl zero
any_of_table ending.Open status of (inr (inl three)) = inr (inl three)
any_of_table ending.Open status of (inr (inr ten)) = inr (inr (inl ten))

end_status : (d e : Ending) (status : ℕ) → EndAlike d e → status ≡ ending_status d → HasEndStatus e status
end_status ending.Printed e status alike is = subst (λ (x : Ending). HasEndStatus x status) (sym alike) is
end_status ending.Decided e status alike is = any_of_question e status alike (inl is)
end_status ending.Denied e status alike is = any_of_denial e status alike (inl is)
end_status ending.Undecided e status (inl alike) is = any_of_question e status alike (inr (inl is))
end_status ending.Undecided e status (inr alike) is = any_of_denial e status alike (inr is)
end_status ending.Tabled e status alike is = any_of_table e status alike (inl is)
end_status ending.Inconsistent e status alike is = any_of_table e status alike (inr (inr is))
end_status ending.Open e status alike is = any_of_table e status alike (inr (inl is))

has_status : (got outcome : Result Done Trouble) (status : ℕ) → AreAlike got outcome → status ≡ status_of got
    → HasStatus outcome status
has_status (Ok d) (Ok e) status alike is = end_status d.ending e.ending status alike is
has_status (Ok d) (Err e) status alike is = inr (alike.1, zero_or_three d.ending status alike.0 is)
has_status (Err e) (Ok d) status alike is = six_of_answers d.ending status alike.0 (is ∙ ap trouble_status alike.1)
has_status (Err e) (Err f) status alike is = inl (is ∙ ap trouble_status alike)

-- an outcome whose text met a failing sink: a refusal keeps its status
has_failed_status : (got outcome : Result Done Trouble) (status : ℕ) → AreAlike got outcome → status ≡ failed_status_of got
    → HasStatus outcome status ⊎ HasFailedStatus outcome status
has_failed_status (Ok d) (Ok e) status alike is = inr is
has_failed_status (Ok d) (Err e) status alike is = inr (inr (alike.1, is))
has_failed_status (Err e) outcome status alike is = inl (has_status (Err e) outcome status alike is)

failed : (rb rn wb wn : ℕ) (outcome : Result Done Trouble) (status : ℕ) → HasStatus outcome status ⊎ HasFailedStatus
    outcome status → Rose wb wn
    → ComesTo outcome rb rn wb wn status
failed rb rn wb wn outcome status (inl h) rose = inl h
failed rb rn wb wn outcome status (inr h) rose = inr (inl (h, rose))

of_ends : (old new : Option (List ℕ)) (rb rn wb wn : ℕ) (got outcome : Result Done Trouble) (status : ℕ)
    → AreAlike got outcome → EndsWith old new wb wn got status → ComesTo outcome rb rn wb wn status
of_ends old new rb rn wb wn got outcome status alike (inl h) = inl (has_status got outcome status alike h.0)
of_ends old new rb rn wb wn got outcome status alike (inr (inl h)) =
    failed rb rn wb wn outcome status (has_failed_status got outcome status alike h.0) h.1
of_ends old new rb rn wb wn got outcome status alike (inr (inr h)) = inr (inr (inr h.0))

-- ---- a document could not be read, or memory ran out

of_outside : (old new : Option (List ℕ)) (rb rn wb wn : ℕ) (e : Trouble) (outcome : Result Done Trouble) (status : ℕ)
    → (IsDetermined {A = Done} (Err e) → ⊥) → (IsReadFault {A = Done} (Err e) → Rose rb rn) → EndsWith old new wb wn
    (Err e) status → ComesTo outcome rb rn wb wn status
of_outside old new rb rn wb wn (trouble.ReadFault name) outcome status never rose (inl h) = inr (inr (inl (h.0, rose tt)))
of_outside old new rb rn wb wn (trouble.ReadFault name) outcome status never rose (inr (inl h)) = inr (inr (inl (h.0, rose tt)))
of_outside old new rb rn wb wn (trouble.ReadFault name) outcome status never rose (inr (inr h)) = inr (inr (inr h.0))
of_outside old new rb rn wb wn trouble.NoMemory outcome status never rose (inl h) = inr (inr (inr h.0))
of_outside old new rb rn wb wn trouble.NoMemory outcome status never rose (inr (inl h)) = inr (inr (inr h.0))
of_outside old new rb rn wb wn trouble.NoMemory outcome status never rose (inr (inr h)) = inr (inr (inr h.0))
of_outside old new rb rn wb wn trouble.Words outcome status never rose h = absurd (never tt)
of_outside old new rb rn wb wn (trouble.Unshown c d l) outcome status never rose h = absurd (never tt)
of_outside old new rb rn wb wn (trouble.Refused c d l) outcome status never rose h = absurd (never tt)
of_outside old new rb rn wb wn (trouble.CopyDiffers d l t s) outcome status never rose h = absurd (never tt)
of_outside old new rb rn wb wn (trouble.Limit k) outcome status never rose h = absurd (never tt)

-- an outcome is determined, or it is of the outside
determined_or : (outcome : Result Done Trouble)
    → IsDetermined outcome ⊎ ((e : Trouble) × (outcome ≡ Err e) × (IsDetermined outcome → ⊥))
determined_or (Ok d) = inl tt
determined_or (Err trouble.Words) = inl tt
determined_or (Err (trouble.Unshown c d l)) = inl tt
determined_or (Err (trouble.Refused c d l)) = inl tt
determined_or (Err (trouble.CopyDiffers d l t s)) = inl tt
determined_or (Err (trouble.Limit k)) = inl tt
determined_or (Err (trouble.ReadFault name)) = inr (trouble.ReadFault name, refl, λ h. h)
determined_or (Err trouble.NoMemory) = inr (trouble.NoMemory, refl, λ h. h)

-- ---- together

comes_at : (got : Result Done Trouble) (old new : Option (List ℕ)) (rb rn wb wn status : ℕ) → (IsReadFault got → Rose rb rn)
    → EndsWith old new wb wn got status → (outcome : Result Done Trouble) → (IsDetermined got → AreAlike got outcome)
    → IsDetermined got ⊎ ((e : Trouble) × (got ≡ Err e) × (IsDetermined got → ⊥)) → ComesTo outcome rb rn wb wn status
comes_at got old new rb rn wb wn status rose ends outcome alike (inl determined) = of_ends old new rb rn wb wn got
    outcome status (alike determined) ends
comes_at got old new rb rn wb wn status rose ends outcome alike (inr h) =
    of_outside old new rb rn wb wn h.0 outcome status
    (λ s. h.2 (subst IsDetermined (sym h.1) s)) (λ f. rose (subst IsReadFault (sym h.1) f))
    (subst (λ (o : Result Done Trouble). EndsWith old new wb wn o status) h.1 ends)

-- the program comes to each outcome that is like its own, where its own is determined
pub comes : (got : Result Done Trouble) (old new : Option (List ℕ)) (rb rn wb wn status : ℕ) → (IsReadFault got → Rose rb rn)
    → EndsWith old new wb wn got status → (outcome : Result Done Trouble) → (IsDetermined got → AreAlike got outcome)
    → ComesTo outcome rb rn wb wn status
comes got old new rb rn wb wn status rose ends outcome alike = comes_at got old new rb rn wb wn status rose ends
    outcome alike (determined_or got)

pub comes_to : OneDue → (texts : Option (List (List ℕ × List ℕ))) (count : ℕ) (words : List (List ℕ)) (got : Result Done Trouble)
    (old new : Option (List ℕ)) (rb rn wb wn status : ℕ)
    → (IsDetermined got → IfSome texts (λ told. IsDue told count words got)) → (IsReadFault got → Rose rb rn)
    → EndsWith old new wb wn got status
    → (outcome : Result Done Trouble) → IfSome texts (λ told. IsDue told count words outcome → ComesTo outcome rb rn wb wn status)
comes_to law None count words got old new rb rn wb wn status due rose ends outcome = tt
comes_to law (Some told) count words got old new rb rn wb wn status due rose ends outcome =
    λ is. comes got old new rb rn wb wn status rose ends outcome
    (λ determined. law told count words got outcome (due determined) is)

-- where no count of faults rose
pub steady : (outcome : Result Done Trouble) (rb rn wb wn status : ℕ) → (Rose rb rn → ⊥) → (Rose wb wn → ⊥)
    → ComesTo outcome rb rn wb wn status
    → HasStatus outcome status ⊎ (status ≡ 9)
steady outcome rb rn wb wn status reads writes (inl h) = inl h
steady outcome rb rn wb wn status reads writes (inr (inl h)) = absurd (writes h.1)
steady outcome rb rn wb wn status reads writes (inr (inr (inl h))) = absurd (reads h.1)
steady outcome rb rn wb wn status reads writes (inr (inr (inr h))) = inr h

pub comes_to_its_own : (texts : Option (List (List ℕ × List ℕ))) (count : ℕ) (words : List (List ℕ)) (rb rn wb wn status : ℕ)
    → ((outcome : Result Done Trouble) → IfSome texts (λ told. IsDue told count words outcome → ComesTo outcome rb rn
    wb wn status))
    → (Rose rb rn → ⊥) → (Rose wb wn → ⊥) → (outcome : Result Done Trouble)
    → IfSome texts (λ told. IsDue told count words outcome → HasStatus outcome status ⊎ (status ≡ 9))
comes_to_its_own None count words rb rn wb wn status exact reads writes outcome = tt
comes_to_its_own (Some told) count words rb rn wb wn status exact reads writes outcome =
    λ due. steady outcome rb rn wb wn status reads writes (exact outcome due)

-- its own status, where no count of faults rose
own_at : (got : Result Done Trouble) (old new : Option (List ℕ)) (rb rn wb wn status : ℕ) → (IsReadFault got → Rose rb rn)
    → EndsWith old new wb wn got status → (Rose rb rn → ⊥) → (Rose wb wn → ⊥)
    → IsDetermined got ⊎ ((e : Trouble) × (got ≡ Err e) × (IsDetermined got → ⊥)) →
    (IsDetermined got × (status ≡ status_of got)) ⊎ (status ≡ 9)
own_at got old new rb rn wb wn status rose (inl h) reads writes (inl determined) = inl (determined, h.0)
own_at got old new rb rn wb wn status rose (inr (inl h)) reads writes (inl determined) = absurd (writes h.1)
own_at got old new rb rn wb wn status rose (inr (inr h)) reads writes (inl determined) = inr h.0
own_at got old new rb rn wb wn status rose ends reads writes (inr h) =
    nine (of_outside old new rb rn wb wn h.0 (Err trouble.NoMemory) status
    (λ s. h.2 (subst IsDetermined (sym h.1) s)) (λ f. rose (subst IsReadFault (sym h.1) f))
    (subst (λ (o : Result Done Trouble). EndsWith old new wb wn o status) h.1 ends))
  where
    no_limit : trouble.NoMemory ≡ trouble.Limit 3 → ⊥
    no_limit e = cc

    has_nine : HasStatus (Err trouble.NoMemory) status → status ≡ 9
    has_nine (inl is) = is
    has_nine (inr is) = absurd (no_limit is.0)

    nine : ComesTo (Err trouble.NoMemory) rb rn wb wn status → (IsDetermined got × (status ≡ status_of got)) ⊎ (status ≡ 9)
    nine (inl is) = inr (has_nine is)
    nine (inr (inl is)) = absurd (writes is.1)
    nine (inr (inr (inl is))) = absurd (reads is.1)
    nine (inr (inr (inr is))) = inr is

pub own_status : (got : Result Done Trouble) (old new : Option (List ℕ)) (rb rn wb wn status : ℕ) → (IsReadFault got → Rose rb rn)
    → EndsWith old new wb wn got status → (Rose rb rn → ⊥) → (Rose wb wn → ⊥) →
    (IsDetermined got × (status ≡ status_of got)) ⊎ (status ≡ 9)
own_status got old new rb rn wb wn status rose ends reads writes = own_at got old new rb rn wb wn status rose ends
    reads writes (determined_or got)
