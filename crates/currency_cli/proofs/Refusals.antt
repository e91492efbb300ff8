-- A refusal is due.
use Rattle.std.proofs.Common.{◌≡◌, ◌≢◌, ◌⊎◌, ℕ, List, [], Option, Some, None, IfSome, Result, Ok, Err, inl, inr, refl, sym, subst, ◌∙◌, arith}
use Rattle.std.proofs.lemmas.List.{append-nil}
use Rattle.std.specs.Io.KnownBytes.{Appends}
use Rattle.currency_edge.specs.Sink.{AppendsPrefix}
use Rattle.currency_cli.specs.Due.{IsDue, IsReadDue}
use Rattle.currency_cli.specs.Ends.{EndsWith, IsRefusal, RefusalDue, NamesUnread}
use Rattle.command_stages.specs.Named.{IsDetermined, IsReadFaultOf}
use Rattle.command_stages.specs.Texts.{trouble_status, trouble_text}
use Rattle.command_stages.specs.declared.done.Done.{Done}
use Rattle.command_stages.specs.Endings.{ending_status}
use Rattle.command_stages.specs.declared.done.Ending.{Ending}
use Rattle.command_stages.specs.declared.done.Ending.TheVariants as ending
use Rattle.command_stages.specs.declared.trouble.Trouble.{Trouble}
use Rattle.command_stages.specs.declared.trouble.Trouble.TheVariants as trouble

-- a status that is none of a refusal
other : (status k : ℕ) → status ≡ k → k ≢ 2 → k ≢ 4 → k ≢ 5 → k ≢ 6 → IsRefusal status → ⊥
other status k is two four five six (inl h) = omega arith
other status k is two four five six (inr (inl h)) = omega arith
other status k is two four five six (inr (inr (inl h))) = omega arith
other status k is two four five six (inr (inr (inr h))) = omega arith

-- the outcome's status is the one of its trouble, where it is that of a refusal
its_own : (old new : Option (List ℕ)) (wb wn : ℕ) (e : Trouble) (status : ℕ) → EndsWith old new wb wn (Err e) status
    → IsRefusal status → status ≡ trouble_status e
its_own old new wb wn e status (inl h) refusal = h.0
its_own old new wb wn e status (inr (inl h)) refusal = h.0
its_own old new wb wn e status (inr (inr h)) refusal = absurd (other status 9 h.0 (omega arith) (omega arith)
    (omega arith) (omega arith) refusal)

-- what is done has another status
not_done : (e : Ending) (status : ℕ) → status ≡ ending_status e → IsRefusal status → ⊥
not_done ending.Printed status is refusal = other status 0 is (omega arith) (omega arith) (omega arith) (omega arith) refusal
not_done ending.Decided status is refusal = other status 0 is (omega arith) (omega arith) (omega arith) (omega arith) refusal
not_done ending.Denied status is refusal = other status 1 is (omega arith) (omega arith) (omega arith) (omega arith) refusal
not_done ending.Undecided status is refusal = other status 3 is (omega arith) (omega arith) (omega arith) (omega arith) refusal
not_done ending.Tabled status is refusal = other status 0 is (omega arith) (omega arith) (omega arith) (omega arith) refusal
not_done ending.Inconsistent status is refusal =
    other status 10 is (omega arith) (omega arith) (omega arith) (omega arith) refusal
not_done ending.Open status is refusal = other status 3 is (omega arith) (omega arith) (omega arith) (omega arith) refusal

done_not_refused : (old new : Option (List ℕ)) (wb wn : ℕ) (d : Done) (status : ℕ) → EndsWith old new wb wn
    (Ok d) status → IsRefusal status → ⊥
done_not_refused old new wb wn d status (inl h) refusal = not_done d.ending status h.0 refusal
done_not_refused old new wb wn d status (inr (inl h)) refusal = other status 8 h.0 (omega arith) (omega arith)
    (omega arith) (omega arith) refusal
done_not_refused old new wb wn d status (inr (inr h)) refusal = other status 9 h.0 (omega arith) (omega arith)
    (omega arith) (omega arith) refusal

-- a trouble whose status is that of a refusal is determined
is_determined : (e : Trouble) → IsRefusal (trouble_status e) → IsDetermined {A = Done} (Err e)
is_determined trouble.Words refusal = tt
is_determined (trouble.Unshown c d l) refusal = tt
is_determined (trouble.Refused c d l) refusal = tt
is_determined (trouble.CopyDiffers d l t s) refusal = tt
is_determined (trouble.Limit k) refusal = tt
is_determined (trouble.ReadFault name) refusal = other 7 7 refl (omega arith) (omega arith) (omega arith) (omega arith) refusal
is_determined trouble.NoMemory refusal = other 9 9 refl (omega arith) (omega arith) (omega arith) (omega arith) refusal

due_of : (texts : Option (List (List ℕ × List ℕ))) (count : ℕ) (words : List (List ℕ)) (e : Trouble) (status : ℕ)
    → status ≡ trouble_status e
    → IfSome texts (λ told. IsDue told count words (Err e)) → IfSome texts (λ told. RefusalDue told count words status)
due_of None count words e status is due = tt
due_of (Some told) count words e status is due = (e, due, is)

pub refused : (texts : Option (List (List ℕ × List ℕ))) (count : ℕ) (words : List (List ℕ))
    (got : Result Done Trouble) (old new : Option (List ℕ)) (wb wn status : ℕ)
    → (IsDetermined got → IfSome texts (λ told. IsDue told count words got)) → EndsWith old new wb wn got status
    → IsRefusal status → IfSome texts (λ told. RefusalDue told count words status)
refused texts count words (Ok d) old new wb wn status due ends refusal =
    absurd (done_not_refused old new wb wn d status ends refusal)
refused texts count words (Err e) old new wb wn status due ends refusal =
    let is = its_own old new wb wn e status ends refusal in
    due_of texts count words e status is (due (is_determined e (subst IsRefusal is refusal)))

-- ---- the words

-- words that are refused end with 2, unless memory ran out
ends_refused : (old new : Option (List ℕ)) (wb wn status : ℕ) → EndsWith old new wb wn (Err trouble.Words) status →
    (status ≡ 2) ⊎ (status ≡ 9)
ends_refused old new wb wn status (inl h) = inl h.0
ends_refused old new wb wn status (inr (inl h)) = inl h.0
ends_refused old new wb wn status (inr (inr h)) = inr h.0

ends_without_memory : (old new : Option (List ℕ)) (wb wn status : ℕ) → EndsWith old new wb wn (Err trouble.NoMemory)
    status → (status ≡ 2) ⊎ (status ≡ 9)
ends_without_memory old new wb wn status (inl h) = inr h.0
ends_without_memory old new wb wn status (inr (inl h)) = inr h.0
ends_without_memory old new wb wn status (inr (inr h)) = inr h.0

pub words_refused : (got : Result Done Trouble) (old new : Option (List ℕ)) (wb wn status : ℕ) → EndsWith old new wb wn got status
    → (got ≡ Err trouble.Words) ⊎ (got ≡ Err trouble.NoMemory) → (status ≡ 2) ⊎ (status ≡ 9)
words_refused got old new wb wn status ends (inl is) =
    ends_refused old new wb wn status (subst (λ (o : Result Done Trouble). EndsWith old new wb wn o status) is ends)
words_refused got old new wb wn status ends (inr is) =
    ends_without_memory old new wb wn status (subst (λ (o : Result Done Trouble). EndsWith old new wb wn o status) is ends)

-- a trouble of status 2 is that of the words
of_two : (e : Trouble) → trouble_status e ≡ 2 → e ≡ trouble.Words
of_two trouble.Words is = refl
of_two (trouble.Unshown c d l) is = absurd (omega (arith, is))
of_two (trouble.Refused c d l) is = absurd (omega (arith, is))
of_two (trouble.CopyDiffers d l t s) is = absurd (omega (arith, is))
of_two (trouble.Limit k) is = absurd (omega (arith, is))
of_two (trouble.ReadFault name) is = absurd (omega (arith, is))
of_two trouble.NoMemory is = absurd (omega (arith, is))

pub are_words : (old new : Option (List ℕ)) (wb wn : ℕ) (e : Trouble) (status : ℕ) → EndsWith old new wb wn
    (Err e) status → status ≡ 2 → e ≡ trouble.Words
are_words old new wb wn e status ends two = of_two e
    (subst (λ (n : ℕ). n ≡ 2) (its_own old new wb wn e status ends (inl two)) two)

pub done_not_two : (old new : Option (List ℕ)) (wb wn : ℕ) (d : Done) (status : ℕ) → EndsWith old new wb wn
    (Ok d) status → status ≡ 2 → ⊥
done_not_two old new wb wn d status ends two = done_not_refused old new wb wn d status ends (inl two)

-- ---- a document that could not be read

whole_is_prefix : (old new : Option (List ℕ)) (bytes : List ℕ) → Appends old new bytes → AppendsPrefix old new bytes
whole_is_prefix old new bytes h = (bytes, [], sym (append-nil bytes), h)

-- its name was written, whole or up to a prefix
ends_unread : (old new : Option (List ℕ)) (wb wn : ℕ) (e : Trouble) (status : ℕ) → EndsWith old new wb wn (Err e) status
    → AppendsPrefix old new (trouble_text e)
ends_unread old new wb wn e status (inl h) = whole_is_prefix old new (trouble_text e) h.1
ends_unread old new wb wn e status (inr (inl h)) = h.2
ends_unread old new wb wn e status (inr (inr h)) = h.1

-- a refusal's status is that of its trouble, unless memory ran out
not_nine : (old new : Option (List ℕ)) (wb wn : ℕ) (e : Trouble) (status : ℕ) → EndsWith old new wb wn (Err e) status → status ≡ 7
    → trouble_status e ≡ 7
not_nine old new wb wn e status (inl h) seven = sym h.0 ∙ seven
not_nine old new wb wn e status (inr (inl h)) seven = sym h.0 ∙ seven
not_nine old new wb wn e status (inr (inr h)) seven = absurd (omega (arith, h.0, seven))

unread_at : (texts : Option (List (List ℕ × List ℕ))) (count : ℕ) (words : List (List ℕ)) (e : Trouble)
    (old new : Option (List ℕ))
    → ((n : List ℕ) → IsReadFaultOf {A = Done} (Err e) n → IfSome texts (λ told. IsReadDue told count words n))
    → trouble_status e ≡ 7 → AppendsPrefix old new (trouble_text e) → NamesUnread texts count words old new
unread_at texts count words (trouble.ReadFault name) old new due seven text =
    record { name = name; due = due name refl; text = text }
unread_at texts count words trouble.Words old new due seven text = absurd (omega (arith, seven))
unread_at texts count words (trouble.Unshown c d l) old new due seven text = absurd (omega (arith, seven))
unread_at texts count words (trouble.Refused c d l) old new due seven text = absurd (omega (arith, seven))
unread_at texts count words (trouble.CopyDiffers d l t s) old new due seven text = absurd (omega (arith, seven))
unread_at texts count words (trouble.Limit k) old new due seven text = absurd (omega (arith, seven))
unread_at texts count words trouble.NoMemory old new due seven text = absurd (omega (arith, seven))

pub names_unread : (texts : Option (List (List ℕ × List ℕ))) (count : ℕ) (words : List (List ℕ)) (e : Trouble)
    (old new : Option (List ℕ)) (wb wn status : ℕ)
    → ((n : List ℕ) → IsReadFaultOf {A = Done} (Err e) n → IfSome texts (λ told. IsReadDue told count words n))
    → EndsWith old new wb wn (Err e) status → status ≡ 7 → NamesUnread texts count words old new
names_unread texts count words e old new wb wn status due ends seven =
    unread_at texts count words e old new due (not_nine old new wb wn e status ends seven)
    (ends_unread old new wb wn e status ends)
