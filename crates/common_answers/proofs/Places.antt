-- Tuples by their places, one after another: those that are kept, and those that are none of others.
use Rattle.std.proofs.Common.{◌≡◌, ◌+◌, ◌<◌, ◌≤◌, ℕ, List, [], ◌∷◌, ◌++◌, All, Contains, Some, take, length, slice_get, slice_index_or, sym, ap, subst, ◌∙◌, inl, inr, ⊎_elim}
use Rattle.std.proofs.lemmas.List.{map-append, take_all}
use Rattle.std.proofs.lemmas.List.Elements.{All-nil, All-push, Contains-append_left, Contains-push, Contains-push_cases}
use Rattle.std.proofs.lemmas.Option.{get_or_from_slice_get, slice_get_within}
use Rattle.currency_base.specs.declared.value.Value.{Value}
use Rattle.common_answers.proofs.Lists.{front_more}
use Rattle.common_answers.specs.Candidates.{IsKept, IsRest, Tuples, tuples_at}

-- one place more
pub tuples_more : (tuples : Tuples) (places : List ℕ) (place : ℕ) (t : List Value) → slice_get tuples place ≡ Some t
    → tuples_at tuples (places ++ place ∷ []) ≡ tuples_at tuples places ++ t ∷ []
tuples_more tuples places place t at =
    map-append (λ p. slice_index_or tuples p []) places (place ∷ [])
    ∙ ap (λ (u : List Value). tuples_at tuples places ++ u ∷ []) (get_or_from_slice_get tuples place t [] at)

-- each of the items stays in a list with one more
more_of : {A : Type 0} (xs ys : List A) (x : A) → All (Contains xs) ys → All (Contains (xs ++ x ∷ [])) ys
more_of xs ys x all i d below = Contains-append_left xs (x ∷ []) _ (all i d below)

-- ---- kept

pub kept_none : (P : List Value → Type 0) → IsKept P [] []
kept_none P = record { of_old = All-nil (Contains []); hold = All-nil P; all = λ t is holds. is }

pub kept_skip : (P : List Value → Type 0) (old new : Tuples) (t : List Value) → (P t → ⊥) → IsKept P old new
    → IsKept P (old ++ t ∷ []) new
kept_skip P old new t never kept =
    record {
      of_old = more_of old new t kept.of_old;
      hold = kept.hold;
      all = λ u is holds.
          ⊎_elim
          (λ (before : Contains old u). kept.all u before holds)
          (λ (here : t ≡ u). absurd (never (subst P (sym here) holds)))
          (Contains-push_cases old t u is);
    }

pub kept_push : (P : List Value → Type 0) (old new : Tuples) (t : List Value) → P t → IsKept P old new
    → IsKept P (old ++ t ∷ []) (new ++ t ∷ [])
kept_push P old new t holds kept =
    record {
      of_old = All-push (Contains (old ++ t ∷ [])) new t (more_of old new t kept.of_old) (Contains-push old t);
      hold = All-push P new t kept.hold holds;
      all = λ u is also.
          ⊎_elim
          (λ (before : Contains old u). Contains-append_left new (t ∷ []) u (kept.all u before also))
          (λ (here : t ≡ u). subst (Contains (new ++ t ∷ [])) here (Contains-push new t))
          (Contains-push_cases old t u is);
    }

-- ---- the rest

pub rest_none : (tuples : Tuples) → IsRest [] tuples []
rest_none tuples =
    record { of_answers = All-nil (Contains []); apart = All-nil (λ t. Contains tuples t → ⊥); all = λ t is. inr is }

pub rest_skip : (answers tuples rest : Tuples) (t : List Value) → Contains tuples t → IsRest answers tuples rest
    → IsRest (answers ++ t ∷ []) tuples rest
rest_skip answers tuples rest t there is =
    record {
      of_answers = more_of answers rest t is.of_answers;
      apart = is.apart;
      all = λ u of_them.
          ⊎_elim
          (λ (before : Contains answers u). is.all u before)
          (λ (here : t ≡ u). inl (subst (Contains tuples) here there))
          (Contains-push_cases answers t u of_them);
    }

pub rest_push : (answers tuples rest : Tuples) (t : List Value) → (Contains tuples t → ⊥) → IsRest answers tuples rest
    → IsRest (answers ++ t ∷ []) tuples (rest ++ t ∷ [])
rest_push answers tuples rest t apart is =
    record {
      of_answers = All-push (Contains (answers ++ t ∷ [])) rest t (more_of answers rest t is.of_answers)
          (Contains-push answers t);
      apart = All-push (λ u. Contains tuples u → ⊥) rest t is.apart apart;
      all = λ u of_them.
          ⊎_elim
          (λ (before : Contains answers u).
          ⊎_elim
          (λ (printed : Contains tuples u). inl printed)
          (λ (other : Contains rest u). inr (Contains-append_left rest (t ∷ []) u other))
          (is.all u before))
          (λ (here : t ≡ u). inr (subst (Contains (rest ++ t ∷ [])) here (Contains-push rest t)))
          (Contains-push_cases answers t u of_them);
    }

-- ---- by their places

-- those of the tuples at places of which it holds, at places of their own
pub record AreStill (P : List Value → Type 0) (tuples : Tuples) (places left : List ℕ) : Type 0 where
  pub within : All (λ place. place < length tuples) left
  pub kept : IsKept P (tuples_at tuples places) (tuples_at tuples left)

pub still_none : (P : List Value → Type 0) (tuples : Tuples) → AreStill P tuples [] []
still_none P tuples = record { within = All-nil (λ place. place < length tuples); kept = kept_none P }

-- one place more, of a tuple of which it holds
pub still_found : (P : List Value → Type 0) (tuples : Tuples) (places : List ℕ) (i place : ℕ) (t : List Value)
    (kept next : List ℕ)
    → slice_get places i ≡ Some place → slice_get tuples place ≡ Some t → P t → next ≡ kept ++ place ∷ []
    → AreStill P tuples (take i places) kept → AreStill P tuples (take (i + 1) places) next
still_found P tuples places i place t kept next at is holds pushed still =
    record {
      within = subst (All (λ p. p < length tuples)) (sym pushed)
          (All-push (λ p. p < length tuples) kept place still.within (slice_get_within tuples place t is));
      kept = subst (λ new. IsKept P (tuples_at tuples (take (i + 1) places)) (tuples_at tuples new)) (sym pushed)
          (subst (λ old. IsKept P old (tuples_at tuples (kept ++ place ∷ [])))
          (sym (ap (tuples_at tuples) (front_more places i place at) ∙ tuples_more tuples (take i places) place t is))
          (subst (IsKept P (tuples_at tuples (take i places) ++ t ∷ [])) (sym (tuples_more tuples kept place t is))
          (kept_push P (tuples_at tuples (take i places)) (tuples_at tuples kept) t holds still.kept)));
    }

-- and of one of which it does not
pub still_skip : (P : List Value → Type 0) (tuples : Tuples) (places : List ℕ) (i place : ℕ) (t : List Value) (kept : List ℕ)
    → slice_get places i ≡ Some place → slice_get tuples place ≡ Some t → (P t → ⊥)
    → AreStill P tuples (take i places) kept → AreStill P tuples (take (i + 1) places) kept
still_skip P tuples places i place t kept at is never still =
    record {
      within = still.within;
      kept = subst (λ old. IsKept P old (tuples_at tuples kept))
          (sym (ap (tuples_at tuples) (front_more places i place at) ∙ tuples_more tuples (take i places) place t is))
          (kept_skip P (tuples_at tuples (take i places)) (tuples_at tuples kept) t never still.kept);
    }

pub still_all : (P : List Value → Type 0) (tuples : Tuples) (places : List ℕ) (i : ℕ) (kept : List ℕ) → length places ≤ i
    → AreStill P tuples (take i places) kept → AreStill P tuples places kept
still_all P tuples places i kept past still = subst (λ ps. AreStill P tuples ps kept) (take_all i places past) still
