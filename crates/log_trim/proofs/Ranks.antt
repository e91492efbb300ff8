-- Items that are kept, and their new places.
use Rattle.std.proofs.Common.{◌≡◌, inl, inr, ◌∙◌, ◌<◌, ◌≤◌, ℕ, zero, suc, ◌+◌, Bool, true, false, List, [], ◌∷◌, ◌++◌, length, map, take, Some, slice_get, slice_index, sym, refl, ap, cond, arith}
use Rattle.std.proofs.lemmas.Bool.{cases_Bool, cases_lt}
use Rattle.std.proofs.lemmas.List.{map-append, length_push, get_or_append_left, get_or-append-add}
use Rattle.log_trim.specs.Trimmed.{kept_of, rank}
use Rattle.log_trim.specs.Marked.{one_where}

-- the places, without the first
abbrev pub behind : (ℕ → Bool) → ℕ → Bool
behind keep n = keep (suc n)

-- ---- one place more

rank_suc : (keep : ℕ → Bool) (n : ℕ) → rank keep (suc n) ≡ rank keep n + cond (keep n) 1 0
rank_suc keep zero = elim (cases_Bool (keep 0)) [ inl e ↦ rw e refl | inr e ↦ rw e refl ]
rank_suc keep (suc n) =
    let more : rank (behind keep) (suc n) ≡ rank (behind keep) n + cond (keep (suc n)) 1 0 = rank_suc (behind keep) n in
    elim (cases_Bool (keep 0)) [ inl e ↦ rw e (omega (arith, more)) | inr e ↦ rw e more ]

pub rank_more : (keep : ℕ → Bool) (n : ℕ) → rank keep (n + 1) ≡ rank keep n + cond (keep n) 1 0
rank_more keep n = let next : n + 1 ≡ suc n = omega arith in rw next (rank_suc keep n)

pub rank_le : (keep : ℕ → Bool) (n : ℕ) → rank keep n ≤ n
rank_le keep zero = omega arith
rank_le keep (suc n) =
    let before : rank (behind keep) n ≤ n = rank_le (behind keep) n in
    elim (cases_Bool (keep 0)) [ inl e ↦ rw e (omega arith) | inr e ↦ rw e (omega arith) ]

kept_suc : {X : Type 0} (keep : ℕ → Bool) (xs : List X) (n : ℕ) (x : X) → slice_get xs n ≡ Some x
    → kept_of keep (take (suc n) xs) ≡ kept_of keep (take n xs) ++ one_where (keep n) x
kept_suc keep [] n x there = absurd (cc)
kept_suc {X} keep (y ∷ ys) zero x there =
    let same : y ≡ x = cc in
    elim (cases_Bool (keep 0)) [ inl e ↦ rw e (ap (λ (z : X). z ∷ []) same) | inr e ↦ rw e refl ]
kept_suc {X} keep (y ∷ ys) (suc n) x there =
    let more = kept_suc (behind keep) ys n x there in
    elim (cases_Bool (keep 0)) [ inl e ↦ rw e (ap (λ zs. y ∷ zs) more) | inr e ↦ rw e more ]

pub kept_more : {X : Type 0} (keep : ℕ → Bool) (xs : List X) (n : ℕ) (x : X) → slice_get xs n ≡ Some x
    → kept_of keep (take (n + 1) xs) ≡ kept_of keep (take n xs) ++ one_where (keep n) x
kept_more keep xs n x there = let next : n + 1 ≡ suc n = omega arith in rw next (kept_suc keep xs n x there)

mapped_one : {X Y : Type 0} (f : X → Y) (told : Bool) (x : X) → map f (one_where told x) ≡ one_where told (f x)
mapped_one f true x = refl
mapped_one f false x = refl

-- one place more in a list that is copied
pub copied_more : {X : Type 0} (keep : ℕ → Bool) (xs : List X) (n : ℕ) (x : X) (told : Bool) (now next : List X)
    → slice_get xs n ≡ Some x → told ≡ keep n → now ≡ kept_of keep (take n xs) → next ≡ now ++ one_where told x
    → next ≡ kept_of keep (take (n + 1) xs)
copied_more keep xs n x told now next there told_is so_far more =
    more ∙ rw (told_is, so_far) (sym (kept_more keep xs n x there))

-- the same for a list whose items are changed too
pub changed_more : {X Y : Type 0} (f : X → Y) (keep : ℕ → Bool) (xs : List X) (n : ℕ) (x : X) (told : Bool) (now next : List Y)
    → slice_get xs n ≡ Some x → told ≡ keep n → now ≡ map f (kept_of keep (take n xs)) → next ≡ now ++ one_where told (f x)
    → next ≡ map f (kept_of keep (take (n + 1) xs))
changed_more f keep xs n x told now next there told_is so_far more =
    let before = kept_of keep (take n xs) in
    let split : map f (before ++ one_where (keep n) x) ≡ map f before ++ one_where (keep n) (f x) =
    map-append f before (one_where (keep n) x) ∙ ap (λ ys. map f before ++ ys) (mapped_one f (keep n) x) in
    more ∙ rw (told_is, so_far) (rw (kept_more keep xs n x there) (sym split))

-- one place more that has its rank
pub ranks_push : (keep : ℕ → Bool) (n : ℕ) (ranks more : List ℕ) (count unit : ℕ) (told : Bool)
    → length ranks ≡ n → ((k : ℕ) → k < n → slice_index ranks k ≡ rank keep k) → count ≡ rank keep n
    → more ≡ ranks ++ count ∷ [] → told ≡ keep n → unit ≡ cond told 1 0
    → record {
      length : length more ≡ n + 1;
      each : (k : ℕ) → k < n + 1 → slice_index more k ≡ rank keep k;
      count : count + unit ≡ rank keep (n + 1);
    }
ranks_push keep n ranks more count unit told long each count_is more_is told_is unit_is =
    record {
      length = rw more_is (length_push ranks count ∙ ap (λ k. k + 1) long);
      each = λ k below. elim (cases_lt k n) [
        | inl before ↦ rw more_is (get_or_append_left ranks (count ∷ []) 0 k (rw long before) ∙ each k before)
        | inr after ↦
            let last : k ≡ length ranks + 0 = omega (arith, long) in
            let here : n ≡ k = omega arith in
            rw more_is (rw last (get_or-append-add ranks (count ∷ []) 0 0) ∙ count_is ∙ ap (rank keep) here)
      ];
      count = rw rank_more (rw (count_is, unit_is, told_is) refl);
    }
