-- The marks of one tuple more.
use Rattle.std.proofs.Common.{◌≡◌, ◌+◌, ◌<◌, ◌⊎◌, inl, inr, ℕ, zero, suc, Bool, true, false, true≢false, List, [], ◌∷◌, ◌++◌, Some, length, take, get_or, slice_get, refl, sym, ap, subst, ◌∙◌, arith}
use Rattle.std.proofs.lemmas.List.{take_more}
use Rattle.std.proofs.lemmas.Option.{get_or_from_slice_get, none-some, same_Some, slice_get-get_or, slice_get_read, slice_get_within}
use Rattle.currency_base.specs.declared.value.Value.{Value}
use Rattle.ucq_answers.specs.Planned.{IndexedQuery}
use Rattle.answer_candidates.specs.Candidates.{AreMarks, GoesNow, IsMark}

length_push : {A : Type 0} (xs : List A) (y : A) → length (xs ++ y ∷ []) ≡ length xs + 1
length_push [] y = refl
length_push (x ∷ xs) y = omega (arith, length_push xs y)

pub get_push : {A : Type 0} (xs : List A) (y z : A) (k : ℕ) → slice_get (xs ++ y ∷ []) k ≡ Some z →
    (slice_get xs k ≡ Some z) ⊎ ((k ≡ length xs) × (y ≡ z))
get_push [] y z zero at = inr (refl, same_Some y z at)
get_push [] y z (suc k) at = absurd (none-some z at)
get_push (x ∷ xs) y z zero at = inl at
get_push {A} (x ∷ xs) y z (suc k) at = by (get_push xs y z k at)
  where
    by : (slice_get xs k ≡ Some z) ⊎ ((k ≡ length xs) × (y ≡ z)) → (slice_get xs k ≡ Some z) ⊎
        ((suc k ≡ suc (length xs)) × (y ≡ z))
    by (inl is) = inl is
    by (inr (last, same)) = inr (ap (λ n. suc n) last, same)

pub get_front : {A : Type 0} (xs : List A) (y : A) (i : ℕ) → i < length xs → slice_get (xs ++ y ∷ []) i ≡ slice_get xs i
get_front [] y i below = absurd (omega (arith, below))
get_front (x ∷ xs) y zero below = refl
get_front (x ∷ xs) y (suc i) below = get_front xs y i (omega (arith, below))

pub get_end : {A : Type 0} (xs : List A) (y : A) → slice_get (xs ++ y ∷ []) (length xs) ≡ Some y
get_end [] y = refl
get_end (x ∷ xs) y = get_end xs y

pub marks_none : (indexed : IndexedQuery) (tuples : List (List Value)) (old : List Bool) → AreMarks indexed tuples old 0 [] false
marks_none indexed tuples old = record {
  as_many = refl;
  each = λ place tuple was is a b at. absurd
      (none-some is at);
  none = λ closed. refl;
  some = λ more. absurd (true≢false (sym more));
}

-- a mark that is no new one is what it was
same_mark : (indexed : IndexedQuery) (tuple : List Value) (was mark : Bool) → IsMark indexed tuple was mark →
    (mark ≡ true → was ≡ true) → mark ≡ was
same_mark indexed tuple was true is old = sym (old refl)
same_mark indexed tuple was false is old = sym is.0

-- a tuple that is gone now still is so once one mark more is put
goes_still : (tuples : List (List Value)) (old marks : List Bool) (mark : Bool) → GoesNow tuples old marks
    → GoesNow tuples old (marks ++ mark ∷ [])
goes_still tuples old marks mark goes =
    record {
      place = goes.place;
      tuple = goes.tuple;
      at = goes.at;
      was = goes.was;
      now = get_front marks mark goes.place (slice_get_within marks goes.place true goes.now) ∙ goes.now;
    }

marks_more : (indexed : IndexedQuery) (tuples : List (List Value)) (old : List Bool) (count : ℕ)
    (marks now : List Bool) (more next : Bool)
    (tuple : List Value) (was mark : Bool) → length old ≡ length tuples → count < length tuples
    → AreMarks indexed tuples old count marks more → tuple ≡ get_or tuples count tuple
    → slice_get old count ≡ Some was → IsMark indexed tuple was mark → now ≡ marks ++ mark ∷ []
    → (next ≡ false → (more ≡ false) × (mark ≡ true → was ≡ true))
    → (next ≡ true → (more ≡ true) ⊎ ((was ≡ false) × (mark ≡ true)))
    → AreMarks indexed tuples old (count + 1) now next
marks_more indexed tuples old count marks now more next tuple was mark lengths below are tuple_is of_was is after closes opens =
    subst (λ m. AreMarks indexed tuples old (count + 1) m next) (sym after)
    (record { as_many = as_many; each = each; none = none; some = some })
  where
    of_tuple : slice_get tuples count ≡ Some tuple
    of_tuple = slice_get_read tuples (length tuples) count tuple refl below tuple_is

    as_many : length (marks ++ mark ∷ []) ≡ count + 1
    as_many = length_push marks mark ∙ ap (λ n. n + 1) are.as_many

    each : (place : ℕ) (t : List Value) (w m : Bool) → slice_get tuples place ≡ Some t → slice_get old place ≡ Some w
        → slice_get (marks ++ mark ∷ []) place ≡ Some m → IsMark indexed t w m
    each place t w m at_t at_w at_m = by (get_push marks mark m place at_m)
      where
        by : (slice_get marks place ≡ Some m) ⊎ ((place ≡ length marks) × (mark ≡ m)) → IsMark indexed t w m
        by (inl before) = are.each place t w m at_t at_w before
        by (inr (last, same)) =
            let here : place ≡ count = last ∙ are.as_many in
            let t_is : tuple ≡ t = same_Some tuple t (sym of_tuple ∙ ap (slice_get tuples) (sym here) ∙ at_t) in
            let w_is : was ≡ w = same_Some was w (sym of_was ∙ ap (slice_get old) (sym here) ∙ at_w) in
            subst (λ b. IsMark indexed t w b) same (subst (λ b. IsMark indexed t b mark) w_is
            (subst (λ u. IsMark indexed u was mark) t_is is))

    none : next ≡ false → marks ++ mark ∷ [] ≡ take (count + 1) old
    none closed =
        let was_is : get_or old count was ≡ was = get_or_from_slice_get old count was was of_was in
        let kept : mark ≡ was = same_mark indexed tuple was mark is (closes closed).1 in
        ap (λ xs. xs ++ mark ∷ []) (are.none (closes closed).0) ∙ ap (λ b. take count old ++ b ∷ []) (kept ∙ sym was_is)
        ∙ sym (take_more old count was (omega (arith, below, lengths)))

    some : next ≡ true → GoesNow tuples old (marks ++ mark ∷ [])
    some next_is = by (opens next_is)
      where
        by : (more ≡ true) ⊎ ((was ≡ false) × (mark ≡ true)) → GoesNow tuples old (marks ++ mark ∷ [])
        by (inl before) = goes_still tuples old marks mark (are.some before)
        by (inr (stood, goes)) =
            record {
              place = count;
              tuple = tuple;
              at = of_tuple;
              was = of_was ∙ ap (λ b. Some b) stood;
              now = ap (slice_get (marks ++ mark ∷ [])) (sym are.as_many) ∙ get_end marks mark ∙ ap (λ b. Some b) goes;
            }

-- the mark of the tuple that comes next, where what it was is read at any default
pub marks_next : (indexed : IndexedQuery) (tuples : List (List Value)) (old : List Bool) (count : ℕ)
    (marks now : List Bool) (more next : Bool)
    (tuple : List Value) (d mark : Bool) → length old ≡ length tuples → count < length tuples
    → AreMarks indexed tuples old count marks more → tuple ≡ get_or tuples count tuple
    → IsMark indexed tuple (get_or old count d) mark → now ≡ marks ++ mark ∷ []
    → (next ≡ false → (more ≡ false) × (mark ≡ true → get_or old count d ≡ true))
    → (next ≡ true → (more ≡ true) ⊎ ((get_or old count d ≡ false) × (mark ≡ true)))
    → AreMarks indexed tuples old (count + 1) now next
marks_next indexed tuples old count marks now more next tuple d mark lengths below are tuple_is is after closes opens =
    marks_more indexed tuples old count marks now more next tuple (get_or old count d) mark lengths below are tuple_is
    (slice_get-get_or old count d (omega (arith, below, lengths))) is after closes opens
