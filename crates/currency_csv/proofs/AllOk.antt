-- A loop that makes one item of each, and stops at the first fault.
use Rattle.std.proofs.Common.{◌≡◌, ◌+◌, ◌<◌, ◌≤◌, ℕ, List, [], ◌∷◌, ◌++◌, length, map, drop, get_or, Result, Ok, Err, refl, sym, ap, ◌∙◌, append_assoc, add-one, arith}
use Rattle.std.proofs.Math.Seq.{drop-cons}
use Rattle.std.proofs.lemmas.List.{append-nil, drop_all}
use Rattle.std.specs.List.{enumerate_from}
use Rattle.currency_csv.specs.Table.{all_ok, with_first}

-- items before others, unless there is a fault in place of those
abbrev pub with_front : {B E : Type 0} → List B → Result (List B) E → Result (List B) E
with_front done (Ok items) = Ok (done ++ items)
with_front done (Err fault) = Err fault

with_front-nil : {B E : Type 0} (r : Result (List B) E) → r ≡ with_front [] r
with_front-nil (Ok items) = refl
with_front-nil (Err fault) = refl

with_front-first : {B E : Type 0} (done : List B) (y : B) (r : Result (List B) E) → with_front done
    (with_first y r) ≡ with_front (done ++ y ∷ []) r
with_front-first done y (Ok items) = ap Ok (sym (append_assoc done (y ∷ []) items))
with_front-first done y (Err fault) = refl

module _ {A B E : Type 0} (f : ℕ × A → Result B E) (n : ℕ) (xs : List A) where
  -- what is due, from the items so far and those that are left
  abbrev pub SoFar : ℕ → List B → Type 0
  SoFar i done = all_ok (map f (enumerate_from n xs)) ≡ with_front done (all_ok (map f (enumerate_from (n + i) (drop i xs))))

  pub so_far_none : SoFar 0 []
  so_far_none =
      let e : n + 0 ≡ n = omega arith in
      rw e (with_front-nil _)

  -- the item at i and its number m
  module _ (i m : ℕ) (done : List B) (x d : A) (within : i < length xs) (counted : m ≡ n + i)
      (here : x ≡ get_or xs i d) (before : SoFar i done) where
    split : drop i xs ≡ x ∷ drop (i + 1) xs
    split = rw (here, add-one) (drop-cons xs i d within)

    pub so_far_more : (y : B) → f (m, x) ≡ Ok y → SoFar (i + 1) (done ++ y ∷ [])
    so_far_more y made =
        let next : n + i + 1 ≡ n + (i + 1) = omega arith in
        let due = rw counted at made in
        let left = rw (split, due, next) at before in
        left ∙ with_front-first done y _

    pub so_far_fault : (fault : E) → f (m, x) ≡ Err fault → Err fault ≡ all_ok (map f (enumerate_from n xs))
    so_far_fault fault made =
        let due = rw counted at made in
        sym (rw (split, due) at before)

  pub so_far_all : (i : ℕ) (done : List B) → length xs ≤ i → SoFar i done → Ok done ≡ all_ok (map f (enumerate_from n xs))
  so_far_all i done past before = sym (rw (drop_all i xs past, append-nil done) at before)
