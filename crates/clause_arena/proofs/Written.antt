-- What is cut where one item is changed.
use Rattle.std.proofs.Common.{◌≡◌, ◌+◌, ◌-◌, ◌<◌, ◌≤◌, ◌∙◌, ℕ, zero, suc, List, [], ◌∷◌, Option, Some, IfSome, length, get_or, take, drop, slice_get, slice_set, slice_range, refl, sym, ap, subst, arith, length-drop, length-take-le}
use Rattle.std.proofs.lemmas.List.{take-set-le, drop-set-lt, drop-set-add}
use Rattle.std.proofs.Math.Seq.{take-set-lt}
use Rattle.flat_lists.specs.Flat.{cut_from, Ascend, IsFlat}
use Rattle.flat_lists.proofs.Cuts.{length-cut_from}
use Rattle.clause_arena.proofs.Cuts.{list_at, span_order, end_within}

-- a change before a range, or behind it, does not reach it
range_after : {A : Type 0} (xs : List A) (place from to : ℕ) (x : A) → place < from → slice_range
    (slice_set xs place x) from to ≡ slice_range xs from to
range_after xs place from to x before = ap (take (to - from)) (drop-set-lt from xs place x before)

range_before : {A : Type 0} (xs : List A) (from to more : ℕ) (x : A) → to - from ≤ more
    → slice_range (slice_set xs (from + more) x) from to ≡ slice_range xs from to
range_before xs from to more x behind =
    ap (take (to - from)) (drop-set-add from xs more x) ∙ take-set-le (to - from) (drop from xs) more x behind

-- a change in a range changes it there
range_in : {A : Type 0} (xs : List A) (from to more : ℕ) (x : A) → more < to - from
    → slice_range (slice_set xs (from + more) x) from to ≡ slice_set (slice_range xs from to) more x
range_in xs from to more x within =
    ap (take (to - from)) (drop-set-add from xs more x) ∙ take-set-lt (to - from) (drop from xs) more x within

-- a change before all that is cut does not reach it
cut_after : {A : Type 0} (start : ℕ) (ends : List ℕ) (xs : List A) (total place : ℕ) (x : A)
    → Ascend start ends total → place < start
    → cut_from start ends (slice_set xs place x) ≡ cut_from start ends xs
cut_after start [] xs total place x a before = refl
cut_after start (end ∷ ends) xs total place x a before =
    let range = range_after xs place start end x before in
    let rest = cut_after end ends xs total place x a.1 (omega (arith, a.0, before)) in
    cc

-- an item of one of the lists is changed
pub cut_written : {A : Type 0} (start : ℕ) (ends : List ℕ) (xs : List A) (total place more : ℕ) (x : A)
    → Ascend start ends total → place < length ends
    → get_or (start ∷ ends) place 0 + more < get_or ends place 0
    → cut_from start ends (slice_set xs (get_or (start ∷ ends) place 0 + more) x)
    ≡ slice_set (cut_from start ends xs) place
    (slice_set (slice_range xs (get_or (start ∷ ends) place 0) (get_or ends place 0)) more x)
cut_written start [] xs total place more x a within inside = absurd (omega arith)
cut_written start (end ∷ ends) xs total zero more x a within inside =
    let range = range_in xs start end more x (omega (arith, inside)) in
    let rest = cut_after end ends xs total (start + more) x a.1 inside in
    cc
cut_written start (end ∷ ends) xs total (suc place) more x a within inside =
    let below : end ≤ get_or (end ∷ ends) place 0 = first_below end ends total place a.1 (omega arith) in
    let at = get_or (end ∷ ends) place 0 + more in
    let split : start + (at - start) ≡ at = omega (arith, a.0, below) in
    let range : slice_range (slice_set xs at x) start end ≡ slice_range xs start end =
    ap (λ (i : ℕ). slice_range (slice_set xs i x) start end) (sym split) ∙ range_before xs start end (at - start) x
    (omega (arith, below)) in
    let rest = cut_written end ends xs total place more x a.1 (omega arith) inside in
    cc
  where
    first_below : (start : ℕ) (ends : List ℕ) (total place : ℕ) → Ascend start ends total → place < length ends
        → start ≤ get_or (start ∷ ends) place 0
    first_below start ends total zero a h = omega arith
    first_below start [] total (suc place) a h = absurd (omega arith)
    first_below start (end ∷ ends) total (suc place) a h = omega (arith, a.0, first_below end ends total place a.1 (omega arith))

-- the clause has as many literals as stand from its start to its end
span_length : {A : Type 0} (xs : List A) (from to : ℕ) → from ≤ to → to ≤ length xs → length (slice_range xs from to) ≡ to - from
span_length xs from to order within =
    length-take-le (to - from) (drop from xs) (omega (arith, length-drop from xs))

-- a place of a clause: where it stands, and what the clauses are once another item is put there
pub record IsPlace {A : Type 0} (xs : List A) (ends : List ℕ) (lists : List (List A)) (clause place : ℕ) : Type 0 where
  pub known : clause < length ends
  pub inside : get_or (0 ∷ ends) clause 0 + place < length xs
  pub written : (lits : List A) (x : A) → slice_get lists clause ≡ Some lits
      → cut_from 0 ends (slice_set xs (get_or (0 ∷ ends) clause 0 + place) x) ≡ slice_set lists clause (slice_set lits place x)

pub is_place : {A : Type 0} (xs : List A) (ends : List ℕ) (lists : List (List A)) (clause place : ℕ) → IsFlat ends (length xs)
    → cut_from 0 ends xs ≡ lists → clause < length lists → IfSome (slice_get lists clause)
    (λ (lits : List A). place < length lits)
    → IsPlace xs ends lists clause place
is_place {A} xs ends lists clause place flat cut within some =
    let from = get_or (0 ∷ ends) clause 0 in
    let to = get_or ends clause 0 in
    let known : clause < length ends = omega (arith, ap length cut, length-cut_from 0 ends xs) in
    let found : slice_get lists clause ≡ Some (slice_range xs from to) =
    ap (λ (ls : List (List A)). slice_get ls clause) (sym cut) ∙ list_at 0 ends xs clause known in
    let order = span_order 0 ends (length xs) clause flat.ascend known in
    let ending = end_within 0 ends (length xs) clause flat.ascend known in
    let long : length (slice_range xs from to) ≡ to - from = span_length xs from to order ending in
    let inside : place < length (slice_range xs from to) =
    subst (λ (o : Option (List A)). IfSome o (λ lits. place < length lits)) found some in
    let here : from + place < to = omega (arith, long, order, inside) in
    record {
      known = known;
      inside = omega (arith, here, ending);
      written = λ lits x is.
          let same : lits ≡ slice_range xs from to = cc in
          cut_written 0 ends xs (length xs) clause place x flat.ascend known here
          ∙ ap (λ (ys : List A). slice_set (cut_from 0 ends xs) clause (slice_set ys place x)) (sym same)
          ∙ ap (λ (ls : List (List A)). slice_set ls clause (slice_set lits place x)) cut;
    }
