-- The free variable of a scope with the greatest count, where numbers are taken off that have a value or are beyond it.
use Rattle.std.proofs.Common.{◌≡◌, ◌≢◌, ◌⊎◌, ◌<◌, ◌≤◌, ◌+◌, ◌∙◌, ◌&&◌, inl, inr, if◌then◌else◌, ltb, ℕ, zero, suc, Bool, true, false, List, [], ◌∷◌, Option, Some, None, slice_get, slice_index_or, slice_set, refl, sym, ap, subst, arith}
use Rattle.std.proofs.lemmas.Bool.{lt-ltb, le-ltb, cases_eq, cond_both}
use Rattle.std.proofs.lemmas.List.{get_or-set_other}
use Rattle.std.proofs.lemmas.Option.{get_or_from_slice_get}
use Rattle.search_trail.specs.Trails.{Ascend, ScopedValues}
use Rattle.search_trail.proofs.Scopes.{contains_at, place_in}
use Rattle.count_tree.specs.Greatest.{Counts, ComesFirst, IsGreatest}
use Rattle.solver_guides.specs.Choices.{better, greatest_of, is_choice, is_free, is_pick}
use Rattle.solver_guides.proofs.FirstFrees.{free_of, pick_of, taken_of}

-- how many numbers are present
abbrev pub how_many : List Bool → ℕ
how_many [] = 0
how_many (true ∷ present) = how_many present + 1
how_many (false ∷ present) = how_many present

-- one fewer when one is taken off
pub fewer_present : (present : List Bool) (var : ℕ) → slice_get present var ≡ Some true
    → how_many (slice_set present var false) < how_many present
fewer_present [] var there = absurd (cc)
fewer_present (true ∷ present) zero there = omega arith
fewer_present (false ∷ present) zero there = absurd (cc)
fewer_present (true ∷ present) (suc var) there = omega (arith, fewer_present present var there)
fewer_present (false ∷ present) (suc var) there = fewer_present present var there

-- what is read of a number that is present, and of one that is not
there_of : (present : List Bool) (number : ℕ) → slice_index_or present number false ≡ true → slice_get present number ≡ Some true
there_of [] number e = absurd (cc)
there_of (b ∷ bs) zero e = ap Some e
there_of (b ∷ bs) (suc number) e = there_of bs number e

absent_of : (present : List Bool) (number : ℕ) → (slice_get present number ≡ Some true → ⊥)
    → slice_index_or present number false ≡ false
absent_of present number none = go (slice_index_or present number false) refl
  where
    go : (b : Bool) → slice_index_or present number false ≡ b → slice_index_or present number false ≡ false
    go false e = e
    go true e = absurd (none (there_of present number e))

-- not both
left_false : (a b : Bool) → a ≡ false → a && b ≡ false
left_false a b e = rw e refl

right_false : (a b : Bool) → b ≡ false → a && b ≡ false
right_false true b e = e
right_false false b e = refl

left_true : (a b : Bool) → a && b ≡ true → a ≡ true
left_true true b e = refl
left_true false b e = absurd (cc)

module _ (counts : List ℕ) (given : List (Option Bool)) where
  -- taking off a number that has a value if it is among the variables changes no choice
  pub taken_off : (var : ℕ) (present : List Bool) (vars : List ℕ) (best : Option ℕ)
      → ((i : ℕ) → slice_get vars i ≡ Some var → is_free given var ≡ false)
      → greatest_of counts (slice_set present var false) given vars best ≡ greatest_of counts present given vars best
  taken_off var present [] best taken = refl
  taken_off var present (x ∷ xs) best taken =
      ap (λ (b : Bool). greatest_of counts (slice_set present var false) given xs
      (if b then Some (better counts best x) else best))
      (same (cases_eq x var))
      ∙ taken_off var present xs (if is_choice present given x then Some (better counts best x) else best)
      (λ i at. taken (suc i) at)
    where
      same : (x ≡ var) ⊎ (x ≢ var) → is_choice (slice_set present var false) given x ≡ is_choice present given x
      same (inl e) =
          let none : is_free given x ≡ false = ap (is_free given) e ∙ taken 0 (ap Some e) in
          right_false (slice_index_or (slice_set present var false) x false) (is_free given x) none
          ∙ sym (right_false (slice_index_or present x false) (is_free given x) none)
      same (inr d) = ap (λ (b : Bool). b && is_free given x) (get_or-set_other present var x false false d)

  -- where none is present, none is found
  pub none_present : (present : List Bool) (vars : List ℕ) (best : Option ℕ)
      → ((number : ℕ) → slice_get present number ≡ Some true → ⊥) → greatest_of counts present given vars best ≡ best
  none_present present [] best none = refl
  none_present present (x ∷ xs) best none =
      let here : is_choice present given x ≡ false = left_false (slice_index_or present x false) (is_free given x)
      (absent_of present x (none x)) in
      ap (λ (b : Bool). greatest_of counts present given xs (if b then Some (better counts best x) else best)) here
      ∙ none_present present xs best none

  -- the count of a number
  abbrev count : ℕ → ℕ
  count number = slice_index_or counts number 0

  kept : (n var : ℕ) → count n ≤ count var → better counts (Some var) n ≡ var
  kept n var most = rw (le-ltb (count var) (count n) most) refl

  module _ (present : List Bool) (var : ℕ) (most : (m : ℕ) → slice_get present m ≡ Some true → count m ≤ count var)
      (less : (m : ℕ) → slice_get present m ≡ Some true → m < var → count m < count var) where
    present_of : (x : ℕ) → is_choice present given x ≡ true → slice_get present x ≡ Some true
    present_of x e = there_of present x (left_true (slice_index_or present x false) (is_free given x) e)

    -- none that comes later has more than the one that was found
    stays : (vars : List ℕ) → greatest_of counts present given vars (Some var) ≡ Some var
    stays [] = refl
    stays (x ∷ xs) = ap (greatest_of counts present given xs) (go (is_choice present given x) refl) ∙ stays xs
      where
        go : (b : Bool) → is_choice present given x ≡ b
            → (if is_choice present given x then Some (better counts (Some var) x) else Some var) ≡ Some var
        go true e = rw e (ap Some (kept x var (most x (present_of x e))))
        go false e = rw e refl

    better_less : (best : Option ℕ) (n : ℕ) → ((b : ℕ) → best ≡ Some b → count b < count var) → count n < count var
        → count (better counts best n) < count var
    better_less None n loses lower = lower
    better_less (Some x) n loses lower = cond_both (ltb (count x) (count n)) n x (λ k. count k < count var)
        (λ e. lower) (λ e. loses x refl)

    better_all : (best : Option ℕ) (n : ℕ) → n ≡ var → ((b : ℕ) → best ≡ Some b → count b < count var)
        → better counts best n ≡ var
    better_all None n same loses = same
    better_all (Some x) n same loses =
        let as_many : count n ≡ count var = ap count same in
        let below : ltb (count x) (count n) ≡ true = lt-ltb (count x) (count n) (omega (arith, loses x refl, as_many)) in
        rw below same

    -- the one that comes first is found, where all that were seen before have less
    pub reaches : (i : ℕ) (vars : List ℕ) (best : Option ℕ) → slice_get vars i ≡ Some var → is_choice present given var ≡ true
        → ((b : ℕ) → best ≡ Some b → count b < count var)
        → ((j x : ℕ) → j < i → slice_get vars j ≡ Some x → x < var)
        → greatest_of counts present given vars best ≡ Some var
    reaches i [] best at choice loses before = absurd (cc)
    reaches zero (x ∷ xs) best at choice loses before =
        let same : x ≡ var = cc in
        let here : is_choice present given x ≡ true = ap (is_choice present given) same ∙ choice in
        ap (λ (b : Bool). greatest_of counts present given xs (if b then Some (better counts best x) else best)) here
        ∙ ap (λ (n : ℕ). greatest_of counts present given xs (Some n)) (better_all best x same loses) ∙ stays xs
    reaches (suc i) (x ∷ xs) best at choice loses before =
        reaches i xs (if is_choice present given x then Some (better counts best x) else best) at choice
        (go (is_choice present given x) refl) (λ j y h a. before (suc j) y (omega (arith, h)) a)
      where
        go : (c : Bool) → is_choice present given x ≡ c → (b : ℕ)
            → (if is_choice present given x then Some (better counts best x) else best) ≡ Some b → count b < count var
        go true e b is =
            let that : (if is_choice present given x then Some (better counts best x) else best) ≡ Some (better counts best x) =
            rw e refl in
            let same : better counts best x ≡ b = cc in
            subst (λ (k : ℕ). count k < count var) same
            (better_less best x loses (less x (present_of x e) (before 0 x (omega arith) refl)))
        go false e b is =
            let that : (if is_choice present given x then Some (better counts best x) else best) ≡ best = rw e refl in
            loses b (sym that ∙ is)

-- the present number with the greatest count is found, where it may be picked
pub greatest_found : (c : Counts) (var : ℕ) (values : ScopedValues) → Ascend values.scope → IsGreatest c var
    → is_pick values var ≡ true → greatest_of c.counts c.present values.given values.scope None ≡ Some var
greatest_found c var values ascend is picked =
    reaches c.counts values.given c.present var most less there.0 values.scope None there.1 choice (λ b e. absurd (cc))
    (λ j x h at. ascend j there.0 x var h at there.1)
  where
    there : (i : ℕ) × (slice_get values.scope i ≡ Some var)
    there = place_in values.scope var (pick_of values var picked).is_in

    choice : is_choice c.present values.given var ≡ true
    choice =
        let here : slice_index_or c.present var false ≡ true = get_or_from_slice_get c.present var true false is.is_present in
        rw (here, free_of values.given var (pick_of values var picked).free) refl

    lower : (m : ℕ) → ComesFirst c var m → m < var → slice_index_or c.counts m 0 < slice_index_or c.counts var 0
    lower m (inl h) before = h
    lower m (inr h) before = absurd (omega (arith, h.1, before))

    up_to : (m : ℕ) → ComesFirst c var m → slice_index_or c.counts m 0 ≤ slice_index_or c.counts var 0
    up_to m (inl h) = omega (arith, h)
    up_to m (inr h) = omega (arith, h.0)

    less : (m : ℕ) → slice_get c.present m ≡ Some true → m < var → slice_index_or c.counts m 0 < slice_index_or c.counts var 0
    less m here before = lower m (is.first m here) before

    most : (m : ℕ) → slice_get c.present m ≡ Some true → slice_index_or c.counts m 0 ≤ slice_index_or c.counts var 0
    most m here = up_to m (is.first m here)

-- the choice is the same over a tree that a number is taken off which may not be picked
pub choice_stays : (old new : Counts) (var : ℕ) (values : ScopedValues) → new.counts ≡ old.counts
    → new.present ≡ slice_set old.present var false
    → is_pick values var ≡ false
    → greatest_of new.counts new.present values.given values.scope None ≡ greatest_of old.counts old.present values.given
    values.scope None
choice_stays old new var values counts present taken =
    ap (λ (cs : List ℕ). greatest_of cs new.present values.given values.scope None) counts
    ∙ ap (λ (ps : List Bool). greatest_of old.counts ps values.given values.scope None) present
    ∙ taken_off old.counts values.given var old.present values.scope None
    (λ i at. taken_of values var taken (contains_at values.scope i var at))
