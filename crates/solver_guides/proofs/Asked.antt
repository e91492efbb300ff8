-- Guides that are asked one after the other to make room, and what is left of them.
use Rattle.std.specs.DynBox.{dyn_box_with}
use Rattle.std.specs.List.{remove}
use Rattle.std.specs.declared.alloc.Global.{Global}
use Rattle.std.specs.declared.dyn_box.DynBox.{DynBox}
use Rattle.std.proofs.Common.{◌≡◌, ◌<◌, ◌≤◌, ◌+◌, ◌⊎◌, inl, inr, ℕ, zero, suc, Bool, true, false, List, [], ◌∷◌, ◌++◌, Some, length, slice_get, get_or, set, take, drop, refl, sym, ap, subst, arith}
use Rattle.solver_guides.specs.Rings.{AreLeft, HaveRoom, IsAsked}

-- what is behind a box was asked, so the box was
pub asked_of : {X : Type 0} {P : X → Type 0} (may_fit : (i : X) → P i → ℕ → Bool → P i → Bool) (vars : ℕ) (fits said : Bool)
    (old : DynBox X Global P) (i : X) (x value : P i) → fits ≡ said → may_fit i x vars said value ≡ true
    → ◌≡◌ {A = (j : X) × P j} (i, x) (old.vtable, old.value)
    → IsAsked (λ guide. may_fit guide.vtable guide.value) vars old fits (dyn_box_with old i value)
asked_of {X} {P} may_fit vars fits said old i x value is told same =
    subst (λ (b : (j : X) × P j). (value : P b.0) → may_fit b.0 b.1 vars fits value ≡ true
    → IsAsked (λ guide. may_fit guide.vtable guide.value) vars old fits (dyn_box_with old b.0 value)) (sym same)
    (λ value told. record { value = value; is_new = refl; told = told }) value (rw is told)

-- what stands from a place on, in front of it, and after it was written or taken out there
module _ {B : Type 0} where
  from_place : (xs : List B) (n : ℕ) (x : B) → n < length xs → x ≡ get_or xs n x → drop n xs ≡ x ∷ drop (suc n) xs
  from_place [] n x within is = absurd (omega (arith, within))
  from_place (y ∷ ys) zero x within is = rw is refl
  from_place (y ∷ ys) (suc n) x within is = from_place ys n x (omega (arith, within)) is

  after_set : (xs : List B) (n : ℕ) (y : B) → drop (suc n) (set xs n y) ≡ drop (suc n) xs
  after_set [] n y = refl
  after_set (x ∷ xs) zero y = refl
  after_set (x ∷ xs) (suc n) y = after_set xs n y

  up_to_set : (xs : List B) (n : ℕ) (y : B) (zs : List B) → n < length xs
      → take (suc n) (set xs n y) ++ zs ≡ take n xs ++ (y ∷ zs)
  up_to_set [] n y zs within = absurd (omega (arith, within))
  up_to_set (x ∷ xs) zero y zs within = refl
  up_to_set (x ∷ xs) (suc n) y zs within = ap (λ l. x ∷ l) (up_to_set xs n y zs (omega (arith, within)))

  before_removed : (xs : List B) (n : ℕ) (y : B) → n < length xs → take n (remove (set xs n y) n) ≡ take n xs
  before_removed [] n y within = absurd (omega (arith, within))
  before_removed (x ∷ xs) zero y within = refl
  before_removed (x ∷ xs) (suc n) y within = ap (λ l. x ∷ l) (before_removed xs n y (omega (arith, within)))

  from_removed : (xs : List B) (n : ℕ) (y : B) → n < length xs → drop n (remove (set xs n y) n) ≡ drop (suc n) xs
  from_removed [] n y within = absurd (omega (arith, within))
  from_removed (x ∷ xs) zero y within = refl
  from_removed (x ∷ xs) (suc n) y within = from_removed xs n y (omega (arith, within))

  whole : (xs : List B) (n : ℕ) → length xs ≤ n → drop n xs ≡ []
  whole [] zero past = refl
  whole [] (suc n) past = refl
  whole (x ∷ xs) zero past = absurd (omega (arith, past))
  whole (x ∷ xs) (suc n) past = whole xs n (omega (arith, past))

  all_of : (xs : List B) (n : ℕ) → length xs ≤ n → take n xs ++ [] ≡ xs
  all_of [] zero past = refl
  all_of [] (suc n) past = refl
  all_of (x ∷ xs) zero past = absurd (omega (arith, past))
  all_of (x ∷ xs) (suc n) past = ap (λ l. x ∷ l) (all_of xs n (omega (arith, past)))

-- the guides in front of a place are left of those that were asked, and the others were not asked yet: with what will be
-- left of these they are what is left of all
abbrev pub AreSoFar : {X : Type 0} {P : X → Type 0} (may_fit : (guide : DynBox X Global P) → ℕ → Bool → P guide.vtable → Bool)
    → ℕ → (old now : List (DynBox X Global P)) → ℕ → Type 0
AreSoFar may_fit vars old now place = (news : _) → AreLeft may_fit vars (drop place now) news
    → AreLeft may_fit vars old (take place now ++ news)

module _ {X : Type 0} {P : X → Type 0} (may_fit : (guide : DynBox X Global P) → ℕ → Bool → P guide.vtable → Bool) (vars : ℕ)
    (old now : List (DynBox X Global P)) (place : ℕ) where
  -- the guide at the place was asked, and stays
  pub one_stays : (guide asked : DynBox X Global P) (next : List (DynBox X Global P)) (fits : Bool) → place < length now
      → guide ≡ get_or now place guide → next ≡ set now place asked → fits ≡ true → IsAsked may_fit vars guide fits asked
      → AreSoFar may_fit vars old now place → AreSoFar may_fit vars old next (place + 1)
  one_stays guide asked next fits within here is_next stays was so_far news left =
      let one : place + 1 ≡ suc place = omega arith in
      subst (λ l. AreLeft may_fit vars old (take (place + 1) l ++ news)) (sym is_next)
      (subst (λ n. AreLeft may_fit vars old (take n (set now place asked) ++ news)) (sym one)
      (subst (AreLeft may_fit vars old) (sym (up_to_set now place asked news within))
      (so_far (asked ∷ news) (subst (λ l. AreLeft may_fit vars l (asked ∷ news)) (sym (from_place now place guide within here))
      (AreLeft.stays (subst (λ b. IsAsked may_fit vars guide b asked) stays was)
      (subst (λ l. AreLeft may_fit vars l news) (after_set now place asked)
      (subst (λ n. AreLeft may_fit vars (drop n (set now place asked)) news) one
      (subst (λ l. AreLeft may_fit vars (drop (place + 1) l) news) is_next left))))))))

  -- it was refused, and is taken out
  pub one_goes : (guide asked : DynBox X Global P) (next : List (DynBox X Global P)) (fits : Bool) → place < length now
      → guide ≡ get_or now place guide → next ≡ remove (set now place asked) place → fits ≡ false
      → IsAsked may_fit vars guide fits asked → AreSoFar may_fit vars old now place → AreSoFar may_fit vars old next place
  one_goes guide asked next fits within here is_next goes was so_far news left =
      subst (λ l. AreLeft may_fit vars old (take place l ++ news)) (sym is_next)
      (subst (λ l. AreLeft may_fit vars old (l ++ news)) (sym (before_removed now place asked within))
      (so_far news (subst (λ l. AreLeft may_fit vars l news) (sym (from_place now place guide within here))
      (AreLeft.goes (subst (λ b. IsAsked may_fit vars guide b asked) goes was)
      (subst (λ l. AreLeft may_fit vars l news) (from_removed now place asked within)
      (subst (λ l. AreLeft may_fit vars (drop place l) news) is_next left))))))

  -- all were asked
  pub all_asked : length now ≤ place → AreSoFar may_fit vars old now place → AreLeft may_fit vars old now
  all_asked past so_far =
      subst (AreLeft may_fit vars old) (all_of now place past)
      (so_far [] (subst (λ l. AreLeft may_fit vars l []) (sym (whole now place past)) AreLeft.none))

-- what is read at a place up to the one that was written, and in front of one that was taken out
module _ {B : Type 0} where
  read_of : (xs : List B) (n p : ℕ) (y x : B) → p < n + 1 → slice_get (set xs n y) p ≡ Some x
      → (x ≡ y) ⊎ ((p < n) × (slice_get xs p ≡ Some x))
  read_of [] n p y x below there = absurd (cc)
  read_of (z ∷ zs) zero zero y x below there = inl (cc)
  read_of (z ∷ zs) zero (suc p) y x below there = absurd (omega (arith, below))
  read_of (z ∷ zs) (suc n) zero y x below there = inr (omega arith, there)
  read_of (z ∷ zs) (suc n) (suc p) y x below there = go (read_of zs n p y x (omega (arith, below)) there)
    where
      go : (x ≡ y) ⊎ ((p < n) × (slice_get zs p ≡ Some x))
          → (x ≡ y) ⊎ ((suc p < suc n) × (slice_get (z ∷ zs) (suc p) ≡ Some x))
      go (inl e) = inl e
      go (inr e) = inr (omega (arith, e.0), e.1)

  kept_of : (xs : List B) (n p : ℕ) (y x : B) → p < n → slice_get (remove (set xs n y) n) p ≡ Some x → slice_get xs p ≡ Some x
  kept_of xs zero p y x below there = absurd (omega (arith, below))
  kept_of [] (suc n) p y x below there = absurd (cc)
  kept_of (z ∷ zs) (suc n) zero y x below there = there
  kept_of (z ∷ zs) (suc n) (suc p) y x below there = kept_of zs n p y x (omega (arith, below)) there

  -- the guide at the place has made room, or is taken out
  pub room_stays : (has_room : B → ℕ → Bool) (vars : ℕ) (now next : List B) (n : ℕ) (y : B) (fits : Bool) → next ≡ set now n y
      → fits ≡ true → (fits ≡ true → has_room y vars ≡ true) → HaveRoom has_room vars now n → HaveRoom has_room vars next (n + 1)
  room_stays has_room vars now next n y fits is_next stays fitted room p x below there =
      go (read_of now n p y x below (subst (λ l. slice_get l p ≡ Some x) is_next there))
    where
      go : (x ≡ y) ⊎ ((p < n) × (slice_get now p ≡ Some x)) → has_room x vars ≡ true
      go (inl e) = rw e (fitted stays)
      go (inr e) = room p x e.0 e.1

  pub room_goes : (has_room : B → ℕ → Bool) (vars : ℕ) (now next : List B) (n : ℕ) (y : B) → next ≡ remove (set now n y) n
      → HaveRoom has_room vars now n → HaveRoom has_room vars next n
  room_goes has_room vars now next n y is_next room p x below there =
      room p x below (kept_of now n p y x below (subst (λ l. slice_get l p ≡ Some x) is_next there))

-- what is behind a box chooses so, so the box does
pub chosen_of : {X C : Type 0} {P : X → Type 0} (choice : (i : X) → P i → C) (old : DynBox X Global P) (i : X) (x : P i)
    (chosen : C) → chosen ≡ choice i x → ◌≡◌ {A = (j : X) × P j} (i, x) (old.vtable, old.value) → chosen ≡ choice old.vtable old.value
chosen_of {X} {C} {P} choice old i x chosen is same = subst (λ (b : (j : X) × P j). chosen ≡ choice b.0 b.1) same is
