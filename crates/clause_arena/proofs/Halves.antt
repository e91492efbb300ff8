-- Lists of slots, and the lists of what a function makes of them, as the clauses of slots.
use Rattle.std.proofs.Common.{◌≡◌, ◌==◌, ◌∙◌, ℕ, zero, suc, Bool, true, false, cond, List, [], ◌∷◌, Option, Some, None, IfSome, map, replicate, slice_set, refl, sym, ap, subst, inl, inr}
use Rattle.std.specs.Prelude.{option_map}
use Rattle.std.specs.List.{filter}
use Rattle.std.proofs.lemmas.Bool.Decides.{eqb_tells}
use Rattle.std.proofs.lemmas.Bool.{eq-eqb, ne_eqb}
use Rattle.std.proofs.lemmas.List.{map-set}
use Rattle.watch_links.specs.Links.{IsIn, HasNoneTwice, coming_after, head_of, following, without, list_of, lists_with, lists_without}
use Rattle.watch_links.proofs.SlotLists.{Tells}

-- the list of an owner, where all lists are changed in one way, which leaves an empty one empty
pub list_map : (g : List ℕ → List ℕ) → g [] ≡ [] → (lists : List (List ℕ)) (owner : ℕ) → list_of (map g lists)
    owner ≡ g (list_of lists owner)
list_map g empty [] owner = sym empty
list_map g empty (xs ∷ lists) zero = refl
list_map g empty (xs ∷ lists) (suc owner) = list_map g empty lists owner

pub map_empty : (g : List ℕ → List ℕ) → g [] ≡ [] → (n : ℕ) → map g (replicate n []) ≡ replicate n []
map_empty g empty zero = refl
map_empty g empty (suc n) = ap (λ (xs : List ℕ). xs ∷ map g (replicate n [])) empty
    ∙ ap (λ (ls : List (List ℕ)). [] ∷ ls) (map_empty g empty n)

pub in_map : (f : ℕ → ℕ) (y : ℕ) (xs : List ℕ) → IsIn y xs → IsIn (f y) (map f xs)
in_map f y [] i = i
in_map f y (x ∷ xs) (inl e) = inl (ap f e)
in_map f y (x ∷ xs) (inr i) = inr (in_map f y xs i)

pub from_map : (f : ℕ → ℕ) (c : ℕ) (xs : List ℕ) → IsIn c (map f xs) → (y : ℕ) × IsIn y xs × (c ≡ f y)
from_map f c [] i = absurd i
from_map f c (x ∷ xs) (inl e) = (x, inl refl, e)
from_map f c (x ∷ xs) (inr i) = let r = from_map f c xs i in (r.0, inr r.1, r.2)

-- the function makes the same of no other slot of the list
abbrev pub IsAlone : (ℕ → ℕ) → ℕ → List ℕ → Type 0
IsAlone f slot xs = (y : ℕ) → IsIn y xs → f y ≡ f slot → y ≡ slot

pub head_map : (f : ℕ → ℕ) (xs : List ℕ) → head_of (map f xs) ≡ option_map f (head_of xs)
head_map f [] = refl
head_map f (x ∷ xs) = refl

pub following_map : (f : ℕ → ℕ) (slot : ℕ) (xs : List ℕ) → IsAlone f slot xs → following (f slot) (map f xs) ≡
    option_map f (following slot xs)
unfolding following
following_map f slot [] alone = refl
following_map f slot (x ∷ xs) alone = go (eqb_tells slot x) (following_map f slot xs (λ y i. alone y (inr i)))
  where
    go : Tells slot x → following (f slot) (map f xs) ≡ option_map f (following slot xs)
        → cond (f slot == f x) (head_of (map f xs)) (following (f slot) (map f xs)) ≡ option_map f
        (cond (slot == x) (head_of xs) (following slot xs))
    go (inl h) more = rw (h.0, eq-eqb (f slot) (f x) (ap f h.1)) (head_map f xs)
    go (inr h) more = rw (h.0, ne_eqb (f slot) (f x) (λ e. h.1 (sym (alone x (inl refl) (sym e))))) more

-- so it is with what comes after one, or first
pub coming_map : (f : ℕ → ℕ) (before : Option ℕ) (xs : List ℕ) → IfSome before (λ slot. IsAlone f slot xs)
    → coming_after (option_map f before) (map f xs) ≡ option_map f (coming_after before xs)
coming_map f None xs alone = head_map f xs
coming_map f (Some slot) xs alone = following_map f slot xs alone

pub without_map : (f : ℕ → ℕ) (slot : ℕ) (xs : List ℕ) → IsAlone f slot xs → map f (without slot xs) ≡ without (f slot) (map f xs)
unfolding without
without_map f slot [] alone = refl
without_map f slot (x ∷ xs) alone = go (eqb_tells slot x) (without_map f slot xs (λ y i. alone y (inr i)))
  where
    go : Tells slot x → map f (without slot xs) ≡ without (f slot) (map f xs)
        → map f (cond (slot == x) xs (x ∷ without slot xs)) ≡ cond (f slot == f x) (map f xs) (f x ∷ without (f slot) (map f xs))
    go (inl h) more = rw (h.0, eq-eqb (f slot) (f x) (ap f h.1)) refl
    go (inr h) more = rw (h.0, ne_eqb (f slot) (f x) (λ e. h.1 (sym (alone x (inl refl) (sym e)))))
        (ap (λ (ys : List ℕ). f x ∷ ys) more)

pub lists_with_map : (f : ℕ → ℕ) (lists : List (List ℕ)) (owner slot : ℕ)
    → map (map f) (lists_with lists owner slot) ≡ lists_with (map (map f) lists) owner (f slot)
lists_with_map f lists owner slot =
    map-set (map f) lists owner (slot ∷ list_of lists owner)
    ∙ ap (λ (xs : List ℕ). slice_set (map (map f) lists) owner (f slot ∷ xs)) (sym (list_map (map f) refl lists owner))

pub lists_without_map : (f : ℕ → ℕ) (lists : List (List ℕ)) (owner slot : ℕ) → IsAlone f slot (list_of lists owner)
    → map (map f) (lists_without lists owner slot) ≡ lists_without (map (map f) lists) owner (f slot)
lists_without_map f lists owner slot alone =
    map-set (map f) lists owner (without slot (list_of lists owner))
    ∙ ap (slice_set (map (map f) lists) owner) (without_map f slot (list_of lists owner) alone)
    ∙ ap (λ (xs : List ℕ). slice_set (map (map f) lists) owner (without (f slot) xs)) (sym (list_map (map f) refl lists owner))

-- nothing stands twice still
pub once_map : (f : ℕ → ℕ) (xs : List ℕ) → HasNoneTwice xs → ((slot : ℕ) → IsIn slot xs → IsAlone f slot xs)
    → HasNoneTwice (map f xs)
once_map f [] once alone = tt
once_map f (x ∷ xs) once alone = (
  λ i. let r = from_map f (f x) xs i in
      let same : r.0 ≡ x = alone x (inl refl) r.0 (inr r.1) (sym r.2) in
      once.0 (subst (λ (z : ℕ). IsIn z xs) same r.1),
  once_map f xs once.1 (λ slot i y j e. alone slot (inr i) y (inr j) e),
)

-- a filter of what the function makes
pub filter_map_is : (f : ℕ → ℕ) (p : ℕ → Bool) (xs : List ℕ) → map f (filter (λ (x : ℕ). p (f x)) xs) ≡ filter p (map f xs)
filter_map_is f p [] = refl
filter_map_is f p (x ∷ xs) = go (p (f x)) (filter_map_is f p xs)
  where
    go : (b : Bool) → map f (filter (λ (y : ℕ). p (f y)) xs) ≡ filter p (map f xs)
        → map f (cond b (x ∷ filter (λ (y : ℕ). p (f y)) xs) (filter (λ (y : ℕ). p (f y)) xs)) ≡ cond b
        (f x ∷ filter p (map f xs)) (filter p (map f xs))
    go true more = ap (λ (ys : List ℕ). f x ∷ ys) more
    go false more = more

pub lists_filter_map : (f : ℕ → ℕ) (p : ℕ → Bool) (lists : List (List ℕ))
    → map (map f) (map (filter (λ (x : ℕ). p (f x))) lists) ≡ map (filter p) (map (map f) lists)
lists_filter_map f p [] = refl
lists_filter_map f p (xs ∷ lists) =
    ap (λ (ys : List ℕ). ys ∷ map (map f) (map (filter (λ (x : ℕ). p (f x))) lists)) (filter_map_is f p xs)
    ∙ ap (λ (ls : List (List ℕ)). filter p (map f xs) ∷ ls) (lists_filter_map f p lists)

-- what stands in a filtered list
pub in_filter : (p : ℕ → Bool) (y : ℕ) (xs : List ℕ) → IsIn y (filter p xs) → IsIn y xs × (p y ≡ true)
in_filter p y [] i = absurd i
in_filter p y (x ∷ xs) i = go (p x) refl (in_filter p y xs) i
  where
    go : (b : Bool) → p x ≡ b → (IsIn y (filter p xs) → IsIn y xs × (p y ≡ true))
        → IsIn y (cond b (x ∷ filter p xs) (filter p xs)) → IsIn y (x ∷ xs) × (p y ≡ true)
    go true is more (inl e) = (inl e, ap p e ∙ is)
    go true is more (inr i) = let r = more i in (inr r.0, r.1)
    go false is more i = let r = more i in (inr r.0, r.1)

pub stays_in_filter : (p : ℕ → Bool) (y : ℕ) (xs : List ℕ) → IsIn y xs → p y ≡ true → IsIn y (filter p xs)
stays_in_filter p y [] i passes = i
stays_in_filter p y (x ∷ xs) i passes = go (p x) refl (λ j. stays_in_filter p y xs j passes) i
  where
    go : (b : Bool) → p x ≡ b → (IsIn y xs → IsIn y (filter p xs)) → IsIn y (x ∷ xs)
        → IsIn y (cond b (x ∷ filter p xs) (filter p xs))
    go true is more (inl e) = inl e
    go true is more (inr j) = inr (more j)
    go false is more (inl e) = let no : true ≡ false = sym passes ∙ ap p e ∙ is in cc
    go false is more (inr j) = more j
