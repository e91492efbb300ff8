-- Names that are found in a list, and lists of variables.
use Rattle.std.proofs.Common.{◌≡◌, ◌∙◌, ◌+◌, drop, ◌<◌, ◌≤◌, ◌⊎◌, ◌++◌, ◌∷◌, [], ℕ, zero, suc, Bool, true, false, List, length, get_or, Option, Some, None, slice_get, inl, inr, refl, sym, ap, arith}
use Rattle.std.specs.Prelude.{if◌then◌else◌, is_some, ◌||◌}
use Rattle.std.proofs.lemmas.Bool.{cases_lt, lt-ltb, cond-true, true≢false}
use Rattle.std.proofs.lemmas.List.{at_drop_more}
use Rattle.std.proofs.lemmas.List.Quantifiers.{position-Some}
use Rattle.std.proofs.lemmas.List.Sums.{fails_before_first}
use Rattle.std.proofs.lemmas.Option.{get_or_from_slice_get, slice_get-get_or, slice_get_within, none-some}
use Rattle.std.proofs.lemmas.Slice.Eq.{bytes_eq-Decides}
use Rattle.std.specs.List.{fold, list_any, position, position_or_len}
use Rattle.std.specs.Str.{bytes_eq}
use Rattle.currency_base.specs.Lists.{OnlyOnce}
use Rattle.text_grammar.specs.declared.named.Named.{Named}
use Rattle.query_syntax.specs.declared.trees.DisjunctTree.{DisjunctTree}
use Rattle.query_syntax.specs.declared.trees.AtomTree.{AtomTree}
use Rattle.query_syntax.specs.declared.trees.PartTree.{PartTree}
use Rattle.query_syntax.specs.declared.trees.PartTree.TheVariants as part
use Rattle.query_syntax.specs.declared.trees.PlaceTree.{PlaceTree}
use Rattle.query_syntax.specs.declared.trees.PlaceTree.TheVariants as place
use Rattle.spec_names.specs.Names.{place_of}
use Rattle.query_bind.specs.Queried.{all_parts, vars_of, with_name, with_part, with_place}
use Rattle.query_bind.proofs.Lists.{IsIn, in_from_get, in_push}

pub same_bytes : (a b : List ℕ) → bytes_eq a b ≡ true → a ≡ b
same_bytes a b is = (bytes_eq-Decides a b).0 is

pub own_bytes : (a b : List ℕ) → a ≡ b → bytes_eq a b ≡ true
own_bytes a b is = (bytes_eq-Decides a b).1 is

-- a name that has a place stands there
pub stands_at : (names : List (List ℕ)) (name : List ℕ) (k : ℕ) → place_of names name ≡ Some k → slice_get names k ≡ Some name
stands_at names name k is =
    let found = position-Some (bytes_eq name) names k name is in
    slice_get-get_or names k name found.0 ∙ ap Some (sym (same_bytes name (get_or names k name) found.1))

pub place_within : (names : List (List ℕ)) (name : List ℕ) (k : ℕ) → place_of names name ≡ Some k → k < length names
place_within names name k is = (position-Some (bytes_eq name) names k name is).0

position_none : {X : Type 0} (p : X → Bool) (xs : List X) → position p xs ≡ None → (k : ℕ) (d : X) → k < length xs
    → p (get_or xs k d) ≡ false
position_none p xs none k d lt = fails_before_first p xs k d (past (cases_lt (position_or_len p xs) (length xs)))
  where
    past : (position_or_len p xs < length xs) ⊎ (length xs ≤ position_or_len p xs) → k < position_or_len p xs
    past (inl below) = absurd (none-some _ (sym none ∙ cond-true _ _ _ (lt-ltb _ _ below)))
    past (inr above) = omega arith

-- a name that stands somewhere has a place
pub present : (names : List (List ℕ)) (name : List ℕ) (at : ℕ) → slice_get names at ≡ Some name →
    (k : ℕ) × (place_of names name ≡ Some k)
present names name at is_at = by_cases (place_of names name) refl
  where
    by_cases : (o : Option ℕ) → place_of names name ≡ o → (k : ℕ) × (place_of names name ≡ Some k)
    by_cases (Some k) is = (k, is)
    by_cases None is =
        let fails = position_none (bytes_eq name) names is at name (slice_get_within names at name is_at) in
        let passes : bytes_eq name (get_or names at name) ≡ true =
        own_bytes name (get_or names at name) (sym (get_or_from_slice_get names at name name is_at)) in
        absurd (true≢false (sym passes ∙ fails))

-- the place of a name that stands once
pub its_place : (names : List (List ℕ)) (name : List ℕ) (at : ℕ) → OnlyOnce names → slice_get names at ≡ Some name
    → place_of names name ≡ Some at
its_place names name at once is_at =
    let found = present names name at is_at in
    let same : found.0 ≡ at = once found.0 at name (stands_at names name found.0 found.1) is_at in
    found.1 ∙ ap Some same

-- ---- each variable once

last_or_before : {A : Type 0} (xs : List A) (x : A) (i : ℕ) (y : A) → slice_get (xs ++ x ∷ []) i ≡ Some y
    → (slice_get xs i ≡ Some y) ⊎ ((i ≡ length xs) × (x ≡ y))
last_or_before [] x zero y at = inr (refl, cc)
last_or_before [] x (suc i) y at = inl at
last_or_before (z ∷ zs) x zero y at = inl at
last_or_before (z ∷ zs) x (suc i) y at = elim (last_or_before zs x i y at) [
  | inl here ↦ inl here
  | inr last ↦ inr
      (ap suc last.0, last.1)
]

once_more : (xs : List (List ℕ)) (x : List ℕ) → OnlyOnce xs → ((i : ℕ) → slice_get xs i ≡ Some x → ⊥) → OnlyOnce (xs ++ x ∷ [])
once_more xs x once new i j y at_i at_j = cases (last_or_before xs x i y at_i) (last_or_before xs x j y at_j)
  where
    cases : (slice_get xs i ≡ Some y) ⊎ ((i ≡ length xs) × (x ≡ y)) → (slice_get xs j ≡ Some y) ⊎
        ((j ≡ length xs) × (x ≡ y)) → i ≡ j
    cases (inl a) (inl b) = once i j y a b
    cases (inl a) (inr b) = absurd (new i (a ∙ ap Some (sym b.1)))
    cases (inr a) (inl b) = absurd (new j (b ∙ ap Some (sym a.1)))
    cases (inr a) (inr b) = a.0 ∙ sym b.0

once_named : (names : List (List ℕ)) (name : List ℕ) → OnlyOnce names → OnlyOnce (with_name names name)
once_named names name once = by (place_of names name) refl
  where
    by : (o : Option ℕ) → place_of names name ≡ o → OnlyOnce (if is_some o then names else names ++ name ∷ [])
    by (Some k) is = once
    by None is = once_more names name once (λ i at. none (present names name i at))
      where
        none : (k : ℕ) × (place_of names name ≡ Some k) → ⊥
        none there = none-some _ (sym is ∙ there.1)

once_place : (names : List (List ℕ)) (p : PlaceTree) → OnlyOnce names → OnlyOnce (with_place names p)
once_place names (place.Var named) once = once_named names named.name once
once_place names (place.Any line) once = once
once_place names (place.Constant constant) once = once

once_places : (names : List (List ℕ)) (ps : List PlaceTree) → OnlyOnce names → OnlyOnce (fold with_place names ps)
once_places names [] once = once
once_places names (p ∷ ps) once = once_places (with_place names p) ps (once_place names p once)

once_part : (names : List (List ℕ)) (p : PartTree) → OnlyOnce names → OnlyOnce (with_part names p)
once_part names (part.Atom atom) once = once_places names atom.places once
once_part names (part.Test test) once = once

once_parts : (names : List (List ℕ)) (ps : List PartTree) → OnlyOnce names → OnlyOnce (fold with_part names ps)
once_parts names [] once = once
once_parts names (p ∷ ps) once = once_parts (with_part names p) ps (once_part names p once)

pub vars_once : (d : DisjunctTree) → OnlyOnce (vars_of d)
vars_once d = once_parts [] (all_parts d) (λ i j x at_i at_j. absurd (none i x at_i))
  where
    none : (i : ℕ) (x : List ℕ) → slice_get [] i ≡ Some x → ⊥
    none i x is = cc

-- ---- where variables stand

-- a variable of this name stands at a place of the atom
pub record StandsAt (places : List PlaceTree) (name : List ℕ) : Type 0 where
  pub at : ℕ
  pub named : Named
  pub is_place : slice_get places at ≡ Some (place.Var named)
  pub is_name : named.name ≡ name

-- it stands in an atom among the parts
pub record StandsAmong (parts : List PartTree) (name : List ℕ) : Type 0 where
  pub atom : AtomTree
  pub among : IsIn (part.Atom atom) parts
  pub stands : StandsAt atom.places name

further : (p : PlaceTree) (ps : List PlaceTree) (name : List ℕ) → StandsAt ps name → StandsAt (p ∷ ps) name
further p ps name s = record { at = suc s.at; named = s.named; is_place = s.is_place; is_name = s.is_name }

from_name : (names : List (List ℕ)) (name x : List ℕ) → IsIn x (with_name names name) → IsIn x names ⊎ (x ≡ name)
from_name names name x = by (place_of names name)
  where
    by : (o : Option ℕ) → IsIn x (if is_some o then names else names ++ name ∷ []) → IsIn x names ⊎ (x ≡ name)
    by (Some k) there = inl there
    by None there = in_push names name x there

from_place : (names : List (List ℕ)) (p : PlaceTree) (ps : List PlaceTree) (x : List ℕ) → IsIn x (with_place names p)
    → IsIn x names ⊎ StandsAt (p ∷ ps) x
from_place names (place.Var named) ps x there = elim (from_name names named.name x there) [
  | inl before ↦ inl before
  | inr is ↦ inr (record { at = 0; named = named; is_place = refl; is_name = sym is })
]
from_place names (place.Any line) ps x there = inl there
from_place names (place.Constant constant) ps x there = inl there

from_places : (names : List (List ℕ)) (ps : List PlaceTree) (x : List ℕ) → IsIn x (fold with_place names ps)
    → IsIn x names ⊎ StandsAt ps x
from_places names [] x there = inl there
from_places names (p ∷ ps) x there = elim (from_places (with_place names p) ps x there) [
  | inl before ↦ from_place names p ps x before
  | inr later ↦ inr (further p ps x later)
]

from_part : (names : List (List ℕ)) (p : PartTree) (ps : List PartTree) (x : List ℕ) → IsIn x (with_part names p)
    → IsIn x names ⊎ StandsAmong (p ∷ ps) x
from_part names (part.Atom atom) ps x there = elim (from_places names atom.places x there) [
  | inl before ↦ inl before
  | inr stands ↦ inr (record { atom = atom; among = inl refl; stands = stands })
]
from_part names (part.Test test) ps x there = inl there

from_parts : (names : List (List ℕ)) (ps : List PartTree) (x : List ℕ) → IsIn x (fold with_part names ps)
    → IsIn x names ⊎ StandsAmong ps x
from_parts names [] x there = inl there
from_parts names (p ∷ ps) x there = elim (from_parts (with_part names p) ps x there) [
  | inl before ↦ from_part names p ps x before
  | inr s ↦ inr (record { atom = s.atom; among = inr s.among; stands = s.stands })
]

-- a variable that has a number stands in an atom
pub var_stands : (d : DisjunctTree) (name : List ℕ) (v : ℕ) → slice_get (vars_of d) v ≡ Some name → StandsAmong (all_parts d) name
var_stands d name v at = elim (from_parts [] (all_parts d) name (in_from_get (vars_of d) v name at))
    [ inl none ↦ absurd none | inr stands ↦ stands ]

-- ---- names of a head

in_front : {A : Type 0} (xs ys : List A) (i : ℕ) (x : A) → slice_get xs i ≡ Some x → slice_get (xs ++ ys) i ≡ Some x
in_front [] ys i x at = absurd (cc)
in_front (z ∷ zs) ys zero x at = at
in_front (z ∷ zs) ys (suc i) x at = in_front zs ys i x at

at_last : {A : Type 0} (xs : List A) (x : A) → slice_get (xs ++ x ∷ []) (length xs) ≡ Some x
at_last [] x = refl
at_last (z ∷ zs) x = at_last zs x

has_place : (names : List (List ℕ)) (name : List ℕ) (k : ℕ) → slice_get names k ≡ Some name → is_some (place_of names name) ≡ true
has_place names name k at = ap is_some (present names name k at).1

-- a name stands among those with one more where it stood among them, or is the one
named_more : (names : List (List ℕ)) (name q : List ℕ) → is_some (place_of (with_name names name) q) ≡
    (is_some (place_of names q) || bytes_eq q name)
named_more names name q = by (place_of names name) refl (place_of names q) refl (bytes_eq q name) refl
  where
    by : (o : Option ℕ) → place_of names name ≡ o → (p : Option ℕ) → place_of names q ≡ p → (b : Bool) → bytes_eq q name ≡ b
        → is_some (place_of (if is_some o then names else names ++ name ∷ []) q) ≡ (is_some p || b)
    by (Some k) known (Some j) at b same = ap is_some at
    by (Some k) known None at true same = absurd (none-some _ (sym at ∙ ap (place_of names) (same_bytes q name same) ∙ known))
    by (Some k) known None at false same = ap is_some at
    by None known (Some j) at b same = has_place (names ++ name ∷ []) q j
        (in_front names (name ∷ []) j q (stands_at names q j at))
    by None known None at true same =
        has_place (names ++ name ∷ []) q (length names) (at_last names name ∙ ap Some (sym (same_bytes q name same)))
    by None known None at false same = nowhere (place_of (names ++ name ∷ []) q) refl
      where
        nowhere : (o : Option ℕ) → place_of (names ++ name ∷ []) q ≡ o → is_some o ≡ false
        nowhere None is = refl
        nowhere (Some j) is = elim (last_or_before names name j q (stands_at (names ++ name ∷ []) q j is)) [
          | inl before ↦ absurd (none-some _ (sym at ∙ (present names q j before).1))
          | inr last ↦ absurd (true≢false (sym (own_bytes q name (sym last.1)) ∙ same))
        ]

pub head_more : (names new : List (List ℕ)) (head : List Named) (i : ℕ) (named : Named) (name : List ℕ)
    → new ≡ with_name names named.name → i < length head
    → named ≡ get_or head i named
    → (is_some (place_of names name) || list_any (λ h. bytes_eq name h.name) (drop i head)) ≡ list_any
    (λ h. bytes_eq name h.name) head
    → (is_some (place_of new name) || list_any (λ h. bytes_eq name h.name) (drop (i + 1) head)) ≡ list_any
    (λ h. bytes_eq name h.name) head
head_more names new head i named name are lt item so =
    let test = λ (h : Named). bytes_eq name h.name in
    let rest = list_any test (drop (i + 1) head) in
    let step : list_any test (drop i head) ≡ (bytes_eq name named.name || rest) =
    at_drop_more (list_any test) head i named lt ∙ ap (λ (h : Named). bytes_eq name h.name || rest) (sym item) in
    ap (λ ns. is_some (place_of ns name) || rest) are ∙ ap (λ b. b || rest) (named_more names named.name name)
    ∙ nested (is_some (place_of names name)) (bytes_eq name named.name) rest ∙ ap (λ b. is_some (place_of names name)
    || b) (sym step) ∙ so
  where
    nested : (a b c : Bool) → ((a || b) || c) ≡ (a || (b || c))
    nested true b c = refl
    nested false b c = refl
