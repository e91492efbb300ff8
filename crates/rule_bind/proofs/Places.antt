-- Names that are found in a list, and names that are not.
use Rattle.std.proofs.Common.{◌≡◌, ◌∙◌, ◌<◌, ◌≤◌, ◌⊎◌, ◌++◌, ◌∷◌, [], ℕ, Bool, true, false, List, length, get_or, Option, Some, None, Contains, slice_get, inl, inr, refl, sym, arith}
use Rattle.std.proofs.lemmas.Bool.{cases_lt, lt-ltb, cond-true, true≢false}
use Rattle.std.proofs.lemmas.List.Quantifiers.{position-Some}
use Rattle.std.proofs.lemmas.List.Sums.{fails_before_first}
use Rattle.std.proofs.lemmas.Option.{get_or_from_slice_get, slice_get_within, none-some}
use Rattle.std.proofs.lemmas.Slice.Eq.{bytes_eq-Decides}
use Rattle.std.specs.List.{position, position_or_len}
use Rattle.std.specs.Str.{bytes_eq}
use Rattle.text_grammar.specs.declared.named.Named.{Named}
use Rattle.bind_faults.specs.Faults.{refused_at}
use Rattle.currency_base.specs.declared.error_code.ErrorCode.TheVariants.{DuplicateName}
use Rattle.spec_names.specs.Names.{place_of}
use Rattle.rule_bind.specs.Ruled.{taken, with_name}

position_none : {X : Type 0} (p : X → Bool) (xs : List X) → position p xs ≡ None → (k : ℕ) (d : X) → k < length xs
    → p (get_or xs k d) ≡ false
position_none p xs none k d lt = fails_before_first p xs k d (past (cases_lt (position_or_len p xs) (length xs)))
  where
    past : (position_or_len p xs < length xs) ⊎ (length xs ≤ position_or_len p xs) → k < position_or_len p xs
    past (inl below) = absurd (none-some _ (sym none ∙ cond-true _ _ _ (lt-ltb _ _ below)))
    past (inr above) = omega arith

-- a name that is not in the list has no place
pub absent : (names : List (List ℕ)) (name : List ℕ) → (Contains names name → ⊥) → place_of names name ≡ None
absent names name missing = by_cases (place_of names name) refl
  where
    by_cases : (o : Option ℕ) → place_of names name ≡ o → o ≡ None
    by_cases None is = refl
    by_cases (Some k) is =
        let found = position-Some (bytes_eq name) names k name is in
        absurd (missing (k, found.0, sym ((bytes_eq-Decides name (get_or names k name)).0 found.1)))

-- a name that stands somewhere has a place
pub present : (names : List (List ℕ)) (name : List ℕ) (place : ℕ) → slice_get names place ≡ Some name
    → (k : ℕ) × (place_of names name ≡ Some k)
present names name place at = by_cases (place_of names name) refl
  where
    by_cases : (o : Option ℕ) → place_of names name ≡ o → (k : ℕ) × (place_of names name ≡ Some k)
    by_cases (Some k) is = (k, is)
    by_cases None is =
        let fails = position_none (bytes_eq name) names is place name (slice_get_within names place name at) in
        let passes : bytes_eq name (get_or names place name) ≡ true =
        (bytes_eq-Decides name (get_or names place name)).1 (sym (get_or_from_slice_get names place name name at)) in
        absurd (true≢false (sym passes ∙ fails))

-- a name that has no place is not in the list
pub missing : (names : List (List ℕ)) (name : List ℕ) → place_of names name ≡ None → Contains names name → ⊥
missing names name none (i, within, at) =
    let fails = position_none (bytes_eq name) names none i name within in
    let passes : bytes_eq name (get_or names i name) ≡ true = (bytes_eq-Decides name (get_or names i name)).1 (sym at) in
    true≢false (sym passes ∙ fails)

-- a new name is not taken, and is added
pub free : (names : List (List ℕ)) (named : Named) → (Contains names named.name → ⊥) → taken names named ≡ None
free names named missing = rw (absent names named.name missing) refl

pub with_new : (names : List (List ℕ)) (name : List ℕ) → (Contains names name → ⊥) → with_name names name ≡ names ++ name ∷ []
with_new names name missing = rw (absent names name missing) refl

-- a known name is taken, and the names stay
pub known : (names : List (List ℕ)) (named : Named) (place : ℕ) → slice_get names place ≡ Some named.name
    → taken names named ≡ Some (refused_at DuplicateName named)
known names named place at = rw ((present names named.name place at).1) refl

pub with_known : (names : List (List ℕ)) (name : List ℕ) (place : ℕ) → slice_get names place ≡ Some name
    → with_name names name ≡ names
with_known names name place at = rw ((present names name place at).1) refl
