-- The first place in a list whose item passes a test.
use Rattle.std.proofs.Common.{◌≡◌, ◌∙◌, ◌==◌, ℕ, zero, suc, Bool, true, false, if◌then◌else◌, List, [], ◌∷◌, Some, slice_get, refl, sym, ap}
use Rattle.std.proofs.lemmas.Bool.{eqb-true, eqb-false, false≢true}
use Rattle.std.proofs.lemmas.Option.{same_Some, none-some}
use Rattle.currency_base.specs.declared.ids.EntId.{EntId}
use Rattle.part_laws.specs.Parts.{EntitiesAscend}
use Rattle.part_laws.proofs.Rows.{one_entity}

-- the length of the list where none does
abbrev pub first_place : {A : Type 0} → (A → Bool) → List A → ℕ
first_place test [] = 0
first_place test (x ∷ xs) = if test x then 0 else suc (first_place test xs)

-- what stands at a place, and passes
pub record IsFound (A : Type 0) (test : A → Bool) (xs : List A) (at : ℕ) : Type 0 where
  pub item : A
  pub is_item : slice_get xs at ≡ Some item
  pub passes : test item ≡ true

found_here : (A : Type 0) (test : A → Bool) (x : A) (xs : List A) (b : Bool) → test x ≡ b
    → (b ≡ false → IsFound A test xs (first_place test xs))
    → IsFound A test (x ∷ xs) (if b then 0 else suc (first_place test xs))
found_here A test x xs true passes later = record { item = x; is_item = refl; passes = passes }
found_here A test x xs false passes later =
    let found = later refl in
    record { item = found.item; is_item = found.is_item; passes = found.passes }

-- where some item passes, one stands there that does
pub found_first : (A : Type 0) (test : A → Bool) (xs : List A) (i : ℕ) (x : A) → slice_get xs i ≡ Some x → test x ≡ true
    → IsFound A test xs (first_place test xs)
found_first A test [] i x at passes = absurd (none-some x at)
found_first A test (y ∷ ys) zero x at passes =
    found_here A test y ys (test y) refl
    (λ e. absurd (false≢true (sym e ∙ (ap test (same_Some y x at) ∙ passes))))
found_first A test (y ∷ ys) (suc i) x at passes =
    found_here A test y ys (test y) refl (λ e. found_first A test ys i x at passes)

-- ---- entities

same_entity : (a b : EntId) → a.0 ≡ b.0 → a ≡ b
same_entity a b e = ap (λ (n : ℕ). let x : EntId = record { 0 = n } in x) e

-- the place of an entity among some
abbrev pub entity_place : List EntId → ℕ → ℕ
entity_place entities ent = first_place (λ (e : EntId). e.0 == ent) entities

pub same_test : (n : ℕ) → (n == n) ≡ true
same_test n = go (n == n) refl
  where
    go : (b : Bool) → (n == n) ≡ b → (n == n) ≡ true
    go true e = e
    go false e = absurd (eqb-false n n e refl)

-- where they ascend it has no other
pub entity_at : (entities : List EntId) (k : ℕ) (ent : EntId) → EntitiesAscend entities → slice_get entities k ≡ Some ent
    → entity_place entities ent.0 ≡ k
entity_at entities k ent ascend at =
    let test : EntId → Bool = λ e. e.0 == ent.0 in
    let found = found_first EntId test entities k ent at (same_test ent.0) in
    let one : found.item ≡ ent = same_entity found.item ent (eqb-true found.item.0 ent.0 found.passes) in
    one_entity entities (entity_place entities ent.0) k ent ascend (found.is_item ∙ ap Some one) at
