-- Lists of a length over a pool: whether one of them has a decided property is decided.
use Rattle.std.proofs.Common.{◌≡◌, ℕ, zero, suc, List, [], ◌∷◌, All, Contains, length, refl, ap, subst, arith}
use Rattle.std.proofs.lemmas.List.{nil_from_length}
use Rattle.std.proofs.lemmas.List.Elements.{All-nil, All-cons, All-head, All-tail}
use Rattle.answer_laws.proofs.Decisions.{Decided, HasOne, decided_as, one_or}

-- it holds of a list of so many items, each of the pool
pub record IsDrawn {A : Type 0} (pool : List A) (n : ℕ) (P : List A → Type 0) : Type 0 where
  pub items : List A
  pub as_many : length items ≡ n
  pub of_pool : All (Contains pool) items
  pub holds : P items

-- there is a first item, and then others
abbrev BeginsDrawn : {A : Type 0} → List A → ℕ → (List A → Type 0) → Type 0
BeginsDrawn pool n P = HasOne (λ x. IsDrawn pool n (λ xs. P (x ∷ xs))) pool

begun : {A : Type 0} (pool : List A) (n : ℕ) (P : List A → Type 0) (items : List A) → length items ≡ suc n
    → All (Contains pool) items → P items → BeginsDrawn pool n P
begun pool n P [] many of holds = absurd (omega (arith, many))
begun pool n P (x ∷ items) many of holds =
    record {
      one = x;
      is_there = All-head (Contains pool) x items of;
      holds =
          record { items = items; as_many = omega (arith, many); of_pool = All-tail (Contains pool) x items of; holds = holds };
    }

gone_on : {A : Type 0} (pool : List A) (n : ℕ) (P : List A → Type 0) → BeginsDrawn pool n P → IsDrawn pool (suc n) P
gone_on pool n P has =
    record {
      items = has.one ∷ has.holds.items;
      as_many = ap (λ k. suc k) has.holds.as_many;
      of_pool = All-cons (Contains pool) has.one has.holds.items has.is_there has.holds.of_pool;
      holds = has.holds.holds;
    }

pub drawn_or : {A : Type 0} (pool : List A) (n : ℕ) (P : List A → Type 0) → ((xs : List A) → Decided (P xs))
    → Decided (IsDrawn pool n P)
drawn_or pool zero P each =
    decided_as (λ holds. record { items = []; as_many = refl; of_pool = All-nil (Contains pool); holds = holds })
    (λ (d : IsDrawn pool zero P). subst P (nil_from_length d.items d.as_many) d.holds) (each [])
drawn_or pool (suc n) P each =
    decided_as (gone_on pool n P) (λ (d : IsDrawn pool (suc n) P). begun pool n P d.items d.as_many d.of_pool d.holds)
    (one_or (λ x. IsDrawn pool n (λ xs. P (x ∷ xs))) pool (λ x is. drawn_or pool n (λ xs. P (x ∷ xs)) (λ xs. each (x ∷ xs))))
