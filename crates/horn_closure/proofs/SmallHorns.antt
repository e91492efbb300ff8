-- Small cases, for tests.
use Rattle.std.proofs.Common.{◌<◌, ◌^◌, ℕ, List, [], ◌∷◌, All, refl, arith}
use Rattle.std.proofs.lemmas.List.Elements.{All-cons, All-nil}
use Rattle.horn_closure.specs.Least.{IsHorn, cells_of}
use Rattle.horn_closure.specs.Steps.{horn}

pub one_below : (n a : ℕ) → a < n → All (λ slot. slot < n) (a ∷ [])
one_below n a less = All-cons (λ slot. slot < n) a [] less (All-nil (λ slot. slot < n))

pub two_below : (n a b : ℕ) → a < n → b < n → All (λ slot. slot < n) (a ∷ b ∷ [])
two_below n a b less also = All-cons (λ slot. slot < n) a (b ∷ []) less (one_below n b also)

-- two clauses over the cells of squares
pub small_horn : (sizes facts first second : List ℕ) (a b : ℕ) → cells_of sizes < 2 ^ 32
    → All (λ slot. slot < cells_of sizes) facts
    → All (λ slot. slot < cells_of sizes) first → All (λ slot. slot < cells_of sizes) second → a < cells_of sizes
    → b < cells_of sizes
    → IsHorn (horn sizes facts (first ∷ second ∷ []) (a ∷ b ∷ []))
small_horn sizes facts first second a b few facts_in first_in second_in a_in b_in =
    let below : List ℕ → Type 0 = All (λ slot. slot < cells_of sizes) in
    record {
      facts = facts_in;
      premises = All-cons below first (second ∷ []) first_in (All-cons below second [] second_in (All-nil below));
      conclusions = two_below (cells_of sizes) a b a_in b_in;
      one_each = refl;
      few_cells = few;
      few_clauses = omega arith;
    }
