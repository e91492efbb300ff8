-- Numbers that are told as far as 32 bits hold them.
use Rattle.std.proofs.Common.{◌≡◌, ◌<◌, ◌≤◌, ◌-◌, ◌*◌, ◌/◌, ◌^◌, ◌∙◌, ℕ, min, zero, suc, Option, sym, ap, arith, inl, inr}
use Rattle.std.proofs.lemmas.Bool.{cases_lt}
use Rattle.std.proofs.Math.Nat.{mul_comm, mul-le-mul_left}
use Rattle.spec_limits.specs.Instances.{two_for_each_three}
use Rattle.spec_limits.specs.Left.{left_of, IsCapped}
use Rattle.spec_limits.proofs.Leaving.{left_none}

-- of a number of 32 bits as much is left
pub capped_left : (left n capped : ℕ) → left < 2 ^ 32 → IsCapped n capped → left_of left capped ≡ left_of left n
capped_left left n capped few (inl same) = ap (left_of left) same
capped_left left n capped few (inr above) = left_none left capped (omega (arith, above.1))
    ∙ sym (left_none left n (omega (arith, above.0)))

-- what 64 bits hold of a number
pub saturated : (n capped : ℕ) → capped ≡ min n (2 ^ 64 - 1) → IsCapped n capped
saturated n capped is = elim (cases_lt n (2 ^ 64)) [
  | inl lt ↦ inl (omega arith)
  | inr ge ↦ inr (omega arith, omega arith)
]

-- a product with what 64 bits hold of a number
min_mul : (n k : ℕ) → 0 < k → min (min n (2 ^ 64 - 1) * k) (2 ^ 64 - 1) ≡ min (n * k) (2 ^ 64 - 1)
min_mul n k some = elim (cases_lt n (2 ^ 64)) [
  | inl lt ↦ (let same : min n (2 ^ 64 - 1) ≡ n = omega arith in ap (λ m. min (m * k) (2 ^ 64 - 1)) same)
  | inr ge ↦
      (let most : min n (2 ^ 64 - 1) ≡ 2 ^ 64 - 1 = omega arith in
      let large : n * 1 ≤ n * k = mul-le-mul_left n some in
      let left : (2 ^ 64 - 1) * 1 ≤ (2 ^ 64 - 1) * k = mul-le-mul_left (2 ^ 64 - 1) some in
      let capped : min (n * k) (2 ^ 64 - 1) ≡ 2 ^ 64 - 1 = omega arith in
      let capped' : min ((2 ^ 64 - 1) * k) (2 ^ 64 - 1) ≡ 2 ^ 64 - 1 = omega arith in
      ap (λ m. min (m * k) (2 ^ 64 - 1)) most ∙ capped' ∙ sym capped)
]

third : (n capped : ℕ) → capped ≡ min n (2 ^ 64 - 1) → IsCapped (n / 3) (capped / 3)
third n capped is = elim (cases_lt n (2 ^ 64)) [
  | inl lt ↦ inl (let same : capped ≡ n = omega arith in ap (λ m. m / 3) same)
  | inr ge ↦ inr (omega arith, omega arith)
]

-- two for each three rows
pub three_capped : (rows pairs threes : ℕ) → pairs ≡ min (rows * (rows - 1)) (2 ^ 64 - 1) → threes ≡ min
    (pairs * (rows - 2)) (2 ^ 64 - 1)
    → IsCapped (two_for_each_three rows) (threes / 3)
unfolding two_for_each_three
three_capped rows pairs threes are many = elim (cases_lt 2 rows) [
  | inl lt ↦
      (let some : 0 < rows - 2 = omega arith in
      third (rows * (rows - 1) * (rows - 2)) threes
      (many ∙ ap (λ p. min (p * (rows - 2)) (2 ^ 64 - 1)) are ∙ min_mul (rows * (rows - 1)) (rows - 2) some))
  | inr le ↦
      (let none : rows - 2 ≡ 0 = omega arith in
      let nothing : rows * (rows - 1) * (rows - 2) ≡ 0 = ap (λ k. rows * (rows - 1) * k) none ∙ omega arith in
      let nothing' : threes ≡ 0 = many ∙ ap (λ k. min (pairs * k) (2 ^ 64 - 1)) none ∙ omega arith in
      inl (ap (λ n. n / 3) (nothing' ∙ sym nothing)))
]

-- a multiple
pub multiple : (n capped k result : ℕ) → IsCapped n capped → result ≡ min (capped * k) (2 ^ 64 - 1) → IsCapped (k * n) result
multiple n capped k result (inl same) is = saturated (k * n) result
    (is ∙ ap (λ m. min m (2 ^ 64 - 1)) (ap (λ m. m * k) same ∙ mul_comm n k))
multiple n capped zero result (inr above) is = inl (is ∙ omega arith)
multiple n capped (suc k) result (inr above) is =
    let some : 1 ≤ suc k = omega arith in
    let large : n * 1 ≤ n * suc k = mul-le-mul_left n some in
    let large' : capped * 1 ≤ capped * suc k = mul-le-mul_left capped some in
    let turned : suc k * n ≡ n * suc k = mul_comm (suc k) n in
    inr (omega (arith, above.0), omega (arith, above.1))

-- what is left after the number that is told is left after the number
pub left_after_capped : (left n capped : ℕ) (rest : Option ℕ) → left < 2 ^ 32 → IsCapped n capped
    → rest ≡ left_of left capped → rest ≡ left_of left n
left_after_capped left n capped rest few is left' = left' ∙ capped_left left n capped few is
