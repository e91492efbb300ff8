-- Tuples each of which is below the next.
use Rattle.std.proofs.Common.{◌≡◌, ◌+◌, ◌-◌, ◌<◌, ◌≤◌, ℕ, zero, suc, List, Some, slice_get, ap, sym, subst, ◌∙◌, ⊎_elim, arith}
use Rattle.std.specs.Cmp.{IsTotalOrder}
use Rattle.std.specs.Cmp.Lexicographic.{slice_cmp}
use Rattle.std.proofs.lemmas.Bool.{cases_lt}
use Rattle.std.proofs.lemmas.Option.{same_Some, slice_get_within}
use Rattle.currency_base.specs.Values.{value_cmp}
use Rattle.currency_base.specs.declared.value.Value.{Value}
use Rattle.query_model.specs.Answers.{AreAscending, IsBelow}
use Rattle.report_verify.proofs.Fronts.{item_at}

-- each of the first tuples is below the next
abbrev pub Rise : List (List Value) → ℕ → Type 0
Rise xs n = (k : ℕ) (a b : List Value) → k + 1 < n → slice_get xs k ≡ Some a → slice_get xs (k + 1) ≡ Some b → IsBelow a b

pub rise_more : (xs : List (List Value)) (n : ℕ) (a b : List Value) → 1 ≤ n → slice_get xs (n - 1) ≡ Some a
    → slice_get xs n ≡ Some b
    → IsBelow a b → Rise xs n → Rise xs (n + 1)
rise_more xs n a b some at at' below rise k x y early here next =
    ⊎_elim
    (λ (before : k + 1 < n). rise k x y before here next)
    (λ (last : n ≤ k + 1).
    let one : k ≡ n - 1 = omega (arith, last, early) in
    let two : k + 1 ≡ n = omega (arith, last, early) in
    let first : x ≡ a = same_Some x a (sym here ∙ (ap (slice_get xs) one ∙ at)) in
    let second : y ≡ b = same_Some y b (sym next ∙ (ap (slice_get xs) two ∙ at')) in
    subst (λ z. IsBelow z y) (sym first) (subst (IsBelow a) (sym second) below))
    (cases_lt (k + 1) n)

-- where each is below the next, each is below all after it
pub risen : IsTotalOrder (slice_cmp value_cmp) → (xs : List (List Value)) (n : ℕ) →
    ((i : ℕ) (x : List Value) → slice_get xs i ≡ Some x → i < n)
    → Rise xs n → AreAscending xs
risen total xs n all rise i j a b below at at' = go j b below at'
  where
    go : (j : ℕ) (b : List Value) → i < j → slice_get xs j ≡ Some b → IsBelow a b
    go zero b below at' = absurd (omega (arith, below))
    go (suc m) b below at' =
        let next : m + 1 ≡ suc m = omega arith in
        let there : slice_get xs (m + 1) ≡ Some b = ap (slice_get xs) next ∙ at' in
        let within = slice_get_within xs (suc m) b at' in
        let x = item_at xs m (omega (arith, within)) in
        ⊎_elim
        (λ (before : i < m). total.trans a x.0 b (go m x.0 before x.1) (rise m x.0 b (all (m + 1) b there) x.1 there))
        (λ (past : m ≤ i).
        let same : m ≡ i = omega (arith, past, below) in
        rise m a b (all (m + 1) b there) (ap (slice_get xs) same ∙ at) there)
        (cases_lt i m)
