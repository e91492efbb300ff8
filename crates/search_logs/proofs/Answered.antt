-- The answers that ascending statements name, each once and in order.
use Rattle.std.proofs.Common.{◌≡◌, ◌<◌, ◌≤◌, ◌+◌, ℕ, List, [], ◌∷◌, length, refl, inl, inr, ⊎_elim, arith}
use Rattle.currency_base.specs.declared.ids.AttrId.{AttrId}
use Rattle.currency_base.specs.declared.ids.RelId.{RelId}
use Rattle.currency_base.specs.declared.ids.RowId.{RowId}
use Rattle.currency_base.specs.declared.value.Value.{Value}
use Rattle.refutation_log.specs.declared.statement.Statement.{Statement}
use Rattle.refutation_log.specs.declared.statement.Statement.TheVariants.{Before, Top, Last, Answer}
use Rattle.refutation_log.specs.Writable.{AreAnswered}
use Rattle.order_literals.proofs.Ascents.{Ascends}
use Rattle.order_literals.proofs.Items.{IsIn}
use Rattle.order_literals.proofs.Order.{IsBelow}

pub answer_less : (a b : ℕ) → IsBelow (Answer a) (Answer b) → a < b
answer_less a b (inl low) = absurd (omega (arith, low))
answer_less a b (inr (e, inl below)) = below
answer_less a b (inr (e, inr more)) = absurd more.1

answer_same : (a b : ℕ) → Answer a ≡ Answer b → a ≡ b
answer_same a b e = cc

before_not : (rel : RelId) (attr : AttrId) (a b : RowId) (tuple : ℕ) → Before rel attr a b ≡ Answer tuple → ⊥
before_not rel attr a b tuple e = cc

top_not : (rel : RelId) (attr : AttrId) (row : RowId) (tuple : ℕ) → Top rel attr row ≡ Answer tuple → ⊥
top_not rel attr row tuple e = cc

last_not : (rel : RelId) (attr : AttrId) (row : RowId) (tuple : ℕ) → Last rel attr row ≡ Answer tuple → ⊥
last_not rel attr row tuple e = cc

-- ascending statements that name just the answers from a place on name them in order
pub answered : (n : ℕ) (statements : List Statement) (answers : List (List Value)) → Ascends IsBelow statements
    → ((tuple : ℕ) → IsIn statements (Answer tuple) → (n ≤ tuple) × (tuple < n + length answers))
    → ((tuple : ℕ) → n ≤ tuple → tuple < n + length answers → IsIn statements (Answer tuple)) → AreAnswered n statements answers
answered n [] [] up only all = refl
answered n [] (values ∷ answers) up only all = absurd (all n (omega arith) (omega arith))
answered n (Before rel attr a b ∷ statements) answers up only all =
    answered n statements answers up.1 (λ tuple at. only tuple (inr at))
    (λ tuple low high. ⊎_elim
    (λ (e : Before rel attr a b ≡ Answer tuple). absurd (before_not rel attr a b tuple e))
    (λ (there : IsIn statements (Answer tuple)). there)
    (all tuple low high))
answered n (Top rel attr row ∷ statements) answers up only all =
    answered n statements answers up.1 (λ tuple at. only tuple (inr at))
    (λ tuple low high. ⊎_elim
    (λ (e : Top rel attr row ≡ Answer tuple). absurd (top_not rel attr row tuple e))
    (λ (there : IsIn statements (Answer tuple)). there)
    (all tuple low high))
answered n (Last rel attr row ∷ statements) answers up only all =
    answered n statements answers up.1 (λ tuple at. only tuple (inr at))
    (λ tuple low high. ⊎_elim
    (λ (e : Last rel attr row ≡ Answer tuple). absurd (last_not rel attr row tuple e))
    (λ (there : IsIn statements (Answer tuple)). there)
    (all tuple low high))
answered n (Answer first ∷ statements) [] up only all =
    let both = only first (inl refl) in
    let low = both.0 in
    let high = both.1 in
    absurd (omega (arith, low, high))
answered n (Answer first ∷ statements) (values ∷ answers) up only all =
    let low = (only first (inl refl)).0 in
    let is : first ≡ n = ⊎_elim
    (λ (e : Answer first ≡ Answer n). answer_same first n e)
    (λ (there : IsIn statements (Answer n)). let less = answer_less first n (up.0 (Answer n) there) in absurd
    (omega (arith, less, low)))
    (all n (omega arith) (omega arith)) in (
      is,
      answered (n + 1) statements answers up.1
          (λ tuple at.
          let less = answer_less first tuple (up.0 (Answer tuple) at) in
          let high = (only tuple (inr at)).1 in
          (omega (arith, less, is), omega (arith, high)))
          (λ tuple from below. ⊎_elim
          (λ (e : Answer first ≡ Answer tuple). let same = answer_same first tuple e in absurd (omega (arith, same, is, from)))
          (λ (there : IsIn statements (Answer tuple)). there)
          (all tuple (omega (arith, from)) (omega (arith, below)))),
    )
