-- The place among rising starts of the one that a variable lies behind.
use Rattle.std.proofs.Common.{◌≡◌, ◌⊎◌, inl, inr, ◌-◌, ◌<◌, ◌≤◌, ℕ, List, length, true, false, nat_le, get_or, arith}
use Rattle.std.specs.List.Sorted.{IsPartitionedBy, IsPartitionPoint}
use Rattle.std.proofs.lemmas.Bool.{cases_lt, leb-true, leb-false, le-leb}
use Rattle.std.proofs.lemmas.List.{get_or_default}
use Rattle.order_literals.specs.Layout.{AreAround}

-- the variable lies behind this start and before the next
pub record LiesAt (starts : List ℕ) (var place : ℕ) : Type 0 where
  pub some : 1 ≤ place
  pub within : place < length starts
  pub from : get_or starts (place - 1) 0 ≤ var
  pub to : var < get_or starts place 0

-- the starts up to it come first
pub starts_split : (starts : List ℕ) (var : ℕ) → AreAround starts var → IsPartitionedBy (λ start. nat_le start var) starts
starts_split starts var around i j d order within passes =
    let least = around.rise i j order within in
    let one = get_or_default starts i d 0 (omega arith) in
    let other = get_or_default starts j d 0 within in
    le-leb (get_or starts i d) var (omega (arith, leb-true (get_or starts j d) var passes))

-- and the variable lies before the next
pub lies_at : (starts : List ℕ) (var i : ℕ) → AreAround starts var → i ≤ length starts
    → IsPartitionPoint (λ (start : ℕ). nat_le start var ≡ true) (λ (start : ℕ). nat_le start var ≡ false) starts i
    → LiesAt starts var i
lies_at starts var i around bound point = by (cases_lt 0 i) (cases_lt i (length starts))
  where
    by : (0 < i) ⊎ (i ≤ 0) → (i < length starts) ⊎ (length starts ≤ i) → LiesAt starts var i
    by (inl some) (inl within) = record {
      some = omega arith;
      within = within;
      from = leb-true (get_or starts (i - 1) 0) var (point.0 (i - 1) 0 (omega arith) (omega arith));
      to = leb-false (get_or starts i 0) var (point.1 i 0 (omega arith) within);
    }
    by (inl some) (inr past) =
        let fails = leb-true (get_or starts (length starts - 1) 0) var (point.0 (length starts - 1) 0 (omega arith)
        (omega arith)) in
        absurd (omega (arith, around.last))
    by (inr none) other =
        let least : i ≡ 0 = omega arith in
        let fails = leb-false (get_or starts 0 0) var (point.1 0 0 (omega arith) around.some) in
        absurd (omega (arith, around.first))
