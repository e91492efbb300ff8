-- The numbers of a command are in their ranges.
use Rattle.std.proofs.Common.{◌≡◌, ◌≤◌, ℕ, List, Option, Some}
use Rattle.std.specs.Prelude.{IfSome}
use Rattle.program_words.specs.Words.{AskFor, AskSaid, CertainTableFor, CommandSaid, ConflictsIn, ConflictsSaid, ExplainFor}
use Rattle.program_words.specs.Words.{ExplainSaid, ForcedOf, GoldenIn, GoldenSaid, PossibleFor, PossibleSaid, PossibleTableFor}
use Rattle.program_words.specs.Words.{SessionOver, SessionSaid, TableSaid, TrialOf, VerifyOf, command_of}
use Rattle.currency_cli.specs.Words.{IsInRange}

module _ (budgets : (words : List (List ℕ)) (a : AskSaid) → command_of words ≡ Some (AskFor a) → (1 ≤ a.budget) ×
    (a.budget ≤ 10000000))
    (sizes : (words : List (List ℕ)) (n : ℕ) → command_of words ≡ Some (TrialOf n) → (1 ≤ n) × (n ≤ 1000))
    (units : (words : List (List ℕ)) (e : ExplainSaid) → command_of words ≡ Some (ExplainFor e) → (1 ≤ e.unit) ×
    (e.unit ≤ 4294967295))
    (explain_budgets : (words : List (List ℕ)) (e : ExplainSaid) → command_of words ≡ Some (ExplainFor e) → (1 ≤ e.budget) ×
    (e.budget ≤ 10000000))
    (conflict_budgets : (words : List (List ℕ)) (c : ConflictsSaid) → command_of words ≡ Some (ConflictsIn c) → (1 ≤ c.budget) ×
    (c.budget ≤ 10000000))
    (golden_budgets : (words : List (List ℕ)) (g : GoldenSaid) → command_of words ≡ Some (GoldenIn g) → (1 ≤ g.budget) ×
    (g.budget ≤ 10000000))
    (possible_budgets : (words : List (List ℕ)) (p : PossibleSaid) → command_of words ≡ Some (PossibleFor p) → (1 ≤ p.budget) ×
    (p.budget ≤ 10000000))
    (certain_tables : (words : List (List ℕ)) (t : TableSaid) → command_of words ≡ Some (CertainTableFor t) →
    (1 ≤ t.budget) × (t.budget ≤ 10000000) × IfSome t.guide (λ k. (1 ≤ k) × (k ≤ 4)))
    (possible_tables : (words : List (List ℕ)) (t : TableSaid) → command_of words ≡ Some (PossibleTableFor t) →
    (1 ≤ t.budget) × (t.budget ≤ 10000000) × IfSome t.guide (λ k. (1 ≤ k) × (k ≤ 4)))
    (sessions : (words : List (List ℕ)) (a : SessionSaid) → command_of words ≡ Some (SessionOver a) →
    (1 ≤ a.budget) × (a.budget ≤ 10000000) × IfSome a.guide (λ k. (1 ≤ k) × (k ≤ 4))) where
  pub in_range : (words : List (List ℕ)) (c : CommandSaid) → command_of words ≡ Some c → IsInRange c
  in_range words (AskFor a) said = (budgets words a said).1
  in_range words (VerifyOf v) said = tt
  in_range words (ForcedOf name) said = tt
  in_range words (TrialOf n) said = sizes words n said
  in_range words (ExplainFor e) said = ((units words e said).0, (explain_budgets words e said).1)
  in_range words (ConflictsIn c) said = (conflict_budgets words c said).1
  in_range words (GoldenIn g) said = (golden_budgets words g said).1
  in_range words (PossibleFor p) said = (possible_budgets words p said).1
  in_range words (CertainTableFor t) said = (certain_tables words t said).1
  in_range words (PossibleTableFor t) said = (possible_tables words t said).1
  in_range words (SessionOver a) said = (sessions words a said).1
