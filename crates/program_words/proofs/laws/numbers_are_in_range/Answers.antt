use Rattle.std.proofs.Common.{ℕ, ◌≤◌, Option}
use Rattle.std.specs.Prelude.{IfSome}
use Rattle.program_words.specs.Words.{AskFor, CertainTableFor, ConflictsIn, ExplainFor, GoldenIn, PossibleFor}
use Rattle.program_words.specs.Words.{PossibleTableFor, SessionOver, TrialOf}
use Rattle.program_words.proofs.Ranges.{AreInRange, said_in_range}
use Rattle.program_words.proofs.laws.numbers_are_in_range.Goals as goal

-- the numbers of a search
both : (b : ℕ) (g : Option ℕ) → AreInRange b g → (1 ≤ b) × (b ≤ 10000000) × IfSome g (λ k. (1 ≤ k) × (k ≤ 4))
both b g h = (h.budget.0, h.budget.1, h.guide)

pub returns : goal.returns
returns c = record {
  budget = λ words a is. (said_in_range words (AskFor a) is).budget;
  guide = λ words a is. (said_in_range words (AskFor a) is).guide;
  size = λ words n is. said_in_range words (TrialOf n) is;
  unit = λ words e is. (said_in_range words (ExplainFor e) is).unit;
  explain_budget = λ words e is. (said_in_range words (ExplainFor e) is).search.budget;
  explain_guide = λ words e is. (said_in_range words (ExplainFor e) is).search.guide;
  conflicts_budget = λ words c is. (said_in_range words (ConflictsIn c) is).budget;
  conflicts_guide = λ words c is. (said_in_range words (ConflictsIn c) is).guide;
  golden_budget = λ words g is. (said_in_range words (GoldenIn g) is).budget;
  golden_guide = λ words g is. (said_in_range words (GoldenIn g) is).guide;
  possible_budget = λ words p is. (said_in_range words (PossibleFor p) is).budget;
  possible_guide = λ words p is. (said_in_range words (PossibleFor p) is).guide;
  certain_table = λ words t is. both t.budget t.guide (said_in_range words (CertainTableFor t) is);
  possible_table = λ words t is. both t.budget t.guide (said_in_range words (PossibleTableFor t) is);
  session = λ words s is. both s.budget s.guide (said_in_range words (SessionOver s) is);
}
