-- Questions of a part, and which questions of the whole they are.
use Rattle.std.specs.Prelude.{◌≡◌, ℕ, List, Some, length, slice_get}
use Rattle.part_laws.specs.Parts.{Places, IsPairPart, rows_in}
use Rattle.spec_model.specs.declared.question.Asked.{Asked}
use Rattle.spec_model.specs.declared.question.Question.{Question}
use Rattle.spec_model.specs.declared.question.Question.TheVariants as asked

-- a pair that is asked of a part, and the pair of the whole that it is
pub record IsAskedPart (n : Places) (new old : Asked) : Type 0 where
  pub rel : new.rel ≡ old.rel
  pub pair : IsPairPart (rows_in n old.rel.0) new.pair old.pair

-- so many pairs, each of which is one of the whole
pub record AreAskedParts (n : Places) (new old : List Asked) : Type 0 where
  pub as_many : length new ≡ length old
  pub each : (k : ℕ) (p old_p : Asked) → slice_get new k ≡ Some p → slice_get old k ≡ Some old_p → IsAskedPart n p old_p

-- a question of a part for a fact, and the question of the whole that it is
abbrev pub IsPartQuestion : Places → Question → Question → Type 0
IsPartQuestion n asked.Consistent asked.Consistent = Unit {0}
IsPartQuestion n (asked.Certain new) (asked.Certain old) = AreAskedParts n new old
IsPartQuestion n (asked.Answers new) (asked.Answers old) = new ≡ old
IsPartQuestion n new old = ⊥
