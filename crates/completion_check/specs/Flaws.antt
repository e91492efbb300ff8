-- What each part of a check finds first, by the places of rows.
use Rattle.std.specs.Prelude.{◌≡◌, ◌<◌, ℕ, List, [], Some, slice_get, slice_index_or}
use Rattle.currency_base.specs.declared.pair.Pair.{Pair}
use Rattle.copy_functions.specs.Copies.{CopyFunction}
use Rattle.denial_rules.specs.declared.rule.Rule.{Rule}
use Rattle.spec_model.specs.Completion.{Rankings}
use Rattle.spec_model.specs.FirstFlaw.{IsFirstUnranked}
use Rattle.spec_model.specs.declared.flaw.Flaw.{Flaw}
use Rattle.spec_model.specs.declared.flaw.Flaw.TheVariants.{NotARanking, GivenBroken, RuleBroken, CopyBroken}
use Rattle.spec_model.specs.declared.relation.Relation.{Relation}
use Rattle.completion_check.specs.Relations.{AreAllMarked, AreInOrder, IsFirstOutOfOrder}
use Rattle.completion_check.specs.Tests.{Places}
use Rattle.completion_check.specs.Breaks.{IsFirstRuleBreak}
use Rattle.completion_check.specs.CopyBreaks.{IsFirstCopyBreak}

-- the rows of each relation have their places
abbrev pub AreMarkedIn : List Relation → Rankings → List Places → Type 0
AreMarkedIn relations c places = (rel : ℕ) (r : Relation) → slice_get relations rel ≡ Some r
    → AreAllMarked r (slice_index_or c rel []) (slice_index_or places rel [])

-- the flaw is the first list that is no ranking
abbrev pub IsUnrankedFlaw : List Relation → Rankings → Flaw → Type 0
IsUnrankedFlaw relations c (NotARanking rel attr ent) = IsFirstUnranked relations c rel.0 attr.0 ent.0
IsUnrankedFlaw relations c flaw = ⊥

-- the given pairs of each relation are in order
abbrev pub AreAllInOrder : List Relation → List Places → Type 0
AreAllInOrder relations places = (rel : ℕ) (r : Relation) → slice_get relations rel ≡ Some r → AreInOrder
    (slice_index_or places rel []) r.given

-- the first given pair of a relation that is not in order, no earlier relation having one
pub record IsFirstPairOut (relations : List Relation) (places : List Places) (rel : ℕ) (pair : Pair) : Type 0 where
  pub relation : Relation
  pub is_relation : slice_get relations rel ≡ Some relation
  pub first : IsFirstOutOfOrder (slice_index_or places rel []) relation.given pair
  pub earlier : (other : ℕ) (r : Relation) → other < rel → slice_get relations other ≡ Some r → AreInOrder
      (slice_index_or places other []) r.given

-- the flaw is the first given pair that is not in order
abbrev pub IsPairFlaw : List Relation → List Places → Flaw → Type 0
IsPairFlaw relations places (GivenBroken rel pair) = IsFirstPairOut relations places rel.0 pair
IsPairFlaw relations places flaw = ⊥

-- the flaw is the first choice of rows that breaks a rule
abbrev pub IsRuleFlaw : List Relation → List Rule → List Places → Flaw → Type 0
IsRuleFlaw relations rules places (RuleBroken rule rows) = IsFirstRuleBreak relations rules places rule.0 rows
IsRuleFlaw relations rules places flaw = ⊥

-- the flaw is the first two rows that break a copy function
abbrev pub IsCopyFlaw : List Relation → List CopyFunction → List Places → Flaw → Type 0
IsCopyFlaw relations copies places (CopyBroken copy place first second) = IsFirstCopyBreak relations copies places
    copy.0 place first second
IsCopyFlaw relations copies places flaw = ⊥
