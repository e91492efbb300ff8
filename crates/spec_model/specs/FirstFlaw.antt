-- What a completion that is not consistent fails first.
use Rattle.std.specs.Prelude.{◌≡◌, ◌⊎◌, ◌<◌, ℕ, List, [], length, Some, slice_get, slice_index_or, Contains, take}
use Rattle.currency_base.specs.declared.ids.RowId.{RowId}
use Rattle.currency_base.specs.declared.pair.Pair.{Pair}
use Rattle.copy_functions.specs.Copies.{CopyFunction}
use Rattle.copy_functions.specs.declared.place.Place.{Place}
use Rattle.denial_rules.specs.declared.rule.Rule.{Rule}
use Rattle.spec_model.specs.Spec.{Spec}
use Rattle.spec_model.specs.Completion.{Rankings, lists_of, ranking_of, IsRanking, IsCompletion, Before}
use Rattle.spec_model.specs.Satisfies.{IsChoice, IsBrokenBy, IsSatisfiedBy, AreRowsBefore}
use Rattle.spec_model.specs.Compatible.{KeepsSourceOrder, BreaksSourceOrder, IsRowPairBefore}
use Rattle.spec_model.specs.Consistent.{KeepsGiven, SatisfiesRules, IsCompatibleWith, copying}
use Rattle.spec_model.specs.declared.relation.Relation.{Relation}
use Rattle.spec_model.specs.declared.flaw.Flaw.{Flaw}
use Rattle.spec_model.specs.declared.flaw.Flaw.TheVariants.{NotARanking, GivenBroken, RuleBroken, CopyBroken}

-- of two places, the first stands before the second: by relation, then attribute, then entity
abbrev pub IsPlaceBefore : ℕ → ℕ → ℕ → ℕ → ℕ → ℕ → Type 0
IsPlaceBefore rel attr ent rel' attr' ent' =
    (rel < rel') ⊎ ((rel ≡ rel') × ((attr < attr') ⊎ ((attr ≡ attr') × (ent < ent'))))

-- the first place whose list is no ranking
pub record IsFirstUnranked (relations : List Relation) (c : Rankings) (rel attr ent : ℕ) : Type 0 where
  pub relation : Relation
  pub is_relation : slice_get relations rel ≡ Some relation
  pub attr_within : attr < length relation.attrs
  pub ent_within : ent < length relation.entities
  pub broken : IsRanking relation.rows ent (ranking_of c rel attr ent) → ⊥
  pub earlier : (rel' : ℕ) (r : Relation) → slice_get relations rel' ≡ Some r
      → (attr' ent' : ℕ) → attr' < length r.attrs → ent' < length r.entities
      → IsPlaceBefore rel' attr' ent' rel attr ent → IsRanking r.rows ent' (ranking_of c rel' attr' ent')

-- the first given pair that is not kept: no earlier relation has one, and none stands before it in its own
pub record IsFirstBroken (relations : List Relation) (c : Rankings) (rel : ℕ) (pair : Pair) : Type 0 where
  pub relation : Relation
  pub is_relation : slice_get relations rel ≡ Some relation
  pub place : ℕ
  pub is_pair : slice_get relation.given place ≡ Some pair
  pub broken : Before (lists_of c rel pair.attr.0) pair.earlier pair.later → ⊥
  pub earlier_relations : KeepsGiven (take rel relations) c
  pub earlier_pairs : (p : Pair) → Contains (take place relation.given) p
      → Before (lists_of c rel p.attr.0) p.earlier p.later

-- the first choice of rows that breaks a rule: no earlier rule is broken, and none stands before it in its own
pub record IsFirstRuleBroken (s : Spec) (c : Rankings) (k : ℕ) (rows : List RowId) : Type 0 where
  pub rule : Rule
  pub is_rule : slice_get s.rules k ≡ Some rule
  pub relation : Relation
  pub is_relation : slice_get s.relations rule.relation.0 ≡ Some relation
  pub broken : IsBrokenBy relation.rows (slice_index_or c rule.relation.0 []) rule rows
  pub earlier_rules : SatisfiesRules s.relations (take k s.rules) c
  pub earlier_rows : (others : List RowId) → AreRowsBefore others rows → IsChoice relation.rows rule.vars others
      → IsSatisfiedBy relation.rows (slice_index_or c rule.relation.0 []) rule others

-- the first two rows that break a copy function: no earlier one is broken, nor this one at an earlier place, and none
-- stand before them at theirs
pub record IsFirstCopyBroken (s : Spec) (c : Rankings) (k at : ℕ) (first second : RowId) : Type 0 where
  pub copy : CopyFunction
  pub is_copy : slice_get s.copies k ≡ Some copy
  pub target : Relation
  pub source : Relation
  pub is_target : slice_get s.relations copy.target.0 ≡ Some target
  pub is_source : slice_get s.relations copy.source.0 ≡ Some source
  pub place : Place
  pub is_place : slice_get copy.places at ≡ Some place
  pub broken : BreaksSourceOrder (copying copy target source c) place first second
  pub earlier_copies : IsCompatibleWith s.relations (take k s.copies) c
  pub earlier_places : (at' : ℕ) (place' : Place) → at' < at → slice_get copy.places at' ≡ Some place' → (t u : RowId)
      → KeepsSourceOrder (copying copy target source c) place' t u
  pub earlier_rows : (t u : RowId) → IsRowPairBefore t u first second → KeepsSourceOrder (copying copy target source c) place t u

-- what a completion fails first: rankings before given pairs, these before rules, and these before copies, each in their
-- order
abbrev pub IsFirstFlaw : Spec → Rankings → Flaw → Type 0
IsFirstFlaw s c (NotARanking rel attr ent) = IsFirstUnranked s.relations c rel.0 attr.0 ent.0
IsFirstFlaw s c (GivenBroken rel pair) = IsCompletion s.relations c × IsFirstBroken s.relations c rel.0 pair
IsFirstFlaw s c (RuleBroken rule rows) = IsCompletion s.relations c × KeepsGiven s.relations c × IsFirstRuleBroken s c rule.0 rows
IsFirstFlaw s c (CopyBroken copy place first second) =
    IsCompletion s.relations c × KeepsGiven s.relations c × SatisfiesRules s.relations s.rules c × IsFirstCopyBroken
    s c copy.0 place first second
