-- Facts and clauses over the cells of squares: what a specification says of forced pairs.
use Rattle.std.specs.Prelude.{◌≡◌, ◌⊎◌, ◌<◌, ◌≤◌, ◌++◌, ◌∷◌, [], ◌^◌, ℕ, List, Some, Contains, length, slice_get}
use Rattle.currency_base.specs.declared.ids.CopyId.{CopyId}
use Rattle.currency_base.specs.declared.ids.RowId.{RowId}
use Rattle.currency_base.specs.declared.ids.RuleId.{RuleId}
use Rattle.currency_base.specs.declared.pair.Pair.{Pair}
use Rattle.copied_pairs.specs.declared.pairs.CopiedPair.{CopiedPair}
use Rattle.copy_functions.specs.Copies.{CopyFunction}
use Rattle.denial_rules.specs.declared.instance.RuleInstance.{RuleInstance}
use Rattle.denial_rules.specs.declared.rule.Conclusion.TheVariants as conclusion
use Rattle.denial_rules.specs.declared.rule.OrderAtom.{OrderAtom}
use Rattle.denial_rules.specs.declared.rule.Rule.{Rule}
use Rattle.entity_ground.specs.Grounds.{AreRuleGrounds, AreCopyGrounds}
use Rattle.order_squares.specs.Squares.{Layout, IsLayout, IsSlot}
use Rattle.spec_model.specs.Facts.{IsSpecification}
use Rattle.spec_model.specs.Spec.{Spec}
use Rattle.forced_closure.specs.Forced.{IsGiven, IsInstance}
use Rattle.forced_closure.specs.Derived.{AreCopied}
use Rattle.forced_closure.specs.declared.origin.Origin.{Origin}
use Rattle.forced_closure.specs.declared.origin.Origin.TheVariants as origin

-- a specification, its squares, and the grounds of its rules and of its copy functions
pub record Subject : Type 0 where
  pub spec : Spec
  pub layout : Layout
  pub rules : List (List (List RowId))
  pub copies : List (List CopiedPair)

-- they belong together
pub record IsSubject (m : Subject) : Type 0 where
  pub facts : IsSpecification m.spec
  pub relations : m.layout.relations ≡ m.spec.relations
  pub layout : IsLayout m.layout
  pub rules : AreRuleGrounds m.spec m.rules
  pub copies : AreCopyGrounds m.spec m.copies

-- ---- facts

-- a slot is that of a given pair
pub record IsGivenSlot (m : Subject) (slot : ℕ) : Type 0 where
  pub rel : ℕ
  pub pair : Pair
  pub is_given : IsGiven m.spec rel pair
  pub is_slot : IsSlot m.layout rel pair.attr.0 pair.earlier pair.later slot

-- the slot of a pair is among the facts
pub record HasFact (m : Subject) (facts : List ℕ) (rel : ℕ) (p : Pair) : Type 0 where
  pub slot : ℕ
  pub is_in : Contains facts slot
  pub is_slot : IsSlot m.layout rel p.attr.0 p.earlier p.later slot

-- all facts are slots of given pairs
abbrev pub AreOfGiven : Subject → List ℕ → Type 0
AreOfGiven m facts = (slot : ℕ) → Contains facts slot → IsGivenSlot m slot

-- what the first list has, the second has
abbrev pub Grows : List ℕ → List ℕ → Type 0
Grows old new = (slot : ℕ) → Contains old slot → Contains new slot

-- the facts are the slots of the given pairs
pub record AreFacts (m : Subject) (facts : List ℕ) : Type 0 where
  pub each : AreOfGiven m facts
  pub all : (rel : ℕ) (p : Pair) → IsGiven m.spec rel p → HasFact m facts rel p

-- ---- clauses

-- a slot is that of one of these pairs of a relation
pub record IsOfPair (l : Layout) (rel : ℕ) (pairs : List Pair) (slot : ℕ) : Type 0 where
  pub pair : Pair
  pub is_in : Contains pairs pair
  pub is_slot : IsSlot l rel pair.attr.0 pair.earlier pair.later slot

-- the slot of a pair is one of these
pub record HasSlot (l : Layout) (rel : ℕ) (slots : List ℕ) (pair : Pair) : Type 0 where
  pub slot : ℕ
  pub is_in : Contains slots slot
  pub is_slot : IsSlot l rel pair.attr.0 pair.earlier pair.later slot

-- these are the slots of pairs of a relation
pub record AreSlots (l : Layout) (rel : ℕ) (pairs : List Pair) (slots : List ℕ) : Type 0 where
  pub each : (slot : ℕ) → Contains slots slot → IsOfPair l rel pairs slot
  pub all : (pair : Pair) → Contains pairs pair → HasSlot l rel slots pair

-- the clause of a ground of a rule
pub record IsRuleClause (m : Subject) (k ground : ℕ) (premises : List ℕ) (conclusion : ℕ) : Type 0 where
  pub grounds : List (List RowId)
  pub are_grounds : slice_get m.rules k ≡ Some grounds
  pub rows : List RowId
  pub are_rows : slice_get grounds ground ≡ Some rows
  pub rule : Rule
  pub taken : RuleInstance
  pub atom : OrderAtom
  pub earlier : RowId
  pub later : RowId
  pub is_instance : IsInstance m.spec rule taken atom earlier later
  pub of_rule : is_instance.number ≡ k
  pub of_rows : is_instance.rows ≡ rows
  pub few_rows : length rows ≤ 4
  pub premises_are : AreSlots m.layout rule.relation.0 taken.premises premises
  pub conclusion_is : IsSlot m.layout rule.relation.0 atom.attr.0 earlier later conclusion

-- the slots of two mapped rows' sources and of the mapped rows
pub record IsCopyClause (m : Subject) (k at : ℕ) (first second : RowId) (from to : ℕ) : Type 0 where
  pub are : AreCopied m.spec k at first second
  pub source : IsSlot m.layout are.copy.source.0 are.place.source.0 are.are_at.rows.first_source
      are.are_at.rows.second_source from
  pub target : IsSlot m.layout are.copy.target.0 are.place.target.0 first second to

-- a clause says what it was made of
abbrev pub IsSaid : Subject → Origin → List ℕ → ℕ → Type 0
IsSaid m (origin.Rule rule ground) premises conclusion = IsRuleClause m rule.0 ground premises conclusion
IsSaid m (origin.Copy copy place first second) premises conclusion =
    (from : ℕ) × (premises ≡ from ∷ []) × IsCopyClause m copy.0 place first second from conclusion
IsSaid m (origin.Back copy place first second) premises conclusion =
    (to : ℕ) × (premises ≡ to ∷ []) × IsCopyClause m copy.0 place first second conclusion to

-- clauses: the premises of each, its conclusion, and what it was made of
pub record HornClauses : Type 0 where
  pub premises : List (List ℕ)
  pub conclusions : List ℕ
  pub origins : List Origin

-- one clause more
abbrev pub with_clause : HornClauses → Origin → List ℕ → ℕ → HornClauses
with_clause t o premises conclusion =
    record {
      premises = t.premises ++ premises ∷ [];
      conclusions = t.conclusions ++ conclusion ∷ [];
      origins =
          t.origins ++ o ∷ [];
    }

-- each clause says what it was made of
pub record AreSaid (m : Subject) (t : HornClauses) : Type 0 where
  pub premises : length t.premises ≡ length t.origins
  pub conclusions : length t.conclusions ≡ length t.origins
  pub each : (k : ℕ) (o : Origin) (premises : List ℕ) (conclusion : ℕ) → slice_get t.origins k ≡ Some o
      → slice_get t.premises k ≡ Some premises
      → slice_get t.conclusions k ≡ Some conclusion → IsSaid m o premises conclusion

-- from clauses to more: each of them says what it was made of if that was so before, what was there is, and so is what is asked
pub record Adds (m : Subject) (old new : HornClauses) (asked : Origin → Type 0) : Type 0 where
  pub said : AreSaid m old → AreSaid m new
  pub grows : (o : Origin) → Contains old.origins o → Contains new.origins o
  pub all : (o : Origin) → asked o → Contains new.origins o

-- ---- of what clauses are made

-- one of the first grounds of a rule
pub record OfGrounds (rule : RuleId) (count : ℕ) (o : Origin) : Type 0 where
  pub ground : ℕ
  pub below : ground < count
  pub is : o ≡ origin.Rule rule ground

-- one of the grounds of a rule
pub record OfGroundsAt (m : Subject) (rule : RuleId) (o : Origin) : Type 0 where
  pub grounds : List (List RowId)
  pub are_grounds : slice_get m.rules rule.0 ≡ Some grounds
  pub of : OfGrounds rule (length grounds) o

-- one of the grounds of a rule that concludes an order atom
pub record OfRule (m : Subject) (k : RuleId) (o : Origin) : Type 0 where
  pub rule : Rule
  pub is_rule : slice_get m.spec.rules k.0 ≡ Some rule
  pub atom : OrderAtom
  pub concludes : rule.conclusion ≡ conclusion.Order atom
  pub at : OfGroundsAt m k o

-- of one of the first rules
pub record OfRules (m : Subject) (count : ℕ) (o : Origin) : Type 0 where
  pub k : RuleId
  pub below : k.0 < count
  pub of : OfRule m k o

-- it is copied, or copied back
abbrev pub OfPair : CopyId → ℕ → CopiedPair → Origin → Type 0
OfPair copy place p o = (o ≡ origin.Copy copy place p.first p.second) ⊎ (o ≡ origin.Back copy place p.first p.second)

-- one of the first pairs at a place
pub record OfPairs (copy : CopyId) (place : ℕ) (pairs : List CopiedPair) (count : ℕ) (o : Origin) : Type 0 where
  pub i : ℕ
  pub below : i < count
  pub pair : CopiedPair
  pub is_pair : slice_get pairs i ≡ Some pair
  pub of : OfPair copy place pair o

-- one of the pairs of a copy function at a place
pub record OfPlace (m : Subject) (copy : CopyId) (place : ℕ) (o : Origin) : Type 0 where
  pub pairs : List CopiedPair
  pub are_pairs : slice_get m.copies copy.0 ≡ Some pairs
  pub of : OfPairs copy place pairs (length pairs) o

-- one of the pairs of a copy function at one of its first places
pub record OfPlaces (m : Subject) (copy : CopyId) (count : ℕ) (o : Origin) : Type 0 where
  pub place : ℕ
  pub below : place < count
  pub of : OfPlace m copy place o

-- of a copy function
pub record OfCopy (m : Subject) (k : CopyId) (o : Origin) : Type 0 where
  pub copy : CopyFunction
  pub is_copy : slice_get m.spec.copies k.0 ≡ Some copy
  pub of : OfPlaces m k (length copy.places) o

-- of one of the first copy functions
pub record OfCopies (m : Subject) (count : ℕ) (o : Origin) : Type 0 where
  pub k : CopyId
  pub below : k.0 < count
  pub of : OfCopy m k o

-- ---- what is asked for a clause

-- the rule concludes this atom
abbrev pub Concludes : Subject → ℕ → OrderAtom → Type 0
Concludes m k atom = (rule : Rule) → slice_get m.spec.rules k ≡ Some rule → rule.conclusion ≡ conclusion.Order atom

-- the rule has a ground there
abbrev pub HasGround : Subject → ℕ → ℕ → Type 0
HasGround m k ground = (grounds : List (List RowId)) → slice_get m.rules k ≡ Some grounds → ground < length grounds

-- the copy function has that place
abbrev pub HasPlace : Subject → ℕ → ℕ → Type 0
HasPlace m k place = (copy : CopyFunction) → slice_get m.spec.copies k ≡ Some copy → place < length copy.places

-- the copy function has that pair
abbrev pub HasPair : Subject → ℕ → CopiedPair → Type 0
HasPair m k p = (pairs : List CopiedPair) → slice_get m.copies k ≡ Some pairs → Contains pairs p

-- the clauses of a specification: each says what it was made of, and those of all rules and copy functions are there
pub record AreClauses (m : Subject) (t : HornClauses) : Type 0 where
  pub said : AreSaid m t
  pub rules : (o : Origin) → OfRules m (length m.spec.rules) o → Contains t.origins o
  pub copies : (o : Origin) → OfCopies m (length m.spec.copies) o → Contains t.origins o
  pub few : length t.origins < 2 ^ 32
