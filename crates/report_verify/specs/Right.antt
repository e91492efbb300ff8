-- When a verdict is right, whatever a report lists for it.
use Rattle.std.specs.Prelude.{◌≡◌, ◌≢◌, ◌<◌, ℕ, List, length, All, Contains, Some, slice_get}
use Rattle.answer_laws.specs.Answered.{IsAnswerIn}
use Rattle.currency_base.specs.declared.ids.AttrId.{AttrId}
use Rattle.currency_base.specs.declared.ids.EntId.{EntId}
use Rattle.currency_base.specs.declared.ids.RelId.{RelId}
use Rattle.currency_base.specs.declared.value.Value.{Value}
use Rattle.query_model.specs.declared.query.Query.{Query}
use Rattle.spec_model.specs.Completion.{Rankings, lists_of, Before}
use Rattle.spec_model.specs.Consistent.{IsConsistent, IsSatisfiable}
use Rattle.spec_model.specs.Current.{current_value}
use Rattle.spec_model.specs.Spec.{Spec}
use Rattle.spec_model.specs.declared.question.Asked.{Asked}
use Rattle.spec_model.specs.declared.question.Question.{Question}
use Rattle.spec_model.specs.declared.question.Question.TheVariants as asked
use Rattle.spec_model.specs.declared.relation.Relation.{Relation}
use Rattle.report_model.specs.declared.verdict.Current.{Current}
use Rattle.report_model.specs.declared.verdict.Verdict.{Verdict}
use Rattle.report_model.specs.declared.verdict.Verdict.TheVariants as verdict
use Rattle.report_verify.specs.Asked.{AreItemsOf}

-- this holds of every consistent completion
abbrev pub EachConsistent : Spec → (Rankings → Type 0) → Type 0
EachConsistent s P = (c : Rankings) → IsConsistent s c → P c

-- a pair holds in a completion: its earlier row stands before its later one in its attribute
abbrev pub PairHolds : Asked → Rankings → Type 0
PairHolds p c = Before (lists_of c p.rel.0 p.pair.attr.0) p.pair.earlier p.pair.later

-- the values of an item are the current ones of its entity in a completion, attribute by attribute
pub record IsCurrentIn (relations : List Relation) (item : Current) (c : Rankings) : Type 0 where
  pub relation : Relation
  pub is_relation : slice_get relations item.rel.0 ≡ Some relation
  pub per_attr : length item.values ≡ length relation.attrs
  pub current : (attr : ℕ) → attr < length relation.attrs
      → slice_get item.values attr ≡ current_value c item.rel.0 relation.rows attr item.ent.0

-- two completions have different current values of an attribute of an entity
pub record DifferAt (relations : List Relation) (rel : RelId) (attr : AttrId) (ent : EntId) (c d : Rankings) : Type 0 where
  pub relation : Relation
  pub is_relation : slice_get relations rel.0 ≡ Some relation
  pub differ : current_value c rel.0 relation.rows attr.0 ent.0 ≢ current_value d rel.0 relation.rows attr.0 ent.0

-- a consistent completion in which a pair fails
pub record FailsInSome (s : Spec) (p : Asked) : Type 0 where
  pub rankings : Rankings
  pub consistent : IsConsistent s rankings
  pub fails : PairHolds p rankings → ⊥

-- two consistent completions that differ at a place
pub record DifferInSome (s : Spec) (rel : RelId) (attr : AttrId) (ent : EntId) : Type 0 where
  pub one : Rankings
  pub other : Rankings
  pub one_consistent : IsConsistent s one
  pub other_consistent : IsConsistent s other
  pub differ : DifferAt s.relations rel attr ent one other

-- exactly the tuples that are answers over the current instance of every consistent completion
pub record AreCertainAnswers (s : Spec) (query : Query) (tuples : List (List Value)) : Type 0 where
  pub each : All (λ tuple. EachConsistent s (IsAnswerIn s.relations query tuple)) tuples
  pub all : (tuple : List Value) → EachConsistent s (IsAnswerIn s.relations query tuple) → Contains tuples tuple

-- a verdict is right. `inconsistent` is where no consistent completion exists, whatever the question; each other asks
-- besides that one exists. `undecided` is neither right nor wrong, and has no case here
abbrev pub IsRight : Spec → Question → Verdict → Type 0
IsRight s q verdict.Inconsistent = IsSatisfiable s → ⊥
IsRight s asked.Consistent verdict.Consistent = IsSatisfiable s
IsRight s (asked.Certain pairs) verdict.Certain = IsSatisfiable s × All (λ p. EachConsistent s (PairHolds p)) pairs
IsRight s (asked.Certain pairs) (verdict.NotCertain p) = Contains pairs p × FailsInSome s p
IsRight s (asked.Same rels) (verdict.Same items) =
    IsSatisfiable s × AreItemsOf s.relations rels items × All (λ item. EachConsistent s (IsCurrentIn s.relations item)) items
IsRight s (asked.Same rels) (verdict.NotSame rel attr ent) = Contains rels rel × DifferInSome s rel attr ent
IsRight s (asked.Answers query) (verdict.Answers tuples) = IsSatisfiable s × AreCertainAnswers s query tuples
IsRight s q v = ⊥
