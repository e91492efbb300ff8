-- Questions that can be asked of a specification.
use Rattle.std.specs.Prelude.{◌≡◌, ◌<◌, List, length, All, Some, slice_get}
use Rattle.currency_base.specs.Lists.{OnlyOnce}
use Rattle.currency_base.specs.declared.ids.RelId.{RelId}
use Rattle.spec_model.specs.Facts.{IsGivenPair}
use Rattle.spec_model.specs.Queries.{IsQueryOn}
use Rattle.spec_model.specs.declared.question.Asked.{Asked}
use Rattle.spec_model.specs.declared.question.Question.{Question}
use Rattle.spec_model.specs.declared.question.Question.TheVariants.{Consistent, Certain, Same, Answers}
use Rattle.spec_model.specs.declared.relation.Relation.{Relation}

-- a pair that can be asked about: of two different rows of one entity, in an attribute of their relation
pub record IsAskedPair (relations : List Relation) (p : Asked) : Type 0 where
  pub relation : Relation
  pub is_relation : slice_get relations p.rel.0 ≡ Some relation
  pub pair : IsGivenPair relation p.pair

-- relations of a specification, each asked about once
pub record AreAskedRelations (relations : List Relation) (rels : List RelId) : Type 0 where
  pub there : All (λ rel. rel.0 < length relations) rels
  pub once : OnlyOnce rels

-- a question that can be asked of these relations
abbrev pub IsQuestionOn : List Relation → Question → Type 0
IsQuestionOn relations Consistent = Unit {0}
IsQuestionOn relations (Certain pairs) = All (IsAskedPair relations) pairs
IsQuestionOn relations (Same rels) = AreAskedRelations relations rels
IsQuestionOn relations (Answers query) = IsQueryOn relations query
