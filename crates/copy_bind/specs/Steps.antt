-- What the parts of binding a copy leave: the words of private contracts.
use Rattle.std.specs.Prelude.{◌≡◌, ◌<◌, ℕ, List, [], ◌∷◌, length, map}
use Rattle.currency_base.specs.Values.{kind_of}
use Rattle.currency_base.specs.declared.value.ValueKind.TheVariants.{Text}
use Rattle.currency_base.specs.declared.value.Value.{Value}
use Rattle.copy_functions.specs.Copies.{CopyFunction, IsCopied}
use Rattle.spec_model.specs.declared.relation.Relation.{Relation}
use Rattle.copy_bind.specs.declared.head.CopyHead.{CopyHead}
use Rattle.copy_bind.specs.declared.mapping.Mapping.{Mapping}

-- both rows of a mapping are there
pub record IsWithin (target source : Relation) (m : Mapping) : Type 0 where
  pub in_target : m.target.0 < length target.rows
  pub in_source : m.source.0 < length source.rows

-- a copy function that maps other rows
pub record KeepsHead (old new : CopyFunction) : Type 0 where
  pub name : new.name ≡ old.name
  pub target : new.target ≡ old.target
  pub source : new.source ≡ old.source
  pub places : new.places ≡ old.places

-- a copy function of that name and head, whose mapped rows are copies
pub record IsCopyOfHead (name : List ℕ) (head : CopyHead) (copy : CopyFunction) : Type 0 where
  pub named : copy.name ≡ name
  pub target : copy.target ≡ head.target.id
  pub source : copy.source ≡ head.source.id
  pub places : copy.places ≡ head.places
  pub copied : IsCopied copy head.target.relation.rows head.source.relation.rows

-- a text
abbrev pub IsText : Value → Type 0
IsText value = kind_of value ≡ Text

-- a tuple of two texts
abbrev pub AreTexts : List Value → Type 0
AreTexts tuple = map kind_of tuple ≡ Text ∷ Text ∷ []
