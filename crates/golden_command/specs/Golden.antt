-- What is due for the golden records of a relation, and what is told.
use Rattle.std.specs.Prelude.{◌≡◌, ◌⊎◌, ℕ, List, codes, None, Some, Result, Ok, Err, slice_get}
use Rattle.command_stages.specs.Stages.{Then, IsSpecRead}
use Rattle.command_stages.specs.Trees.{IsTreeOf}
use Rattle.command_stages.specs.declared.done.Done.{Done}
use Rattle.command_stages.specs.declared.done.Ending.{Ending}
use Rattle.command_stages.specs.declared.trouble.Trouble.{Trouble}
use Rattle.command_stages.specs.declared.trouble.Trouble.TheVariants as trouble
use Rattle.currency_base.specs.declared.error_code.ErrorCode.TheVariants as code
use Rattle.golden_values.specs.Golden.{IsGolden}
use Rattle.golden_values.specs.declared.field.Golden.{Golden}
use Rattle.program_words.specs.Words.{GoldenSaid}
use Rattle.spec_model.specs.Spec.{Spec}
use Rattle.spec_model.specs.declared.relation.Relation.{Relation}
use Rattle.spec_syntax.specs.declared.trees.SpecTree.{SpecTree}
use Rattle.golden_command.specs.Asked.{column_in, relation_named}
use Rattle.golden_command.specs.Text.{golden_done}

-- there is no relation of the name
abbrev pub no_relation : Trouble
no_relation = trouble.Refused code.UnknownName (codes "words") 1

-- the golden records of the relation of the name are told, its columns being named as in the tree of the text
pub record AreGoldenOf (tree : SpecTree) (s : Spec) (g : GoldenSaid) (outcome : Result Done Trouble) : Type 0 where
  pub rel : ℕ
  pub is_named : relation_named s.relations g.relation ≡ Some rel
  pub relation : Relation
  pub is_relation : slice_get s.relations rel ≡ Some relation
  pub found : Golden
  pub is_golden : IsGolden s rel g.budget found
  pub comes : outcome ≡ Ok (golden_done s (column_in tree.statements relation.name) relation found)

-- the job: they are told, or there is no such relation
abbrev pub IsOutcomeOf : SpecTree → Spec → GoldenSaid → Result Done Trouble → Type 0
IsOutcomeOf tree s g outcome =
    ((relation_named s.relations g.relation ≡ None) × (outcome ≡ Err no_relation)) ⊎ AreGoldenOf tree s g outcome

-- the same, the tree being that of the document's text
abbrev pub IsGoldenFound : List (List ℕ × List ℕ) → GoldenSaid → Spec → Result Done Trouble → Type 0
IsGoldenFound told g s outcome = (tree : SpecTree) × IsTreeOf told g.spec tree s × IsOutcomeOf tree s g outcome

-- what is due for the golden records of a relation
abbrev pub IsGoldenDue : List (List ℕ × List ℕ) → GoldenSaid → Result Done Trouble → Type 0
IsGoldenDue told g = Then (IsSpecRead told g.spec) (IsGoldenFound told g)

-- the document is read as a specification, and this is the text of the golden records of the relation, and how that ends
pub record IsGoldenPrinted (told : List (List ℕ × List ℕ)) (g : GoldenSaid) (text : List ℕ) (ending : Ending) : Type 0 where
  pub spec : Spec
  pub spec_read : IsSpecRead told g.spec (Ok spec)
  pub tree : SpecTree
  pub is_tree : IsTreeOf told g.spec tree spec
  pub golden : AreGoldenOf tree spec g (Ok (record { text = text; ending = ending }))
