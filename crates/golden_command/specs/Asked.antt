-- Which relation golden records are asked of, and how its columns are named.
use Rattle.std.specs.Prelude.{ℕ, List, [], ◌∷◌, Option, if◌then◌else◌, position}
use Rattle.std.specs.Str.{bytes_eq}
use Rattle.program_words.specs.Words.{GoldenSaid}
use Rattle.program_words.specs.declared.command.Golden.{Golden}
use Rattle.spec_model.specs.declared.relation.Relation.{Relation}
use Rattle.spec_syntax.specs.declared.trees.StatementTree.{StatementTree}
use Rattle.spec_syntax.specs.declared.trees.StatementTree.TheVariants as statement

-- what is asked, with its names as bytes
abbrev pub golden_said : Golden → GoldenSaid
golden_said g = record { spec = g.spec.now; relation = g.relation.now; budget = g.budget; guide = g.guide }

-- the place of the relation of a name, byte for byte
abbrev pub relation_named : List Relation → List ℕ → Option ℕ
relation_named relations name = position (λ (r : Relation). bytes_eq r.name name) relations

-- the name of the entity column of the relation of a name, as the statement declares it
abbrev pub column_in : List StatementTree → List ℕ → List ℕ
column_in (statement.Relation name document row entity attrs ∷ more) wanted =
    if bytes_eq name.name wanted then entity.name else column_in more wanted
column_in (one ∷ more) wanted = column_in more wanted
column_in [] wanted = []
