-- A relation's declaration, as a `relation` statement writes it.
use Rattle.std.specs.Prelude.{List, Option}
use Rattle.spec_syntax.specs.declared.trees.AttrTree.{AttrTree}
use Rattle.text_grammar.specs.declared.named.Named.{Named}

-- the parts of a declaration
pub record Declared : Type 0 where
  pub name : Named
  pub document : Named
  pub row : Option Named
  pub entity : Named
  pub attrs : List AttrTree
