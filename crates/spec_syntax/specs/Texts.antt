-- What texts are read as, and where they are refused.
use Rattle.std.specs.Prelude.{ℕ, List}
use Rattle.text_tokens.specs.declared.token.TextFault.{TextFault}
use Rattle.text_grammar.specs.Texts.{ReadsText, RefusesText}
use Rattle.spec_syntax.specs.declared.trees.OrderingTree.{OrderingTree}
use Rattle.spec_syntax.specs.declared.trees.SpecTree.{SpecTree}
use Rattle.spec_syntax.specs.Grammar.{SpellsSpec, SpellsEndedOrdering}

-- a text is read as this specification: it is UTF-8, and its tokens spell the specification
abbrev pub ReadsSpec : List ℕ → SpecTree → Type 0
ReadsSpec source tree = ReadsText SpellsSpec source tree

-- a text is read as this ordering
abbrev pub ReadsOrdering : List ℕ → OrderingTree → Type 0
ReadsOrdering source tree = ReadsText SpellsEndedOrdering source tree

-- a text is refused as a specification with this fault
abbrev pub RefusesSpec : List ℕ → TextFault → Type 0
RefusesSpec source e = RefusesText SpellsSpec source e

-- a text is refused as an ordering with this fault
abbrev pub RefusesOrdering : List ℕ → TextFault → Type 0
RefusesOrdering source e = RefusesText SpellsEndedOrdering source e
