-- The grammars of specifications and orderings.
use Rattle.std.specs.Prelude.{if◌then◌else◌, Option, Some, None, codes}
use Rattle.text_tokens.specs.Lexeme.{Lexeme}
use Rattle.text_grammar.specs.Words.{is_word}
use Rattle.text_grammar.specs.Grammar.{Language, ◌⋅◌, Says, IsWord, IsSymbol, SpellsName, SpellsString, Maybe, Many, Listed}
use Rattle.text_grammar.specs.declared.named.NamedPair.{NamedPair}
use Rattle.rule_syntax.specs.Grammar.{SpellsRule}
use Rattle.copy_syntax.specs.Grammar.{SpellsCopy}
use Rattle.currency_base.specs.declared.value.ValueKind.{ValueKind}
use Rattle.currency_base.specs.declared.value.ValueKind.TheVariants.{Text, Int}
use Rattle.spec_syntax.specs.declared.trees.AttrTree.{AttrTree}
use Rattle.spec_syntax.specs.declared.trees.OrderingTree.{OrderingTree}
use Rattle.spec_syntax.specs.declared.trees.StatementTree.{StatementTree}
use Rattle.spec_syntax.specs.declared.trees.StatementTree.TheVariants.{Relation, Order, Orders, Rule, Copy}
use Rattle.spec_syntax.specs.declared.trees.SpecTree.{SpecTree}

-- ---- specifications

-- the kind that a word names
abbrev pub kind_named : Lexeme → Option ValueKind
kind_named t = if is_word (codes "text") t then Some Text else (if is_word (codes "int") t then Some Int else None)

-- attr = name ":" ( "text" | "int" )
abbrev pub SpellsAttr : AttrTree → Language
SpellsAttr a = SpellsName a.name ⋅ IsSymbol (codes ":") ⋅ Says kind_named a.kind

-- pair = name "<" name
abbrev pub SpellsPair : NamedPair → Language
SpellsPair p = SpellsName p.first ⋅ IsSymbol (codes "<") ⋅ SpellsName p.second

-- ordering = name "." name ":" pair { "," pair }
abbrev pub SpellsOrdering : OrderingTree → Language
SpellsOrdering o =
    SpellsName o.relation ⋅ IsSymbol (codes ".") ⋅ SpellsName o.attr ⋅ IsSymbol (codes ":") ⋅ Listed
    (IsSymbol (codes ",")) SpellsPair o.pairs

-- ordering ";"
abbrev pub SpellsEndedOrdering : OrderingTree → Language
SpellsEndedOrdering o = SpellsOrdering o ⋅ IsSymbol (codes ";")

-- statement = "relation" name "from" string [ "row" name ] "entity" name "(" attr { "," attr } ")"
--           | "order" ordering
--           | "orders" name "from" string
--           | rule
--           | copy
abbrev pub SpellsStatement : StatementTree → Language
SpellsStatement (Relation name document row entity attrs) =
    IsWord (codes "relation") ⋅ SpellsName name ⋅ IsWord (codes "from") ⋅ SpellsString document
    ⋅ Maybe (λ column. IsWord (codes "row") ⋅ SpellsName column) row
    ⋅ IsWord (codes "entity") ⋅ SpellsName entity
    ⋅ IsSymbol (codes "(") ⋅ Listed (IsSymbol (codes ",")) SpellsAttr attrs ⋅ IsSymbol (codes ")")
SpellsStatement (Order ordering) = IsWord (codes "order") ⋅ SpellsOrdering ordering
SpellsStatement (Orders relation document) = IsWord (codes "orders") ⋅ SpellsName relation ⋅ IsWord (codes "from") ⋅
    SpellsString document
SpellsStatement (Rule rule) = SpellsRule rule
SpellsStatement (Copy copy) = SpellsCopy copy

-- statement ";"
abbrev pub SpellsEndedStatement : StatementTree → Language
SpellsEndedStatement s = SpellsStatement s ⋅ IsSymbol (codes ";")

-- spec = { statement ";" }
abbrev pub SpellsSpec : SpecTree → Language
SpellsSpec spec = Many SpellsEndedStatement spec.statements
