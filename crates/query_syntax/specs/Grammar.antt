-- The grammar of queries.
use Rattle.std.specs.Prelude.{ℕ, if◌then◌else◌, List, [], ◌∷◌, Option, Some, None, codes}
use Rattle.text_tokens.specs.Lexeme.{Lexeme}
use Rattle.text_grammar.specs.Words.{is_word}
use Rattle.text_grammar.specs.Grammar.{Language, ◌⋅◌, Nothing, Says, IsWord, IsSymbol, SpellsName, Many, Listed}
use Rattle.text_grammar.specs.declared.named.Named.{Named}
use Rattle.rule_syntax.specs.Grammar.{SpellsVariable, SpellsConst, cmp_named}
use Rattle.query_syntax.specs.declared.trees.AtomTree.{AtomTree}
use Rattle.query_syntax.specs.declared.trees.DisjunctTree.{DisjunctTree}
use Rattle.query_syntax.specs.declared.trees.PartTree.{PartTree}
use Rattle.query_syntax.specs.declared.trees.PartTree.TheVariants as part
use Rattle.query_syntax.specs.declared.trees.PlaceTree.{PlaceTree}
use Rattle.query_syntax.specs.declared.trees.PlaceTree.TheVariants as place
use Rattle.query_syntax.specs.declared.trees.QueryTree.{QueryTree}
use Rattle.query_syntax.specs.declared.trees.TestTermTree.{TestTermTree}
use Rattle.query_syntax.specs.declared.trees.TestTermTree.TheVariants as term
use Rattle.query_syntax.specs.declared.trees.TestTree.{TestTree}

-- the line of a `_`
abbrev pub any_line : Lexeme → Option ℕ
any_line t = if is_word (codes "_") t then Some t.line else None

-- place = variable | "_" | constant
abbrev pub SpellsPlace : PlaceTree → Language
SpellsPlace (place.Var v) = SpellsVariable v
SpellsPlace (place.Any line) = Says any_line line
SpellsPlace (place.Constant c) = SpellsConst c

-- atom = name "(" place { "," place } ")"
abbrev pub SpellsAtom : AtomTree → Language
SpellsAtom a = SpellsName a.relation ⋅ IsSymbol (codes "(") ⋅ Listed (IsSymbol (codes ",")) SpellsPlace a.places ⋅
    IsSymbol (codes ")")

-- testterm = variable | constant
abbrev pub SpellsTestTerm : TestTermTree → Language
SpellsTestTerm (term.Var v) = SpellsVariable v
SpellsTestTerm (term.Constant c) = SpellsConst c

-- test = testterm cmp testterm
abbrev pub SpellsTest : TestTree → Language
SpellsTest t = SpellsTestTerm t.left ⋅ Says cmp_named t.cmp ⋅ SpellsTestTerm t.right

-- part = atom | test
abbrev pub SpellsPart : PartTree → Language
SpellsPart (part.Atom a) = SpellsAtom a
SpellsPart (part.Test t) = SpellsTest t

-- disjunct = atom { "and" part }
abbrev pub SpellsDisjunct : DisjunctTree → Language
SpellsDisjunct d = SpellsAtom d.first ⋅ Many (λ p. IsWord (codes "and") ⋅ SpellsPart p) d.parts

-- head = [ variable { "," variable } ]
abbrev pub SpellsHead : List Named → Language
SpellsHead [] = Nothing
SpellsHead (v ∷ vs) = Listed (IsSymbol (codes ",")) SpellsVariable (v ∷ vs)

-- query = "answers" "(" head ")" "where" disjunct { "or" disjunct }
abbrev pub SpellsQuery : QueryTree → Language
SpellsQuery q =
    IsWord (codes "answers") ⋅ IsSymbol (codes "(") ⋅ SpellsHead q.head ⋅ IsSymbol (codes ")")
    ⋅ IsWord (codes "where") ⋅ Listed (IsWord (codes "or")) SpellsDisjunct q.disjuncts
