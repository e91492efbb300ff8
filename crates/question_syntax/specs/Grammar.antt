-- The grammar of questions.
use Rattle.std.specs.Prelude.{ℕ, if◌then◌else◌, List, Option, Some, None, codes}
use Rattle.text_tokens.specs.Lexeme.{Lexeme}
use Rattle.text_grammar.specs.Words.{is_word}
use Rattle.text_grammar.specs.Grammar.{Language, ◌⋅◌, Says, IsWord, IsSymbol, SpellsName, SpellsString, Listed}
use Rattle.spec_syntax.specs.Grammar.{SpellsOrdering}
use Rattle.query_syntax.specs.Grammar.{SpellsQuery}
use Rattle.question_syntax.specs.declared.trees.AskedTree.{AskedTree}
use Rattle.question_syntax.specs.declared.trees.AskedTree.TheVariants.{Ordering, Table}
use Rattle.question_syntax.specs.declared.trees.QuestionTree.{QuestionTree}
use Rattle.question_syntax.specs.declared.trees.QuestionTree.TheVariants.{Consistent, Certain, Same, Answers}

-- asked = ordering | "orders" name "from" string
abbrev pub SpellsAsked : AskedTree → Language
SpellsAsked (Ordering ordering) = SpellsOrdering ordering
SpellsAsked (Table relation document) =
    IsWord (codes "orders") ⋅ SpellsName relation ⋅ IsWord (codes "from") ⋅ SpellsString document

-- the line of this word
abbrev pub word_line : List ℕ → Lexeme → Option ℕ
word_line text t = if is_word text t then Some t.line else None

-- question = ( "consistent" | "certain" asked { "and" asked } | "same" name { "," name } | query ) ";"
abbrev pub SpellsQuestion : QuestionTree → Language
SpellsQuestion (Consistent line) = Says (word_line (codes "consistent")) line ⋅ IsSymbol (codes ";")
SpellsQuestion (Certain line asked) =
    Says (word_line (codes "certain")) line ⋅ Listed (IsWord (codes "and")) SpellsAsked asked ⋅ IsSymbol (codes ";")
SpellsQuestion (Same line names) =
    Says (word_line (codes "same")) line ⋅ Listed (IsSymbol (codes ",")) SpellsName names ⋅ IsSymbol (codes ";")
SpellsQuestion (Answers query) = SpellsQuery query ⋅ IsSymbol (codes ";")
