-- What texts are read as questions, and where they are refused.
use Rattle.std.specs.Prelude.{ℕ, List}
use Rattle.text_tokens.specs.declared.token.TextFault.{TextFault}
use Rattle.text_grammar.specs.Texts.{ReadsText, RefusesText}
use Rattle.question_syntax.specs.declared.trees.QuestionTree.{QuestionTree}
use Rattle.question_syntax.specs.Grammar.{SpellsQuestion}

-- a text is read as this question: it is UTF-8, and its tokens spell the question
abbrev pub ReadsQuestion : List ℕ → QuestionTree → Type 0
ReadsQuestion source tree = ReadsText SpellsQuestion source tree

-- a text is refused as a question with this fault
abbrev pub RefusesQuestion : List ℕ → TextFault → Type 0
RefusesQuestion source e = RefusesText SpellsQuestion source e
