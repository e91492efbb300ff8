-- How the rules of the grammar are read.
use Rattle.std.specs.Prelude.{codes}
use Rattle.text_grammar.specs.Words.{is_word, is_symbol, named, quoted}
use Rattle.text_grammar.specs.Reading.{Parser, one, both, after, before, mapped, choose, listed}
use Rattle.spec_syntax.specs.Reading.{ordering_at}
use Rattle.query_syntax.specs.Reading.{query_at}
use Rattle.question_syntax.specs.declared.trees.AskedTree.{AskedTree}
use Rattle.question_syntax.specs.declared.trees.AskedTree.TheVariants.{Ordering, Table}
use Rattle.question_syntax.specs.declared.trees.QuestionTree.{QuestionTree}
use Rattle.question_syntax.specs.declared.trees.QuestionTree.TheVariants.{Consistent, Certain, Same, Answers}
use Rattle.question_syntax.specs.Grammar.{word_line}

-- the pairs of a document, from the word `orders` on
unfoldable pub table_at : Parser AskedTree
table_at = mapped (λ x. Table x.0 x.1)
    (after (is_word (codes "orders")) (both (one named) (after (is_word (codes "from")) (one quoted))))

-- an ordering as an asked part
unfoldable pub pairs_at : Parser AskedTree
pairs_at = mapped (λ o. Ordering o) ordering_at

-- an asked part: the word `orders` begins a document's pairs
unfoldable pub asked_at : Parser AskedTree
asked_at = choose (is_word (codes "orders")) table_at pairs_at

-- the questions, each from its word to its semicolon
unfoldable pub consistent_at : Parser QuestionTree
consistent_at = mapped (λ line. Consistent line) (before (one (word_line (codes "consistent"))) (is_symbol (codes ";")))

unfoldable pub certain_at : Parser QuestionTree
certain_at = mapped (λ x. Certain x.0 x.1)
    (both (one (word_line (codes "certain"))) (before (listed (is_word (codes "and")) asked_at) (is_symbol (codes ";"))))

unfoldable pub same_at : Parser QuestionTree
same_at = mapped (λ x. Same x.0 x.1)
    (both (one (word_line (codes "same"))) (before (listed (is_symbol (codes ",")) (one named)) (is_symbol (codes ";"))))

unfoldable pub answers_at : Parser QuestionTree
answers_at = mapped (λ q. Answers q) (before query_at (is_symbol (codes ";")))

-- a question, by its word
unfoldable pub question_at : Parser QuestionTree
question_at =
    choose (is_word (codes "consistent")) consistent_at
    (choose (is_word (codes "certain")) certain_at
    (choose (is_word (codes "same")) same_at answers_at))
