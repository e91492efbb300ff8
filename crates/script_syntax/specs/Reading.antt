-- How the rules of the grammar are read.
use Rattle.std.specs.Prelude.{Bool, true, false, List, codes}
use Rattle.text_grammar.specs.Words.{is_word, is_symbol, named}
use Rattle.text_grammar.specs.Reading.{Parser, one, both, after, before, mapped, choose, many}
use Rattle.rule_syntax.specs.Reading.{rule_at}
use Rattle.copy_syntax.specs.Reading.{mapping_at}
use Rattle.spec_syntax.specs.Reading.{pair_at}
use Rattle.question_syntax.specs.Grammar.{word_line}
use Rattle.question_syntax.specs.Reading.{question_at}
use Rattle.script_syntax.specs.declared.trees.Entry.{Entry}
use Rattle.script_syntax.specs.declared.trees.EntryTree.{EntryTree}
use Rattle.script_syntax.specs.declared.trees.EntryTree.TheVariants.{Order, AddRule, WithdrawRule, Copy, Ask}
use Rattle.script_syntax.specs.Grammar.{verb}

-- a given pair, from the word `order` on
unfoldable pub order_at : Bool → Parser EntryTree
order_at add =
    mapped (λ x. Order add x.0 x.1.0 x.1.1)
    (after (is_word (codes "order")) (both (one named)
    (after (is_symbol (codes ".")) (both (one named) (after (is_symbol (codes ":")) pair_at)))))

-- a rule that is added, or the name of one that is withdrawn, from the word `rule` on
unfoldable pub constraint_at : Bool → Parser EntryTree
constraint_at true = mapped (λ r. AddRule r) rule_at
constraint_at false = mapped (λ n. WithdrawRule n) (after (is_word (codes "rule")) (one named))

-- a copied row, from the word `copy` on
unfoldable pub copying_at : Bool → Parser EntryTree
copying_at add =
    mapped (λ x. Copy add x.0 x.1)
    (after (is_word (codes "copy")) (both (one named) (after (is_symbol (codes ":")) mapping_at)))

-- what is added or withdrawn, by its word
unfoldable pub change_at : Bool → Parser EntryTree
change_at add =
    choose (is_word (codes "order")) (order_at add)
    (choose (is_word (codes "rule")) (constraint_at add) (copying_at add))

-- an edit, from its word to its semicolon
unfoldable pub edit_at : Bool → Parser Entry
edit_at add =
    mapped (λ x. record { line = x.0; tree = x.1 })
    (both (one (word_line (verb add))) (before (change_at add) (is_symbol (codes ";"))))

-- a question, from the word `ask` on
unfoldable pub ask_at : Parser Entry
ask_at = mapped (λ x. record { line = x.0; tree = Ask x.1 }) (both (one (word_line (codes "ask"))) question_at)

-- an entry, by its word
unfoldable pub entry_at : Parser Entry
entry_at = choose (is_word (codes "add")) (edit_at true) (choose (is_word (codes "withdraw")) (edit_at false) ask_at)

-- entries to the end of the text
unfoldable pub script_at : Parser (List Entry)
script_at = many (λ t. true) entry_at
