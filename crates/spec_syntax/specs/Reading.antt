-- How the rules of the grammars are read.
use Rattle.std.specs.Prelude.{List, true, Option, codes}
use Rattle.text_grammar.specs.Words.{is_word, is_symbol, named, quoted}
use Rattle.text_grammar.specs.Reading.{Parser, one, both, after, before, mapped, maybe, choose, many, listed}
use Rattle.text_grammar.specs.declared.named.Named.{Named}
use Rattle.text_grammar.specs.declared.named.NamedPair.{NamedPair}
use Rattle.rule_syntax.specs.Reading.{rule_at}
use Rattle.copy_syntax.specs.Reading.{copy_at}
use Rattle.spec_syntax.specs.declared.trees.AttrTree.{AttrTree}
use Rattle.spec_syntax.specs.declared.trees.OrderingTree.{OrderingTree}
use Rattle.spec_syntax.specs.declared.trees.StatementTree.{StatementTree}
use Rattle.spec_syntax.specs.declared.trees.StatementTree.TheVariants.{Relation, Order, Orders, Rule, Copy}
use Rattle.spec_syntax.specs.declared.trees.SpecTree.{SpecTree}
use Rattle.spec_syntax.specs.Grammar.{kind_named}

unfoldable pub attr_at : Parser AttrTree
attr_at = mapped (λ x. record { name = x.0; kind = x.1 }) (both (one named) (after (is_symbol (codes ":")) (one kind_named)))

unfoldable pub pair_at : Parser NamedPair
pair_at = mapped (λ x. record { first = x.0; second = x.1 }) (both (one named) (after (is_symbol (codes "<")) (one named)))

unfoldable pub ordering_at : Parser OrderingTree
ordering_at =
    mapped (λ x. record { relation = x.0; attr = x.1.0; pairs = x.1.1 })
    (both (one named) (after (is_symbol (codes "."))
    (both (one named) (after (is_symbol (codes ":")) (listed (is_symbol (codes ",")) pair_at)))))

unfoldable pub ended_ordering_at : Parser OrderingTree
ended_ordering_at = before ordering_at (is_symbol (codes ";"))

unfoldable pub row_at : Parser (Option Named)
row_at = maybe (is_word (codes "row")) (after (is_word (codes "row")) (one named))

-- what stands in a relation's parentheses, with these
unfoldable pub attrs_at : Parser (List AttrTree)
attrs_at = after (is_symbol (codes "(")) (before (listed (is_symbol (codes ",")) attr_at) (is_symbol (codes ")")))

unfoldable pub relation_at : Parser StatementTree
relation_at =
    mapped (λ x. Relation x.0 x.1.0 x.1.1.0 x.1.1.1.0 x.1.1.1.1)
    (after (is_word (codes "relation")) (both (one named)
    (after (is_word (codes "from")) (both (one quoted)
    (both row_at
    (after (is_word (codes "entity")) (both (one named) attrs_at)))))))

unfoldable pub order_at : Parser StatementTree
order_at = mapped (λ o. Order o) (after (is_word (codes "order")) ordering_at)

unfoldable pub orders_at : Parser StatementTree
orders_at = mapped (λ x. Orders x.0 x.1)
    (after (is_word (codes "orders")) (both (one named) (after (is_word (codes "from")) (one quoted))))

-- a rule as a statement
unfoldable pub constraint_at : Parser StatementTree
constraint_at = mapped (λ r. Rule r) rule_at

-- a copy as a statement
unfoldable pub copying_at : Parser StatementTree
copying_at = mapped (λ c. Copy c) copy_at

unfoldable pub statement_at : Parser StatementTree
statement_at =
    choose (is_word (codes "relation")) relation_at
    (choose (is_word (codes "order")) order_at
    (choose (is_word (codes "orders")) orders_at
    (choose (is_word (codes "rule")) constraint_at copying_at)))

unfoldable pub ended_statement_at : Parser StatementTree
ended_statement_at = before statement_at (is_symbol (codes ";"))

unfoldable pub spec_at : Parser SpecTree
spec_at = mapped (λ s. record { statements = s }) (many (λ t. true) ended_statement_at)
