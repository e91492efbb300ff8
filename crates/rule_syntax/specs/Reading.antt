-- How the rules of the grammar are read.
use Rattle.std.specs.Prelude.{List, [], Option, Some, None, codes}
use Rattle.text_grammar.specs.Words.{is_word, is_symbol, is_variable_token, named, variable, constant}
use Rattle.text_grammar.specs.Reading.{Parser, one, passing, both, continued, after, before, mapped, maybe, choose, listed}
use Rattle.text_grammar.specs.declared.named.Named.{Named}
use Rattle.rule_syntax.specs.declared.trees.ConclusionTree.{ConclusionTree}
use Rattle.rule_syntax.specs.declared.trees.ConclusionTree.TheVariants as conclusion
use Rattle.rule_syntax.specs.declared.trees.OrderAtomTree.{OrderAtomTree}
use Rattle.rule_syntax.specs.declared.trees.PredicateTree.{PredicateTree}
use Rattle.rule_syntax.specs.declared.trees.PredicateTree.TheVariants as predicate
use Rattle.rule_syntax.specs.declared.trees.RuleTree.{RuleTree}
use Rattle.rule_syntax.specs.declared.trees.TermTree.{TermTree}
use Rattle.rule_syntax.specs.declared.trees.TermTree.TheVariants.{Field, Constant}
use Rattle.rule_syntax.specs.Grammar.{cmp_named}

-- the atom of a variable, from the word `before` on
unfoldable pub atom_after : Named → Parser OrderAtomTree
atom_after v =
    mapped (λ x. record { earlier = v; later = x.0; attr = x.1 })
    (after (is_word (codes "before")) (both (one variable) (after (is_word (codes "in")) (one named))))

-- that the row of one variable is older than that of another
unfoldable pub atom_at : Parser OrderAtomTree
atom_at = continued (one variable) atom_after

-- the attribute of a variable, from the dot on
unfoldable pub field_after : Named → Parser TermTree
field_after v = mapped (λ attr. Field v attr) (after (is_symbol (codes ".")) (one named))

-- an attribute of the row of a variable
unfoldable pub field_at : Parser TermTree
field_at = continued (one variable) field_after

-- a constant as a term
unfoldable pub constant_at : Parser TermTree
constant_at = mapped (λ c. Constant c) (one constant)

-- a term: a variable begins a field
unfoldable pub term_at : Parser TermTree
term_at = choose is_variable_token field_at constant_at

-- the comparison of a term, from its symbol on
unfoldable pub comparison_after : TermTree → Parser PredicateTree
comparison_after left = mapped (λ x. predicate.Compare left x.0 x.1) (both (one cmp_named) term_at)

-- the predicate that a variable begins: the word `before` goes on with an atom, and a dot with a term
unfoldable pub predicate_after : Named → Parser PredicateTree
predicate_after v = choose (is_word (codes "before")) (mapped (λ a. predicate.Order a) (atom_after v))
    (continued (field_after v) comparison_after)

-- a predicate, by what begins it
unfoldable pub predicate_at : Parser PredicateTree
predicate_at = choose is_variable_token (continued (one variable) predicate_after) (continued constant_at comparison_after)

-- the predicates, where there are some
abbrev pub all_of : Option (List PredicateTree) → List PredicateTree
all_of None = []
all_of (Some predicates) = predicates

-- the predicates between `if` and `then`, none where the word `if` is not there
unfoldable pub conditions_at : Parser (List PredicateTree)
conditions_at =
    mapped all_of
    (maybe (is_word (codes "if")) (after (is_word (codes "if")) (before (listed (is_word (codes "and")) predicate_at)
    (is_word (codes "then")))))

-- what a rule concludes
unfoldable pub conclusion_at : Parser ConclusionTree
conclusion_at = choose (is_word (codes "false")) (mapped (λ u. conclusion.Never) (passing (is_word (codes "false"))))
    (mapped (λ a. conclusion.Order a) atom_at)

-- a rule, from its word on
unfoldable pub rule_at : Parser RuleTree
rule_at =
    mapped (λ x. record { name = x.0; relation = x.1.0; vars = x.1.1.0; predicates = x.1.1.1.0; conclusion = x.1.1.1.1 })
    (after (is_word (codes "rule")) (both (one named)
    (after (is_word (codes "on")) (both (one named)
    (after (is_symbol (codes "(")) (both (listed (is_symbol (codes ",")) (one variable))
    (after (is_symbol (codes ")")) (after (is_symbol (codes ":")) (both conditions_at conclusion_at)))))))))
