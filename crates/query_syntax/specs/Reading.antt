-- How the rules of the grammar are read.
use Rattle.std.specs.Prelude.{Bool, false, not, ◌&&◌, ◌||◌, if◌then◌else◌, List, [], ◌∷◌, Option, Some, None, is_none, codes}
use Rattle.text_tokens.specs.Lexeme.{Lexeme}
use Rattle.text_tokens.specs.declared.token.TokenKind.{TokenKind}
use Rattle.text_tokens.specs.declared.token.TokenKind.TheVariants.{Word, Text}
use Rattle.currency_base.specs.Number.{int_of}
use Rattle.text_grammar.specs.Words.{is_word, is_symbol, is_variable_token, named, variable, constant}
use Rattle.text_grammar.specs.Reading.{Parser, one, both, continued, after, before, mapped, maybe, choose, many, listed, starts}
use Rattle.text_grammar.specs.declared.named.Named.{Named}
use Rattle.rule_syntax.specs.Grammar.{cmp_named}
use Rattle.query_syntax.specs.declared.trees.AtomTree.{AtomTree}
use Rattle.query_syntax.specs.declared.trees.DisjunctTree.{DisjunctTree}
use Rattle.query_syntax.specs.declared.trees.PartTree.{PartTree}
use Rattle.query_syntax.specs.declared.trees.PartTree.TheVariants as part
use Rattle.query_syntax.specs.declared.trees.PlaceTree.{PlaceTree}
use Rattle.query_syntax.specs.declared.trees.PlaceTree.TheVariants as place
use Rattle.query_syntax.specs.declared.trees.QueryTree.{QueryTree}
use Rattle.query_syntax.specs.declared.trees.TestTermTree.{TestTermTree}
use Rattle.query_syntax.specs.declared.trees.TestTermTree.TheVariants as term
use Rattle.query_syntax.specs.declared.trees.TestTree.{TestTree}
use Rattle.query_syntax.specs.Grammar.{any_line}

-- ---- atoms

-- a variable as a place
unfoldable pub variable_place_at : Parser PlaceTree
variable_place_at = mapped (λ v. place.Var v) (one variable)

-- a constant as a place
unfoldable pub constant_place_at : Parser PlaceTree
constant_place_at = mapped (λ c. place.Constant c) (one constant)

-- a place, by its token
unfoldable pub place_at : Parser PlaceTree
place_at = choose is_variable_token variable_place_at
    (choose (is_word (codes "_")) (mapped (λ line. place.Any line) (one any_line)) constant_place_at)

-- an atom of a relation, from the parenthesis on
unfoldable pub atom_after : Named → Parser AtomTree
atom_after n =
    mapped (λ places. record { relation = n; places = places })
    (after (is_symbol (codes "(")) (before (listed (is_symbol (codes ",")) place_at) (is_symbol (codes ")"))))

-- an atom
unfoldable pub atom_at : Parser AtomTree
atom_at = continued (one named) atom_after

-- ---- tests

-- a variable as a term
unfoldable pub variable_term_at : Parser TestTermTree
variable_term_at = mapped (λ v. term.Var v) (one variable)

-- a constant as a term
unfoldable pub constant_term_at : Parser TestTermTree
constant_term_at = mapped (λ c. term.Constant c) (one constant)

-- a term, by its token
unfoldable pub term_at : Parser TestTermTree
term_at = choose is_variable_token variable_term_at constant_term_at

-- the test of a term, from the symbol on
unfoldable pub test_after : TestTermTree → Parser TestTree
test_after left = mapped (λ x. record { left = left; cmp = x.0; right = x.1 }) (both (one cmp_named) term_at)

-- a test
unfoldable pub test_at : Parser TestTree
test_at = continued term_at test_after

-- ---- parts

-- the parenthesis after a relation's name
abbrev pub is_open : Lexeme → Bool
is_open t = is_symbol (codes "(") t

-- a word that is no term: neither a variable nor a number
abbrev pub is_no_term : Lexeme → Bool
is_no_term t = not (is_variable_token t) && is_none (int_of t.text)

-- whether a token of this kind begins an atom: a word that is no term does, and one that is, or a string, where a parenthesis
-- is next
abbrev pub begins_atom : TokenKind → Bool → Bool → Bool
begins_atom Word no_term opens = no_term || opens
begins_atom Text no_term opens = opens
begins_atom _ no_term opens = false

-- whether the first two tokens say that an atom is to be read
abbrev pub is_atom_ahead : List Lexeme → Bool
is_atom_ahead [] = false
is_atom_ahead (t ∷ ts) = begins_atom t.kind (is_no_term t) (starts is_open ts)

-- a part: an atom or a test, by the first two tokens
unfoldable pub part_at : Parser PartTree
part_at tokens = if is_atom_ahead tokens then mapped (λ a. part.Atom a) atom_at tokens else mapped (λ t. part.Test t)
    test_at tokens

-- ---- queries

-- a part and the word `and` before it
unfoldable pub further_part_at : Parser PartTree
further_part_at = after (is_word (codes "and")) part_at

-- a conjunction
unfoldable pub disjunct_at : Parser DisjunctTree
disjunct_at = mapped (λ x. record { first = x.0; parts = x.1 }) (both atom_at (many (is_word (codes "and")) further_part_at))

-- the variables, where there are some
abbrev pub all_of : Option (List Named) → List Named
all_of None = []
all_of (Some vars) = vars

-- the variables of the answers, none where no variable is there
unfoldable pub head_at : Parser (List Named)
head_at = mapped all_of (maybe is_variable_token (listed (is_symbol (codes ",")) (one variable)))

-- a query, from its word on
unfoldable pub query_at : Parser QueryTree
query_at =
    mapped (λ x. record { head = x.0; disjuncts = x.1 })
    (after (is_word (codes "answers")) (after (is_symbol (codes "(")) (both head_at
    (after (is_symbol (codes ")")) (after (is_word (codes "where")) (listed (is_word (codes "or")) disjunct_at))))))
