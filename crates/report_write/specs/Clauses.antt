-- Clauses of verdicts that name nothing of a specification.
use Rattle.std.specs.Prelude.{ℕ, List, ◌∷◌, ◌++◌, codes}
use Rattle.std.specs.Fmt.{decimal}
use Rattle.currency_base.specs.declared.value.Value.{Value}
use Rattle.log_write.specs.Pieces.{word, symbol, many_pieces, values_pieces}
use Rattle.text_write.specs.Pieces.{Piece, word_piece}

-- a clause of one word
abbrev pub word_clause : List ℕ → List Piece
word_clause text = word text ++ symbol (codes ";")

-- "answer" values ";"
abbrev pub answer_pieces : List Value → List Piece
answer_pieces tuple = word (codes "answer") ++ values_pieces tuple ++ symbol (codes ";")

-- the certain answers, a clause each
abbrev pub answers_pieces : List (List Value) → List Piece
answers_pieces tuples = word (codes "answers") ++ symbol (codes ";") ++ many_pieces answer_pieces tuples

-- the number of new clauses at which a search was cut off
abbrev pub undecided_pieces : ℕ → List Piece
undecided_pieces counted = word (codes "undecided") ++ (word_piece (decimal counted) ∷ symbol (codes ";"))
