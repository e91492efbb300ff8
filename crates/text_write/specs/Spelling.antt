-- The canonical spelling of names and constants.
use Rattle.std.specs.Prelude.{ℕ, ◌+◌, Bool, not, ◌&&◌, ◌==◌, nat_lt, if◌then◌else◌, List, [], ◌∷◌, ◌++◌, length, ℤ, pos, negsuc}
use Rattle.std.specs.Fmt.{decimal}
use Rattle.std.specs.List.{list_all}
use Rattle.currency_base.specs.declared.value.Value.{Value}
use Rattle.currency_base.specs.declared.value.Value.TheVariants as value
use Rattle.text_tokens.specs.Tokens.{is_word_byte}
use Rattle.text_tokens.specs.declared.token.TokenKind.TheVariants.{Word, Negative, Text}
use Rattle.text_grammar.specs.Words.{is_reserved}
use Rattle.text_write.specs.Pieces.{Piece}

-- the bytes with each quote written twice
abbrev pub doubled : List ℕ → List ℕ
doubled [] = []
doubled (c ∷ cs) = if c == 34 then 34 ∷ 34 ∷ doubled cs else c ∷ doubled cs

-- the bytes as a string, in quotes
abbrev pub quote : List ℕ → List ℕ
quote bytes = 34 ∷ doubled bytes ++ 34 ∷ []

-- a string
abbrev pub string_piece : List ℕ → Piece
string_piece bytes = record { kind = Text; text = quote bytes }

-- the bytes are a word that may be a name: not empty, and no reserved word
abbrev pub is_plain : List ℕ → Bool
is_plain bytes = nat_lt 0 (length bytes) && list_all is_word_byte bytes && not (is_reserved bytes)

-- a name: its plain word where that is a name, else a string
unfoldable pub name_piece : List ℕ → Piece
name_piece bytes = if is_plain bytes then record { kind = Word; text = bytes } else string_piece bytes

-- a number: without leading zeros, and 0 without a minus
abbrev pub int_piece : ℤ → Piece
int_piece (pos n) = record { kind = Word; text = decimal n }
int_piece (negsuc n) = record { kind = Negative; text = 45 ∷ decimal (n + 1) }

-- a value: a text as a string, a number by its digits
unfoldable pub value_piece : Value → Piece
value_piece (value.Text bytes) = string_piece bytes
value_piece (value.Int n) = int_piece n

-- the canonical spelling of a name
abbrev pub name_text : List ℕ → List ℕ
name_text bytes = (name_piece bytes).text

-- the canonical spelling of a value
abbrev pub value_text : Value → List ℕ
value_text v = (value_piece v).text
