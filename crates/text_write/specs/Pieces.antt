-- Tokens as they are written, and the text of several, in the canonical spacing: one blank between two tokens, but none
-- before `;` `,` `:` `)` and `.`, and none after `(` and `.`; a line ends after each `;`.
use Rattle.std.specs.Prelude.{ℕ, Bool, ◌||◌, ◌&&◌, if◌then◌else◌, List, [], ◌∷◌, ◌++◌, Option, Some, None, codes}
use Rattle.std.specs.Str.{bytes_eq}
use Rattle.text_tokens.specs.Lexeme.{Lexeme}
use Rattle.text_tokens.specs.declared.token.TokenKind.{TokenKind}
use Rattle.text_tokens.specs.declared.token.TokenKind.TheVariants.{Word, Symbol}
use Rattle.text_grammar.specs.Words.{same_kind}

-- a token without its place: its kind and its bytes
pub record Piece : Type 0 where
  pub kind : TokenKind
  pub text : List ℕ

-- what a token says, wherever it stands
abbrev pub piece_of : Lexeme → Piece
piece_of t = record { kind = t.kind; text = t.text }

-- a fixed word of a grammar
abbrev pub word_piece : List ℕ → Piece
word_piece text = record { kind = Word; text = text }

-- a symbol
abbrev pub symbol_piece : List ℕ → Piece
symbol_piece text = record { kind = Symbol; text = text }

-- the piece is this very symbol
abbrev pub is_the_symbol : List ℕ → Piece → Bool
is_the_symbol text p = same_kind p.kind Symbol && bytes_eq p.text text

-- `;`, which ends a line
abbrev pub ends_line : Piece → Bool
ends_line p = is_the_symbol (codes ";") p

-- `(` or `.`, which no blank follows
abbrev pub is_tight_after : Piece → Bool
is_tight_after p = is_the_symbol (codes "(") p || is_the_symbol (codes ".") p

-- `;` `,` `:` `)` or `.`, which no blank precedes
abbrev pub is_tight_before : Piece → Bool
is_tight_before p =
    is_the_symbol (codes ";") p || is_the_symbol (codes ",") p || is_the_symbol (codes ":") p || is_the_symbol
    (codes ")") p || is_the_symbol (codes ".") p

-- the blank between a piece and the next one, where there is one; a line that has ended needs none
abbrev pub blank_between : Piece → Piece → List ℕ
blank_between p next = if ends_line p || is_tight_after p || is_tight_before next then [] else 32 ∷ []

-- the blank before a piece that follows another one, or that is the first
abbrev pub blank_before : Option Piece → Piece → List ℕ
blank_before None next = []
blank_before (Some p) next = blank_between p next

-- the end of a line that stands after a piece, if it ends one
abbrev pub line_end : Piece → List ℕ
line_end p = if ends_line p then 10 ∷ [] else []

-- the text of pieces that follow one, or that are the first
abbrev pub text_after : Option Piece → List Piece → List ℕ
text_after before [] = []
text_after before (p ∷ ps) = blank_before before p ++ p.text ++ line_end p ++ text_after (Some p) ps

-- the text of pieces
unfoldable pub text_of : List Piece → List ℕ
text_of pieces = text_after None pieces
