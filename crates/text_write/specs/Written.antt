-- What the tokens of a written text are.
use Rattle.std.specs.Prelude.{◌≡◌, ◌<◌, ℕ, true, List, ◌∷◌, length, map, Contains, IsUtf8, codes, []}
use Rattle.std.specs.List.{list_all}
use Rattle.text_tokens.specs.Lexeme.{Lexeme}
use Rattle.text_tokens.specs.Tokens.{TokensOf, is_word_byte}
use Rattle.text_tokens.specs.declared.token.TokenKind.{TokenKind}
use Rattle.text_tokens.specs.declared.token.TokenKind.TheVariants as kind
use Rattle.text_write.specs.Pieces.{Piece, piece_of, text_of}
use Rattle.text_write.specs.Spelling.{quote}

-- the symbols of the languages
abbrev pub symbols : List (List ℕ)
symbols =
    codes ";" ∷ codes "," ∷ codes ":" ∷ codes "(" ∷ codes ")" ∷ codes "." ∷ codes "<=" ∷ codes ">=" ∷ codes "!="
    ∷ codes "<" ∷ codes ">" ∷ codes "=" ∷ []

-- bytes of a word: one or more, and each a word's
pub record AreWordBytes (bytes : List ℕ) : Type 0 where
  pub some : 0 < length bytes
  pub each : list_all is_word_byte bytes ≡ true

-- bytes of a word after a minus
pub record IsNegative (text : List ℕ) : Type 0 where
  pub digits : List ℕ
  pub is_digits : AreWordBytes digits
  pub text_is : text ≡ 45 ∷ digits

-- a string of text
pub record IsString (text : List ℕ) : Type 0 where
  pub bytes : List ℕ
  pub utf8 : IsUtf8 bytes
  pub text_is : text ≡ quote bytes

-- bytes that are a whole token of this kind
abbrev pub IsOfKind : TokenKind → List ℕ → Type 0
IsOfKind kind.Word text = AreWordBytes text
IsOfKind kind.Negative text = IsNegative text
IsOfKind kind.Text text = IsString text
IsOfKind kind.Symbol text = Contains symbols text
IsOfKind kind.Fault text = ⊥

-- a piece that is a whole token
pub record IsPiece (p : Piece) : Type 0 where
  pub whole : IsOfKind p.kind p.text

-- the text of these pieces has just them as its tokens
pub record HasTokens (pieces : List Piece) : Type 0 where
  pub utf8 : IsUtf8 (text_of pieces)
  pub lexemes : List Lexeme
  pub tokens : TokensOf (text_of pieces) lexemes
  pub same : map piece_of lexemes ≡ pieces
