-- What a token says, whoever holds its bytes.
use Rattle.std.specs.Prelude.{ℕ, List}
use Rattle.text_tokens.specs.declared.token.TokenKind.{TokenKind}
use Rattle.text_tokens.specs.declared.token.Token.{Token}

-- a token's kind and bytes, the place of its first byte in the text, and the line of that byte
pub record Lexeme : Type 0 where
  pub kind : TokenKind
  pub text : List ℕ
  pub start : ℕ
  pub line : ℕ

-- what a token says
abbrev pub lexeme_of : Token → Lexeme
lexeme_of t = record { kind = t.kind; text = t.text.now; start = t.start; line = t.line }
