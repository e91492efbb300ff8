-- How the tokens of a text are found one by one.
use Rattle.std.specs.Prelude.{◌≡◌, ℕ, ◌+◌, ◌<◌, ◌≤◌, false, List, [], ◌∷◌, length, take, drop}
use Rattle.text_tokens.specs.Lexeme.{Lexeme}
use Rattle.text_tokens.specs.Tokens.{after_gap, token_at, line_after}
use Rattle.text_tokens.specs.declared.token.TokenKind.{TokenKind}
use Rattle.text_tokens.specs.declared.token.TokenKind.TheVariants.{Fault}

-- the kind and bytes of the token at the front of a text that is not empty
abbrev pub first_token : List ℕ → TokenKind × List ℕ
first_token [] = (Fault, [])
first_token (c ∷ cs) = token_at c cs

-- where the token ends
abbrev pub end_of : Lexeme → ℕ
end_of t = t.start + length t.text

-- this is the first token from the place `at` on
pub record IsNext (source : List ℕ) (at : ℕ) (t : Lexeme) : Type 0 where
  pub behind : at ≤ t.start
  pub longer : t.start < end_of t
  pub within : end_of t ≤ length source
  pub gap : after_gap false (drop at source) ≡ drop t.start source
  pub token : first_token (drop t.start source) ≡ (t.kind, t.text)
  pub bytes : t.text ≡ take (length t.text) (drop t.start source)
  pub line : t.line ≡ line_after (take t.start source)
