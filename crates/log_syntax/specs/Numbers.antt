-- What one token says in a log.
use Rattle.std.specs.Prelude.{ℕ, ◌-◌, ◌&&◌, Bool, true, false, nat_lt, nat_le, if◌then◌else◌, ℤ, pos, negsuc, Option, Some, None, option_and_then}
use Rattle.std.specs.Option.{is_some}
use Rattle.text_tokens.specs.Lexeme.{Lexeme}
use Rattle.text_tokens.specs.declared.token.TokenKind.TheVariants.{Word}
use Rattle.text_grammar.specs.Words.{number_in, same_kind, value_in}
use Rattle.currency_base.specs.Literals.{literal}
use Rattle.currency_base.specs.Number.{int_of}
use Rattle.currency_base.specs.declared.lit.Lit.{Lit}
use Rattle.currency_base.specs.declared.value.Value.{Value}

-- the place that a number counts from 1: one less, where the number is from 1 to 2^32 - 1
unfoldable pub place_of : ℤ → Option ℕ
place_of (pos n) = if nat_lt 0 n && nat_le n 4294967295 then Some (n - 1) else None
place_of (negsuc n) = None

-- the literal of a number: of the variable at the place that the number counts from 1, which is below 2^31; after a minus
-- (`negsuc n` is -(n + 1)) its negation
unfoldable pub lit_of : ℤ → Option Lit
lit_of (pos n) = if nat_lt 0 n && nat_le n 2147483648 then Some (literal (n - 1) false) else None
lit_of (negsuc n) = if nat_lt n 2147483648 then Some (literal n true) else None

-- the place that a token counts from 1, which is digits
abbrev pub place_in : Lexeme → Option ℕ
place_in t = if same_kind t.kind Word then option_and_then place_of (int_of t.text) else None

-- the literal that a token writes: digits, perhaps after a minus
abbrev pub lit_in : Lexeme → Option Lit
lit_in t = option_and_then lit_of (number_in t.kind t.text)

-- the constant that a token is: a string's content, or the number that digits, perhaps after a minus, write
abbrev pub constant_in : Lexeme → Option Value
constant_in t = value_in t.kind t.text

-- a token says something
abbrev pub says_some : {A : Type 0} → (Lexeme → Option A) → Lexeme → Bool
says_some says t = is_some (says t)
