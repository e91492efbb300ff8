-- What one token says.
use Rattle.std.specs.Prelude.{ℕ, Bool, true, false, not, ◌&&◌, ◌||◌, ◌==◌, if◌then◌else◌, List, [], ◌∷◌, ℤ, nat_le, Option, Some, None, option_map, codes}
use Rattle.std.specs.Str.{bytes_eq, is_utf8}
use Rattle.text_tokens.specs.Lexeme.{Lexeme}
use Rattle.text_tokens.specs.declared.token.TokenKind.{TokenKind}
use Rattle.text_tokens.specs.declared.token.TokenKind.TheVariants.{Word, Negative, Text, Symbol, Fault}
use Rattle.currency_base.specs.Number.{int_of}
use Rattle.currency_base.specs.declared.value.Value.{Value}
use Rattle.currency_base.specs.declared.value.Value.TheVariants as value
use Rattle.text_grammar.specs.declared.named.Const.{Const}
use Rattle.text_grammar.specs.declared.named.Named.{Named}

-- ---- fixed words and symbols

-- the two kinds are one
abbrev pub same_kind : TokenKind → TokenKind → Bool
same_kind Word Word = true
same_kind Negative Negative = true
same_kind Text Text = true
same_kind Symbol Symbol = true
same_kind Fault Fault = true
same_kind _ _ = false

-- the token is of this kind and has these very bytes
abbrev pub is_fixed : TokenKind → List ℕ → Lexeme → Bool
is_fixed kind text t = same_kind t.kind kind && bytes_eq t.text text

-- the token is this very word
abbrev pub is_word : List ℕ → Lexeme → Bool
is_word text t = is_fixed Word text t

-- the token is this very symbol
abbrev pub is_symbol : List ℕ → Lexeme → Bool
is_symbol text t = is_fixed Symbol text t

-- ---- names

-- the reserved words, which are no names: `if`, `false` and `orders`
abbrev pub is_reserved : List ℕ → Bool
is_reserved word = bytes_eq word (codes "if") || bytes_eq word (codes "false") || bytes_eq word (codes "orders")

-- the bytes of a string without the quotes that are not its content: the first of each two that stand together, and the
-- one that closes the string; `quoted` says that the byte before was such a quote
abbrev pub unquoted : Bool → List ℕ → List ℕ
unquoted quoted [] = []
unquoted quoted (c ∷ cs) = if (c == 34) && not quoted then unquoted true cs else c ∷ unquoted false cs

-- the content of a string, whose first byte is the quote that opens it
abbrev pub content : List ℕ → List ℕ
content [] = []
content (c ∷ cs) = unquoted false cs

-- bytes that are text
abbrev pub as_text : List ℕ → Option (List ℕ)
as_text bytes = if is_utf8 bytes then Some bytes else None

-- the content of a string token
abbrev pub string_in : TokenKind → List ℕ → Option (List ℕ)
string_in Text text = as_text (content text)
string_in _ text = None

-- the name that a token is: a word that isn't reserved, or a string's content
abbrev pub name_in : TokenKind → List ℕ → Option (List ℕ)
name_in Word text = if is_reserved text then None else as_text text
name_in kind text = string_in kind text

-- a name on a line
abbrev pub on_line : ℕ → List ℕ → Named
on_line line bytes = record { name = bytes; line = line }

-- the name that a token spells, on the token's line
abbrev pub named : Lexeme → Option Named
named t = option_map (on_line t.line) (name_in t.kind t.text)

-- the content that a string token spells, on the token's line
abbrev pub quoted : Lexeme → Option Named
quoted t = option_map (on_line t.line) (string_in t.kind t.text)

-- ---- variables and constants

-- an ASCII letter or `_`
abbrev pub is_letter : ℕ → Bool
is_letter c = (nat_le 65 c && nat_le c 90) || (nat_le 97 c && nat_le c 122) || (c == 95)

-- the word begins with a letter or `_`
abbrev pub begins_with_letter : List ℕ → Bool
begins_with_letter [] = false
begins_with_letter (c ∷ cs) = is_letter c

-- the word is a variable: it begins with a letter or `_`, is not reserved and is not `_`
abbrev pub is_variable : List ℕ → Bool
is_variable word = begins_with_letter word && not (is_reserved word) && not (bytes_eq word (codes "_"))

-- the variable that a token of this kind is
abbrev pub variable_in : TokenKind → List ℕ → Option (List ℕ)
variable_in Word text = if is_variable text then as_text text else None
variable_in kind text = None

-- the token is a word that is a variable
abbrev pub is_variable_token : Lexeme → Bool
is_variable_token t = same_kind t.kind Word && is_variable t.text

-- the variable that a token spells, on the token's line
abbrev pub variable : Lexeme → Option Named
variable t = option_map (on_line t.line) (variable_in t.kind t.text)

-- the number that a token of this kind writes
abbrev pub number_in : TokenKind → List ℕ → Option ℤ
number_in Word text = int_of text
number_in Negative text = int_of text
number_in kind text = None

-- an int as a value
abbrev pub int_value : ℤ → Value
int_value n = value.Int n

-- a text as a value
abbrev pub text_value : List ℕ → Value
text_value bytes = value.Text bytes

-- the value that a token of this kind is: a string's content, or the number that digits, perhaps after a minus, write
abbrev pub value_in : TokenKind → List ℕ → Option Value
value_in Text text = option_map text_value (string_in Text text)
value_in kind text = option_map int_value (number_in kind text)

-- a value on a line
abbrev pub value_on_line : ℕ → Value → Const
value_on_line line v = record { value = v; line = line }

-- the constant that a token spells, on the token's line
abbrev pub constant : Lexeme → Option Const
constant t = option_map (value_on_line t.line) (value_in t.kind t.text)
