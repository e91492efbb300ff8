-- The tokens of a text.
use Rattle.std.specs.Prelude.{◌≡◌, ◌⊎◌, ℕ, ◌+◌, ◌<◌, ◌==◌, nat_le, min, count_by, Bool, true, false, ◌&&◌, ◌||◌, if◌then◌else◌, List, [], ◌∷◌, ◌++◌, length, take, take_while, Option, Some, None, option_map, IsUtf8}
use Rattle.std.specs.Str.Lossy.{utf8_valid_len}
use Rattle.text_tokens.specs.Lexeme.{Lexeme}
use Rattle.text_tokens.specs.declared.token.TokenKind.{TokenKind}
use Rattle.text_tokens.specs.declared.token.TokenKind.TheVariants.{Word, Negative, Text, Symbol, Fault}

-- ---- bytes

-- space, tab, CR or LF
abbrev pub is_blank : ℕ → Bool
is_blank c = (c == 32) || (c == 9) || (c == 13) || (c == 10)

-- an ASCII letter, a digit or `_`
abbrev pub is_word_byte : ℕ → Bool
is_word_byte c = (nat_le 48 c && nat_le c 57) || (nat_le 65 c && nat_le c 90) || (nat_le 97 c && nat_le c 122) || (c == 95)

-- `;` `,` `:` `(` `)` `.` `<` `>` `=`, the symbols of one byte
abbrev pub is_symbol_byte : ℕ → Bool
is_symbol_byte c = (c == 59) || (c == 44) || (c == 58) || (c == 40) || (c == 41) || (c == 46) || (c == 60)
    || (c == 62) || (c == 61)

-- `<`, `>` or `!`, which begin a symbol of two bytes where `=` follows
abbrev pub is_before_equals : ℕ → Bool
is_before_equals c = (c == 60) || (c == 62) || (c == 33)

-- the text goes on with a byte that passes the test
abbrev pub begins_with : (ℕ → Bool) → List ℕ → Bool
begins_with test [] = false
begins_with test (c ∷ rest) = test c

-- ---- what stands between tokens

-- the text after the white space and comments at its front; `inside` says that a comment is open, which ends before an LF
abbrev pub after_gap : Bool → List ℕ → List ℕ
after_gap inside [] = []
after_gap false (c ∷ cs) = if is_blank c then after_gap false cs else (if c == 35 then after_gap true cs else c ∷ cs)
after_gap true (c ∷ cs) = if c == 10 then after_gap false cs else after_gap true cs

-- ---- one token

-- how many bytes a string has after its opening quote, the closing one included, where it is closed; `quoted` says
-- that the byte before was a quote, which closes the string unless another follows
abbrev pub string_len_after : Bool → List ℕ → Option ℕ
string_len_after false [] = None
string_len_after true [] = Some 0
string_len_after false (c ∷ cs) = option_map (λ n. n + 1) (string_len_after (c == 34) cs)
string_len_after true (c ∷ cs) = if c == 34 then option_map (λ n. n + 1) (string_len_after false cs) else Some 0

-- the string at the front of a text whose opening quote is taken off: closed, or a fault that goes to the text's end
abbrev pub string_token : List ℕ → Option ℕ → TokenKind × List ℕ
string_token rest None = (Fault, 34 ∷ rest)
string_token rest (Some n) = (Text, 34 ∷ take n rest)

-- the token that begins with the byte c, before the text `rest`
abbrev pub token_at : ℕ → List ℕ → TokenKind × List ℕ
token_at c rest =
    if is_word_byte c then (Word, c ∷ take_while is_word_byte rest) else (
    if (c == 45) && begins_with is_word_byte rest then (Negative, c ∷ take_while is_word_byte rest) else (
    if c == 34 then string_token rest (string_len_after false rest) else (
    if is_before_equals c && begins_with (λ x. x == 61) rest then (Symbol, c ∷ 61 ∷ []) else (
    if is_symbol_byte c then (Symbol, c ∷ []) else (Fault, c ∷ [])))))

-- ---- all tokens

-- the line of the byte after these: one more than the number of LF among them, and 4294967295 where that is more
abbrev pub line_after : List ℕ → ℕ
line_after before = min (count_by (λ c. c == 10) before + 1) 4294967295

-- a text that follows the bytes `before` has these tokens, to its end
abbrev pub AreTokens : List ℕ → List ℕ → List Lexeme → Type 0
AreTokens before text [] = after_gap false text ≡ []
AreTokens before text (t ∷ ts) =
    (gap : List ℕ) × (c : ℕ) × (cs : List ℕ) × (rest : List ℕ)
    × (text ≡ gap ++ c ∷ cs) × (after_gap false text ≡ c ∷ cs)
    × (token_at c cs ≡ (t.kind, t.text)) × (c ∷ cs ≡ t.text ++ rest)
    × (t.start ≡ length (before ++ gap)) × (t.line ≡ line_after (before ++ gap))
    × AreTokens (before ++ gap ++ t.text) rest ts

-- the byte order mark at the front of a text, if it has one
abbrev pub mark_of : List ℕ → List ℕ
mark_of (a ∷ b ∷ c ∷ rest) = if (a == 0xEF) && (b == 0xBB) && (c == 0xBF) then a ∷ b ∷ c ∷ [] else []
mark_of _ = []

-- the text without that mark
abbrev pub unmarked : List ℕ → List ℕ
unmarked (a ∷ b ∷ c ∷ rest) = if (a == 0xEF) && (b == 0xBB) && (c == 0xBF) then rest else a ∷ b ∷ c ∷ rest
unmarked other = other

-- the tokens of a document
abbrev pub TokensOf : List ℕ → List Lexeme → Type 0
TokensOf source found = AreTokens (mark_of source) (unmarked source) found

-- the line of the first byte at which a text stops being UTF-8
abbrev pub first_wrong_line : List ℕ → ℕ
first_wrong_line source = line_after (take (utf8_valid_len source) source)

-- a token has at least one byte, and is UTF-8 unless it is a fault
abbrev pub HoldsText : Lexeme → Type 0
HoldsText t = (0 < length t.text) × ((t.kind ≡ Fault) ⊎ IsUtf8 t.text)
