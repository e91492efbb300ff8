-- What the pieces of names, strings and values say, and that they are whole tokens.
use Rattle.std.proofs.Common.{◌≡◌, ℕ, ◌+◌, ◌<◌, ◌^◌, Bool, true, false, List, length, Some, IsUtf8, pos, negsuc, refl, ap, ◌∙◌, arith}
use Rattle.std.specs.Prelude.{if◌then◌else◌, not, nat_lt, ◌&&◌, option_map}
use Rattle.std.specs.List.{list_all}
use Rattle.std.proofs.lemmas.Bool.{and_parts, ltb-true, not-true}
use Rattle.std.proofs.lemmas.Str.{is_utf8-from_IsUtf8}
use Rattle.currency_base.specs.declared.value.Value.{Value}
use Rattle.currency_base.specs.declared.value.Value.TheVariants as value
use Rattle.text_tokens.specs.Lexeme.{Lexeme}
use Rattle.text_tokens.specs.Tokens.{is_word_byte}
use Rattle.text_tokens.specs.declared.token.TokenKind.TheVariants.{Word, Text}
use Rattle.text_grammar.specs.Words.{as_text, constant, int_value, is_reserved, name_in, named, on_line, quoted, string_in, text_value, value_in, value_on_line}
use Rattle.text_write.specs.Pieces.{Piece, piece_of}
use Rattle.text_write.specs.Spelling.{is_plain, name_piece, quote, string_piece, value_piece}
use Rattle.text_write.specs.Written.{IsPiece}
use Rattle.currency_base.specs.Values.{IsValue}
use Rattle.text_write.proofs.Quotes.{undoubled}
use Rattle.text_write.proofs.Numbers.{decimal_is_word, int_of_negative, int_of_positive, negative_within, positive_within}

-- ---- what they say

text_says : (bytes : List ℕ) → IsUtf8 bytes → as_text bytes ≡ Some bytes
text_says bytes u = rw (is_utf8-from_IsUtf8 bytes u) refl

string_says : (bytes : List ℕ) → IsUtf8 bytes → string_in Text (quote bytes) ≡ Some bytes
string_says bytes u = ap as_text (undoubled bytes) ∙ text_says bytes u

name_says_by : (bytes : List ℕ) (b : Bool) → is_plain bytes ≡ b → IsUtf8 bytes
    → (let p : Piece = if b then record { kind = Word; text = bytes } else string_piece bytes in name_in p.kind
    p.text ≡ Some bytes)
name_says_by bytes true e u =
    let free : is_reserved bytes ≡ false = not-true (is_reserved bytes) (and_parts _ _ e).1 in
    rw free (text_says bytes u)
name_says_by bytes false e u = string_says bytes u

name_says : (bytes : List ℕ) → IsUtf8 bytes → name_in (name_piece bytes).kind (name_piece bytes).text ≡ Some bytes
unfolding name_piece
name_says bytes u = name_says_by bytes (is_plain bytes) refl u

value_says : (v : Value) → IsValue v → value_in (value_piece v).kind (value_piece v).text ≡ Some v
unfolding value_piece
value_says (value.Text bytes) u = ap (λ o. option_map text_value o) (string_says bytes u)
value_says (value.Int (pos n)) h = ap (λ o. option_map int_value o) (int_of_positive n (positive_within n h))
value_says (value.Int (negsuc n)) h = ap (λ o. option_map int_value o) (int_of_negative n (negative_within n h))

-- a name's token is read as the name
pub name_read : (bytes : List ℕ) → IsUtf8 bytes → (t : Lexeme) → piece_of t ≡ name_piece bytes → named t ≡ Some
    (on_line t.line bytes)
name_read bytes u t e = ap (λ (p : Piece). option_map (on_line t.line) (name_in p.kind p.text)) e
    ∙ ap (λ o. option_map (on_line t.line) o) (name_says bytes u)

-- a string's token is read as its content
pub string_read : (bytes : List ℕ) → IsUtf8 bytes → (t : Lexeme) → piece_of t ≡ string_piece bytes → quoted t ≡ Some
    (on_line t.line bytes)
string_read bytes u t e = ap (λ (p : Piece). option_map (on_line t.line) (string_in p.kind p.text)) e
    ∙ ap (λ o. option_map (on_line t.line) o) (string_says bytes u)

-- a value's token is read as the value
pub value_read : (v : Value) → IsValue v → (t : Lexeme) → piece_of t ≡ value_piece v → constant t ≡ Some (value_on_line t.line v)
value_read v h t e = ap (λ (p : Piece). option_map (value_on_line t.line) (value_in p.kind p.text)) e
    ∙ ap (λ o. option_map (value_on_line t.line) o) (value_says v h)

-- ---- that they are whole

-- a string's piece is whole
pub string_is_whole : (bytes : List ℕ) → IsUtf8 bytes → IsPiece (string_piece bytes)
string_is_whole bytes u = record { whole = record { bytes = bytes; utf8 = u; text_is = refl } }

name_is_whole_by : (bytes : List ℕ) (b : Bool) → is_plain bytes ≡ b → IsUtf8 bytes
    → IsPiece (if b then record { kind = Word; text = bytes } else string_piece bytes)
name_is_whole_by bytes true e u =
    let parts = and_parts (nat_lt 0 (length bytes) && list_all is_word_byte bytes) (not (is_reserved bytes)) e in
    let word = and_parts (nat_lt 0 (length bytes)) (list_all is_word_byte bytes) parts.0 in
    record { whole = record { some = ltb-true 0 (length bytes) word.0; each = word.1 } }
name_is_whole_by bytes false e u = string_is_whole bytes u

-- a name's piece is whole
pub name_is_whole : (bytes : List ℕ) → IsUtf8 bytes → IsPiece (name_piece bytes)
unfolding name_piece
name_is_whole bytes u = name_is_whole_by bytes (is_plain bytes) refl u

-- a value's piece is whole
pub value_is_whole : (v : Value) → IsValue v → IsPiece (value_piece v)
unfolding value_piece
value_is_whole (value.Text bytes) u = string_is_whole bytes u
value_is_whole (value.Int (pos n)) h = let low : n < 2 ^ 64 = omega (arith, positive_within n h) in record {
  whole =
      decimal_is_word n low;
}
value_is_whole (value.Int (negsuc n)) h =
    let low : n + 1 < 2 ^ 64 = omega (arith, negative_within n h) in
    record { whole = record { digits = _; is_digits = decimal_is_word (n + 1) low; text_is = refl } }
