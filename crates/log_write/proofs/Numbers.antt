-- Written numbers, literals and constants are read as themselves.
use Rattle.std.proofs.Common.{◌≡◌, ℕ, ◌+◌, ◌-◌, ◌<◌, ◌^◌, Bool, true, false, cond, [], ◌∷◌, refl, ap, ◌∙◌, arith, Option, Some, None, option_map, pos, negsuc}
use Rattle.std.specs.Prelude.{option_and_then}
use Rattle.std.proofs.lemmas.Bool.{le-leb, lt-ltb}
use Rattle.std.proofs.lemmas.Int.{ints}
use Rattle.text_tokens.specs.Lexeme.{Lexeme}
use Rattle.text_grammar.specs.Words.{value_in, value_on_line}
use Rattle.text_grammar.specs.declared.named.Const.{Const}
use Rattle.currency_base.specs.Literals.{is_negative, literal, var_of}
use Rattle.currency_base.specs.declared.lit.Lit.{Lit}
use Rattle.currency_base.specs.declared.value.Value.{Value}
use Rattle.currency_base.specs.declared.value.Value.TheVariants as value
use Rattle.text_write.specs.Pieces.{Piece, piece_of}
use Rattle.text_write.specs.Spelling.{value_piece}
use Rattle.currency_base.specs.Values.{IsValue}
use Rattle.text_write.proofs.Numbers.{int_of_negative, int_of_positive}
use Rattle.text_write.proofs.Readings.{value_is_whole, value_read}
use Rattle.log_syntax.specs.Grammar.{SpellsConstant, SpellsLit, SpellsNumber}
use Rattle.log_syntax.specs.Numbers.{constant_in, lit_in, lit_of, place_in, place_of}
use Rattle.log_write.specs.Pieces.{lit_pieces, number_pieces}
use Rattle.refutation_log.specs.Writable.{IsLit, IsPlace}
use Rattle.log_write.proofs.Texts.{IsText, text_says}

-- ---- constants

value_said : (line : ℕ) (o : Option Value) (c : Const) → option_map (value_on_line line) o ≡ Some c → o ≡ Some c.value
value_said line None c e = absurd (cc)
value_said line (Some v) c e = ap (λ (o : Option Const). option_map (λ c. c.value) o) e

pub text_constant : (v : Value) → IsValue v → IsText (SpellsConstant v) (value_piece v ∷ [])
text_constant v h = text_says constant_in v (value_piece v) (value_is_whole v h)
    (λ t e. value_said t.line (value_in t.kind t.text) (value_on_line t.line v) (value_read v h t e))

-- ---- numbers

small_value : (n : ℕ) → n < 2 ^ 63 → IsValue (value.Int (pos n))
small_value n h = (omega (arith, ints), omega (arith, ints))

small_negative : (n : ℕ) → n < 2 ^ 63 → IsValue (value.Int (negsuc n))
small_negative n h = (omega (arith, ints), omega (arith, ints))

place_is : (n : ℕ) → IsPlace n → place_of (pos (n + 1)) ≡ Some n
unfolding place_of
place_is n h =
    let same : n + 1 - 1 ≡ n = omega arith in
    rw (lt-ltb 0 (n + 1) (omega arith), le-leb (n + 1) 4294967295 (omega arith)) (ap Some same)

-- what a token that has a piece says, whatever its place
abbrev lexeme_with : Piece → Lexeme
lexeme_with p = record { kind = p.kind; text = p.text; start = 0; line = 0 }

number_said : (n : ℕ) → IsPlace n → (t : Lexeme) → piece_of t ≡ value_piece (value.Int (pos (n + 1))) → place_in t ≡ Some n
unfolding value_piece
number_said n h t e =
    ap (λ (p : Piece). place_in (lexeme_with p)) e
    ∙ ap (option_and_then place_of) (int_of_positive (n + 1) (omega arith))
    ∙ place_is n h

pub text_number : (n : ℕ) → IsPlace n → IsText (SpellsNumber n) (number_pieces n)
text_number n h = text_says place_in n (value_piece (value.Int (pos (n + 1))))
    (value_is_whole (value.Int (pos (n + 1))) (small_value (n + 1) (omega arith))) (number_said n h)

-- ---- literals

positive_is : (n : ℕ) → n < 2 ^ 31 → lit_of (pos (n + 1)) ≡ Some (literal n false)
unfolding lit_of
positive_is n h =
    let same : n + 1 - 1 ≡ n = omega arith in
    rw (lt-ltb 0 (n + 1) (omega arith), le-leb (n + 1) 2147483648 (omega arith)) (ap (λ (v : ℕ). Some (literal v false)) same)

negative_is : (n : ℕ) → n < 2 ^ 31 → lit_of (negsuc n) ≡ Some (literal n true)
unfolding lit_of
negative_is n h = rw (lt-ltb n 2147483648 (omega arith)) refl

positive_said : (n : ℕ) → n < 2 ^ 31 → (t : Lexeme) → piece_of t ≡ value_piece (value.Int (pos (n + 1)))
    → lit_in t ≡ Some (literal n false)
unfolding value_piece
positive_said n h t e =
    ap (λ (p : Piece). lit_in (lexeme_with p)) e
    ∙ ap (option_and_then lit_of) (int_of_positive (n + 1) (omega arith))
    ∙ positive_is n h

negative_said : (n : ℕ) → n < 2 ^ 31 → (t : Lexeme) → piece_of t ≡ value_piece (value.Int (negsuc n))
    → lit_in t ≡ Some (literal n true)
unfolding value_piece
negative_said n h t e =
    ap (λ (p : Piece). lit_in (lexeme_with p)) e
    ∙ ap (option_and_then lit_of) (int_of_negative n (omega arith))
    ∙ negative_is n h

text_signed : (l : Lit) (n : ℕ) → n < 2 ^ 31 → (negative : Bool) → literal n negative ≡ l
    → IsText (SpellsLit l) (value_piece (value.Int (cond negative (negsuc n) (pos (n + 1)))) ∷ [])
text_signed l n h true e =
    text_says lit_in l (value_piece (value.Int (negsuc n)))
    (value_is_whole (value.Int (negsuc n)) (small_negative n (omega arith)))
    (λ t f. negative_said n h t f ∙ ap Some e)
text_signed l n h false e = text_says lit_in l (value_piece (value.Int (pos (n + 1))))
    (value_is_whole (value.Int (pos (n + 1))) (small_value (n + 1) (omega arith)))
    (λ t f. positive_said n h t f ∙ ap Some e)

pub text_lit : ((l : Lit) → literal (var_of l) (is_negative l) ≡ l) → (l : Lit) → IsLit l → IsText (SpellsLit l) (lit_pieces l)
text_lit parts l h = text_signed l (var_of l) h (is_negative l) (parts l)
