-- The digits of a number are a word, and are read as the number.
use Rattle.std.proofs.Common.{◌≡◌, ℕ, ◌+◌, ◌<◌, ◌≤◌, ◌^◌, true, false, List, [], ◌∷◌, length, get_or, Some, pos, negsuc, neg_ℤ, refl, ap, arith}
use Rattle.std.specs.List.{list_all}
use Rattle.std.specs.Fmt.{decimal}
use Rattle.std.specs.Str.{all_ascii_digits}
use Rattle.std.specs.Str.Parse.{AllDigits, digits_value, starts_with_minus}
use Rattle.std.proofs.lemmas.Bool.{le-leb, lt-ltb, ne_eqb}
use Rattle.std.proofs.lemmas.Fmt.{digits_decimal, decimal_nonempty, digits_value-decimal}
use Rattle.std.proofs.lemmas.Int.{ints}
use Rattle.std.proofs.lemmas.Str.Parse.{IsNumeralModel, digit_at, numerals_by_value, tells_all_ascii_digits, tells_digits}
use Rattle.currency_base.specs.Number.{int_of, is_numeral}
use Rattle.currency_base.specs.declared.value.Value.TheVariants as value
use Rattle.text_tokens.specs.Tokens.{is_word_byte}
use Rattle.text_write.specs.Written.{AreWordBytes}
use Rattle.currency_base.specs.Values.{IsValue}

-- the digits and their number, in std's words
own : IsNumeralModel (λ ds. all_ascii_digits ds ≡ true) (digits_value 10)
own = numerals_by_value _ tells_all_ascii_digits

-- ---- a word

digit_of_word : (c : ℕ) → 48 ≤ c → c ≤ 57 → is_word_byte c ≡ true
digit_of_word c low high = rw (le-leb 48 c low, le-leb c 57 high) refl

digits_of_word : (ds : List ℕ) → AllDigits 10 ds → list_all is_word_byte ds ≡ true
digits_of_word [] h = refl
digits_of_word (c ∷ cs) h =
    let parts = tells_digits.parts c cs h in
    let first : is_word_byte c ≡ true = digit_of_word c (omega (arith, parts.0)) (omega (arith, parts.0)) in
    rw first (digits_of_word cs parts.1)

decimal_digits : (n : ℕ) → n < 2 ^ 64 → AllDigits 10 (decimal n)
decimal_digits n low = own.to (decimal n) (digits_decimal own n low)

-- the digits of a number are a word
pub decimal_is_word : (n : ℕ) → n < 2 ^ 64 → AreWordBytes (decimal n)
decimal_is_word n low = record { some = decimal_nonempty n low; each = digits_of_word (decimal n) (decimal_digits n low) }

-- ---- the number

decimal_is_numeral : (n : ℕ) → n < 2 ^ 64 → is_numeral (decimal n) ≡ true
decimal_is_numeral n low = rw (lt-ltb 0 (length (decimal n)) (decimal_nonempty n low), digits_decimal own n low) refl

no_minus : (n : ℕ) → n < 2 ^ 64 → starts_with_minus (decimal n) ≡ false
no_minus n low =
    let digit = digit_at (decimal n) 0 (decimal_digits n low) (decimal_nonempty n low) in
    ne_eqb (get_or (decimal n) 0 0) 45 (λ e. omega (arith, digit))

-- the digits of a number from 0 on write it
pub int_of_positive : (n : ℕ) → n < 2 ^ 63 → int_of (decimal n) ≡ Some (pos n)
unfolding int_of
int_of_positive n h =
    let low : n < 2 ^ 64 = omega arith in
    rw (no_minus n low, decimal_is_numeral n low, digits_value-decimal own n low, lt-ltb n (2 ^ 63) h) refl

-- the digits after a minus write a number below 0
pub int_of_negative : (n : ℕ) → n + 1 ≤ 2 ^ 63 → int_of (45 ∷ decimal (n + 1)) ≡ Some (negsuc n)
unfolding int_of
int_of_negative n h =
    let low : n + 1 < 2 ^ 64 = omega arith in
    let same : neg_ℤ (pos (n + 1)) ≡ negsuc n = omega (arith, ints) in
    rw (decimal_is_numeral (n + 1) low, digits_value-decimal own (n + 1) low, le-leb (n + 1) (2 ^ 63) h) (ap Some same)

-- ---- what is a value

pub positive_within : (n : ℕ) → IsValue (value.Int (pos n)) → n < 2 ^ 63
positive_within n h = omega (arith, ints, h)

pub negative_within : (n : ℕ) → IsValue (value.Int (negsuc n)) → n + 1 ≤ 2 ^ 63
negative_within n h = omega (arith, ints, h)
