-- What `parse` reads, in the words of `number_up_to`.
use Rattle.std.proofs.Common.{rules, ◌≤◌, ◌∙◌, ◌+◌, ◌-◌, ◌*◌, ℕ, ◌^◌, ◌<◌, ◌≡◌, Bool, true, false, cond, List, [], ◌∷◌, length, get_or, Option, Some, None, Result, Ok, Err, arith, refl}
use Rattle.std.specs.Prelude.{◌&&◌, nat_le, nat_lt}
use Rattle.std.specs.Str.{all_ascii_digits}
use Rattle.std.specs.Str.Parse.{ParsesUnsigned, digits_value, digits_value_after}
use Rattle.std.proofs.lemmas.Str.Parse.{FoldsDigits, IsNumeralModel, digits_value-take-le, numerals_by_value, parse_plain, tells_all_ascii_digits}
use Rattle.program_words.specs.Numbers.{number_up_to}
use borrow.Author.Tests.{leb-true, lt-ltb, ltb-true}

-- the digits and their number, in std's words
own : IsNumeralModel (λ ds. all_ascii_digits ds ≡ true) (digits_value 10)
own = numerals_by_value _ tells_all_ascii_digits

-- a text that begins past '0' is not empty
begins : (text : List ℕ) → 48 < get_or text 0 0 → 0 < length text
begins [] low = absurd (omega arith)
begins (c ∷ cs) low = omega arith

-- the number that was read is the digits' own
pub number_read : {E : Type 0} (text : List ℕ) (most n : ℕ) (r : Result ℕ E) → ParsesUnsigned 64 10 text r → r ≡ Ok n
    → 48 < get_or text 0 0
    → cond (nat_le n most) (Some n) None ≡ number_up_to most text
number_read text most n r parsed is low =
    let plain = rw is at (parse_plain own 64 text r parsed (λ plus. absurd (omega arith))) in
    rw (lt-ltb 48 (get_or text 0 0) low, plain.0.0, plain.1) refl

-- a text that wasn't read writes no number up to `most`
pub nothing_read : {E : Type 0} (text : List ℕ) (most : ℕ) (r : Result ℕ E) (e : E) → ParsesUnsigned 64 10 text r
    → r ≡ Err e → most < 2 ^ 64
    → 48 < get_or text 0 0 → None ≡ number_up_to most text
nothing_read text most r e parsed is few low =
    rw (lt-ltb 48 (get_or text 0 0) low) (by (all_ascii_digits text) (nat_le (digits_value 10 text) most) refl refl)
  where
    by : (digits small : Bool) → all_ascii_digits text ≡ digits → nat_le (digits_value 10 text) most ≡ small
        → ◌≡◌ {A = Option ℕ} None (cond (digits && small) (Some (digits_value 10 text)) None)
    by false small d s = refl
    by true false d s = refl
    by true true d s =
        let low_value = leb-true (digits_value 10 text) most s in
        let refused = rw is at (parse_plain own 64 text r parsed (λ plus. absurd (omega arith))) in
        absurd (refused (d, begins text low, omega arith))

folds : FoldsDigits (digits_value_after 10)
folds = search rules

-- digits with no zero in front write 1 or more
one_or_more : (text : List ℕ) → 48 < get_or text 0 0 → all_ascii_digits text ≡ true → 1 ≤ digits_value 10 text
one_or_more [] low digits = absurd (omega arith)
one_or_more (c ∷ cs) low digits =
    let digit = (tells_all_ascii_digits.parts c cs digits).0 in
    let first : digits_value 10 (c ∷ []) ≡ 0 * 10 + (c - 48) = folds.more 0 c [] digit ∙ folds.empty (0 * 10 + (c - 48)) in
    let whole : digits_value 10 (c ∷ []) ≤ digits_value 10 (c ∷ cs) = digits_value-take-le 10 (c ∷ cs) 1 (omega arith) in
    omega arith

-- a number that is read is in its range
pub number_in_range : (most n : ℕ) (text : List ℕ) → number_up_to most text ≡ Some n → (1 ≤ n) × (n ≤ most)
number_in_range most n text e = by (nat_lt 48 (get_or text 0 0)) (all_ascii_digits text)
    (nat_le (digits_value 10 text) most) refl refl refl e
  where
    by : (late digits small : Bool) → nat_lt 48 (get_or text 0 0) ≡ late → all_ascii_digits text ≡ digits
        → nat_le (digits_value 10 text) most ≡ small
        → cond (late && digits && small) (Some (digits_value 10 text)) None ≡ Some n → (1 ≤ n) × (n ≤ most)
    by true true true l d s is =
        let same : digits_value 10 text ≡ n = cc in
        rw (← same) (one_or_more text (ltb-true 48 (get_or text 0 0) l) d, leb-true (digits_value 10 text) most s)
    by false digits small l d s is = cc
    by true false small l d s is = cc
    by true true false l d s is = cc
