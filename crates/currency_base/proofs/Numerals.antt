-- What `parse` reads, in the words of `int_of`.
use Rattle.std.proofs.Common.{ℕ, zero, suc, ◌^◌, ◌≡◌, Bool, true, false, cond, List, [], ◌∷◌, length, drop, get_or, Some, None, Result, Ok, Err, IsUtf8, ℤ, arith, refl, ltb}
use Rattle.std.specs.Prelude.{◌&&◌}
use Rattle.std.specs.Result.{OkIff, result_ok}
use Rattle.std.specs.Str.{IsAscii, all_ascii_digits}
use Rattle.std.specs.Str.Parse.{ParsesSigned, digits_value, starts_with_minus}
use Rattle.std.proofs.lemmas.Str.{IsUtf8-from_ascii}
use Rattle.std.proofs.lemmas.Fmt.{IsAscii-from_digits}
use Rattle.std.proofs.lemmas.Bool.{eqb-true}
use Rattle.std.proofs.lemmas.Str.Parse.{IsNumeralModel, numerals_by_value, parse_signed_minus, parse_signed_plain, tells_all_ascii_digits}
use Rattle.currency_base.specs.Number.{int_of, negative_of, positive_of}
use borrow.Author.Tests.{eqb_apart, ltb-true, lt-ltb, leb-true, le-leb}
use mir.Syntax.{w64}

-- the digits and their number, in std's words
own : IsNumeralModel (λ ds. all_ascii_digits ds ≡ true) (digits_value 10)
own = numerals_by_value _ tells_all_ascii_digits

-- where the digits' test fails, nothing is chosen
none_chosen : (some digits fits : Bool) (v : ℤ) → (digits ≡ true → ⊥) → None ≡ cond (some && digits && fits) (Some v) None
none_chosen some true fits v h = absurd (h refl)
none_chosen true false fits v h = refl
none_chosen false false fits v h = refl

-- a text with a plus is no integer
pub int_of_plus : (bytes : List ℕ) → get_or bytes 0 0 ≡ 43 → None ≡ int_of bytes
unfolding int_of
int_of_plus [] e = refl
int_of_plus (c ∷ cs) e = rw e (none_chosen (ltb 0 (length (c ∷ cs))) false _ _ (λ d. cc d))

-- a result that is Ok where three tests hold
chosen : {E : Type 0} (r : Result ℤ E) (digits some fits : Bool) (P Q : Type 0) (v : ℤ)
    → OkIff r ((digits ≡ true) × P × Q) v → (some ≡ true → P) → (P → some ≡ true) → (fits ≡ true → Q) → (Q → fits ≡ true)
    → result_ok r ≡ cond (some && digits && fits) (Some v) None
chosen (Ok x) digits some fits P Q v h a b c d = rw (b h.0.1, h.0.0, d h.0.2, h.1) refl
chosen (Err e) true true true P Q v h a b c d = absurd (h (refl, a refl, c refl))
chosen (Err e) false true fits P Q v h a b c d = refl
chosen (Err e) true true false P Q v h a b c d = refl
chosen (Err e) digits false fits P Q v h a b c d = refl

-- what `parse` gives on a text with no plus
pub parses_int : {E : Type 0} (bytes : List ℕ) (r : Result ℤ E) → ParsesSigned w64 10 bytes r →
    (get_or bytes 0 0 ≡ 43 → ⊥) → result_ok r ≡ int_of bytes
unfolding int_of
parses_int bytes r h plus = by (starts_with_minus bytes) refl
  where
    by : (b : Bool) → starts_with_minus bytes ≡ b → result_ok r ≡ cond b (negative_of (drop 1 bytes)) (positive_of bytes)
    by true e = chosen r _ _ _ _ _ _ (parse_signed_minus own w64 bytes r h (eqb-true _ 45 e)) (ltb-true 0 _)
        (lt-ltb 0 _) (leb-true _ (2 ^ 63)) (le-leb _ (2 ^ 63))
    by false e = chosen r _ _ _ _ _ _ (parse_signed_plain own w64 bytes r h plus (eqb_apart _ 45 e)) (ltb-true 0 _)
        (lt-ltb 0 _) (ltb-true _ (2 ^ 63)) (lt-ltb _ (2 ^ 63))

-- digits are text, and so are they after a minus
digits_are_text : (digits : List ℕ) → all_ascii_digits digits ≡ true → IsAscii digits
digits_are_text digits e = IsAscii-from_digits digits (own.to digits e)

minus_is_text : (bytes : List ℕ) → get_or bytes 0 0 ≡ 45 → all_ascii_digits (drop 1 bytes) ≡ true → IsAscii bytes
minus_is_text [] e d i = digits_are_text [] d i
minus_is_text (c ∷ cs) e d zero = omega arith
minus_is_text (c ∷ cs) e d (suc i) = digits_are_text cs d i

-- bytes that are no text are no integer
pub int_of_not_text : (bytes : List ℕ) → (IsUtf8 bytes → ⊥) → None ≡ int_of bytes
unfolding int_of
int_of_not_text bytes h = by (starts_with_minus bytes) refl
  where
    by : (b : Bool) → starts_with_minus bytes ≡ b → None ≡ cond b (negative_of (drop 1 bytes)) (positive_of bytes)
    by true e = none_chosen _ _ _ _ (λ d. h (IsUtf8-from_ascii bytes (minus_is_text bytes (eqb-true _ 45 e) d)))
    by false e = none_chosen _ _ _ _ (λ d. h (IsUtf8-from_ascii bytes (digits_are_text bytes d)))
