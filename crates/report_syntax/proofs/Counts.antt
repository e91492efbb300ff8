-- What `parse` reads, in the words of `count_of`.
use Rattle.std.proofs.Common.{◌≡◌, ℕ, ◌^◌, Bool, true, false, cond, List, [], ◌∷◌, length, get_or, Some, None, Result, Ok, Err, IsUtf8, refl, ltb}
use Rattle.std.specs.Prelude.{◌&&◌}
use Rattle.std.specs.Result.{OkIff, result_ok}
use Rattle.std.specs.Str.{all_ascii_digits}
use Rattle.std.specs.Str.Parse.{ParsesUnsigned, digits_value}
use Rattle.std.proofs.lemmas.Str.{IsUtf8-from_ascii}
use Rattle.std.proofs.lemmas.Fmt.{IsAscii-from_digits}
use Rattle.std.proofs.lemmas.Str.Parse.{IsNumeralModel, numerals_by_value, parse_plain, tells_all_ascii_digits}
use Rattle.report_syntax.specs.Spells.{count_of}
use borrow.Author.Tests.{ltb-true, lt-ltb}

-- the digits and their number, in std's words
own : IsNumeralModel (λ ds. all_ascii_digits ds ≡ true) (digits_value 10)
own = numerals_by_value _ tells_all_ascii_digits

-- where the digits' test fails, nothing is chosen
none_chosen : (some digits fits : Bool) (n : ℕ) → (digits ≡ true → ⊥) → None ≡ cond (some && digits && fits) (Some n) None
none_chosen some true fits n h = absurd (h refl)
none_chosen true false fits n h = refl
none_chosen false false fits n h = refl

-- a text with a plus is no number
pub count_of_plus : (bytes : List ℕ) → get_or bytes 0 0 ≡ 43 → None ≡ count_of bytes
unfolding count_of
count_of_plus [] e = refl
count_of_plus (c ∷ cs) e = rw e (none_chosen (ltb 0 (length (c ∷ cs))) false _ _ (λ d. cc d))

-- a result that is Ok where three tests hold
chosen : {E : Type 0} (r : Result ℕ E) (digits some fits : Bool) (P Q : Type 0) (n : ℕ)
    → OkIff r ((digits ≡ true) × P × Q) n → (some ≡ true → P) → (P → some ≡ true) → (fits ≡ true → Q) → (Q → fits ≡ true)
    → result_ok r ≡ cond (some && digits && fits) (Some n) None
chosen (Ok x) digits some fits P Q n h a b c d = rw (b h.0.1, h.0.0, d h.0.2, h.1) refl
chosen (Err e) true true true P Q n h a b c d = absurd (h (refl, a refl, c refl))
chosen (Err e) false true fits P Q n h a b c d = refl
chosen (Err e) true true false P Q n h a b c d = refl
chosen (Err e) digits false fits P Q n h a b c d = refl

-- what `parse` gives on a text with no plus
pub parses_count : {E : Type 0} (bytes : List ℕ) (r : Result ℕ E) → ParsesUnsigned 64 10 bytes r → (get_or bytes 0 0 ≡ 43 → ⊥)
    → result_ok r ≡ count_of bytes
unfolding count_of
parses_count bytes r h plus =
    chosen r _ _ _ _ _ _ (parse_plain own 64 bytes r h plus) (ltb-true 0 _) (lt-ltb 0 _) (ltb-true _ (2 ^ 64)) (lt-ltb _ (2 ^ 64))

-- bytes that are no text are no number
pub count_of_not_text : (bytes : List ℕ) → (IsUtf8 bytes → ⊥) → None ≡ count_of bytes
unfolding count_of
count_of_not_text bytes h = none_chosen _ _ _ _ (λ d. h (IsUtf8-from_ascii bytes (IsAscii-from_digits bytes (own.to bytes d))))
