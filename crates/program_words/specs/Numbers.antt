-- Numbers among the words.
use Rattle.std.specs.Prelude.{ℕ, ◌&&◌, nat_le, nat_lt, List, get_or, Option, Some, None, if◌then◌else◌, option_map}
use Rattle.std.specs.Str.{all_ascii_digits}
use Rattle.std.specs.Str.Parse.{digits_value}

-- the number from 1 to `most` that the text writes in decimal digits, with no sign (a first byte past '0' begins with
-- none) and no zero in front
abbrev pub number_up_to : ℕ → List ℕ → Option ℕ
number_up_to most text =
    if nat_lt 48 (get_or text 0 0) && all_ascii_digits text && nat_le (digits_value 10 text) most then Some
    (digits_value 10 text) else None

-- the number of an option that has one where it isn't given; none where it is given and wrong
abbrev pub number_or : ℕ → ℕ → Option (List ℕ) → Option ℕ
number_or default most None = Some default
number_or default most (Some text) = number_up_to most text

-- the number of an option that may be left out; none where it is given and wrong
abbrev pub number_if_given : ℕ → Option (List ℕ) → Option (Option ℕ)
number_if_given most None = Some None
number_if_given most (Some text) = option_map (λ n. Some n) (number_up_to most text)
