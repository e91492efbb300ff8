-- How integers are spelt: an optional minus and one or more ASCII digits.
use Rattle.std.specs.Prelude.{ℕ, ◌^◌, ◌&&◌, Bool, nat_le, nat_lt, List, length, drop, Option, Some, None, if◌then◌else◌, ℤ, pos, neg_ℤ}
use Rattle.std.specs.Str.{all_ascii_digits}
use Rattle.std.specs.Str.Parse.{digits_value, starts_with_minus}

-- one ASCII digit or more, and nothing else
abbrev pub is_numeral : List ℕ → Bool
is_numeral digits = nat_lt 0 (length digits) && all_ascii_digits digits

-- the number that a numeral writes, where it is below 2^63
abbrev pub positive_of : List ℕ → Option ℤ
positive_of digits =
    if is_numeral digits && nat_lt (digits_value 10 digits) (2 ^ 63) then Some (pos (digits_value 10 digits)) else None

-- the number that a minus and a numeral write, where it is -2^63 or above
abbrev pub negative_of : List ℕ → Option ℤ
negative_of digits =
    if is_numeral digits && nat_le (digits_value 10 digits) (2 ^ 63) then Some (neg_ℤ (pos (digits_value 10 digits))) else None

-- the integer of 64 signed bits that the bytes write, if they are an optional minus and a numeral
unfoldable pub int_of : List ℕ → Option ℤ
int_of bytes = if starts_with_minus bytes then negative_of (drop 1 bytes) else positive_of bytes
