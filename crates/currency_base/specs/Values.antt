-- The kinds of values, their order, and what comparisons say of them.
use Rattle.std.specs.Prelude.{◌^◌, ◌≤ℤ◌, ◌<ℤ◌, pos, neg_ℤ, Bool, true, false, IsUtf8}
use Rattle.std.specs.Ordering.{nat_cmp, int_cmp}
use Rattle.std.specs.Cmp.Lexicographic.{slice_cmp}
use Rattle.std.specs.declared.cmp.Ordering.{Ordering}
use Rattle.std.specs.declared.cmp.Ordering.TheVariants.{Less, Equal, Greater}
use Rattle.currency_base.specs.declared.value.ValueKind.{ValueKind}
use Rattle.currency_base.specs.declared.value.ValueKind.TheVariants as kind
use Rattle.currency_base.specs.declared.value.Value.{Value}
use Rattle.currency_base.specs.declared.value.Value.TheVariants.{Int, Text}
use Rattle.currency_base.specs.declared.value.Cmp.{Cmp}
use Rattle.currency_base.specs.declared.value.Cmp.TheVariants.{Eq, Ne, Lt, Le, Gt, Ge}

-- the kind of a value
abbrev pub kind_of : Value → ValueKind
kind_of (Int n) = kind.Int
kind_of (Text bytes) = kind.Text

-- a value of the program: a text is UTF-8, and an int has 64 signed bits
abbrev pub IsValue : Value → Type 0
IsValue (Text bytes) = IsUtf8 bytes
IsValue (Int n) = (neg_ℤ (pos (2 ^ 63)) ≤ℤ n) × (n <ℤ pos (2 ^ 63))

-- the order of values: ints by number, texts by their bytes, and an int below a text
abbrev pub value_cmp : Value → Value → Ordering
value_cmp (Int a) (Int b) = int_cmp a b
value_cmp (Int a) (Text b) = Less
value_cmp (Text a) (Int b) = Greater
value_cmp (Text a) (Text b) = slice_cmp nat_cmp a b

-- a comparison holds of two values that stand in this order
abbrev pub holds_at : Cmp → Ordering → Bool
holds_at Eq Equal = true
holds_at Ne Less = true
holds_at Ne Greater = true
holds_at Lt Less = true
holds_at Le Less = true
holds_at Le Equal = true
holds_at Gt Greater = true
holds_at Ge Greater = true
holds_at Ge Equal = true
holds_at cmp order = false

-- a comparison of two values holds
abbrev pub value_test : Cmp → Value → Value → Bool
value_test cmp a b = holds_at cmp (value_cmp a b)
