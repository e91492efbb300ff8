-- Values as fields.
use Rattle.std.specs.Prelude.{◌+◌, ℕ, pos, negsuc, List, ◌∷◌}
use Rattle.std.specs.Fmt.{decimal}
use Rattle.currency_base.specs.declared.value.Value.{Value}
use Rattle.currency_base.specs.declared.value.Value.TheVariants as value

-- a value as a field: a text as it is, a number by its digits
abbrev pub value_bytes : Value → List ℕ
value_bytes (value.Text bytes) = bytes
value_bytes (value.Int (pos n)) = decimal n
value_bytes (value.Int (negsuc n)) = 45 ∷ decimal (n + 1)
