-- Literals: a variable or its negation, as one number. A variable's literal is twice its number, and its negation one more.
use Rattle.std.specs.Prelude.{◌+◌, ◌*◌, ◌/◌, ◌%◌, ◌==◌, ℕ, Bool, if◌then◌else◌}
use Rattle.currency_base.specs.declared.lit.Lit.{Lit}

-- the variable of a literal
abbrev pub var_of : Lit → ℕ
var_of lit = lit.0 / 2

-- the literal is the negation of its variable
abbrev pub is_negative : Lit → Bool
is_negative lit = lit.0 % 2 == 1

-- the literal of a variable: its negation, or the variable itself
abbrev pub literal : ℕ → Bool → Lit
literal var negative = if negative then record { 0 = 2 * var + 1 } else record { 0 = 2 * var }

-- the same variable with the other sign
abbrev pub negation : Lit → Lit
negation lit = if lit.0 % 2 == 1 then record { 0 = 2 * (lit.0 / 2) } else record { 0 = 2 * (lit.0 / 2) + 1 }
