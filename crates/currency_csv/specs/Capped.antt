-- How faults tell numbers.
use Rattle.std.specs.Prelude.{ℕ, min}

-- a number as a fault tells it: at most 4294967295
abbrev pub capped : ℕ → ℕ
capped n = min n 4294967295
