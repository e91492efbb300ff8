-- Marks of literals.
use Rattle.std.specs.Prelude.{◌≡◌, Bool, true, false, List, Contains, slice_index_or}
use Rattle.currency_base.specs.declared.lit.Lit.{Lit}

-- the mark of a literal; past the end of the marks there is none
abbrev pub is_marked : List Bool → Lit → Bool
is_marked marked lit = slice_index_or marked lit.0 false

-- exactly these literals are marked
pub record AreMarks (marked : List Bool) (lits : List Lit) : Type 0 where
  pub set : (lit : Lit) → Contains lits lit → is_marked marked lit ≡ true
  pub listed : (lit : Lit) → is_marked marked lit ≡ true → Contains lits lit
