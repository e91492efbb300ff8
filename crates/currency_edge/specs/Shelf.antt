-- Documents as a shelf tells them: pairs of a name and bytes, in the order in which they were put.
use Rattle.std.specs.Prelude.{ℕ, List, [], ◌∷◌, Bool, false, ◌||◌, if◌then◌else◌}
use Rattle.std.specs.Str.{bytes_eq}

-- the document of a name: the bytes of the first pair with that name, and no bytes where there is none
abbrev pub document : List (List ℕ × List ℕ) → List ℕ → List ℕ
document [] name = []
document (entry ∷ others) name = if bytes_eq entry.0 name then entry.1 else document others name

-- is there a pair with that name?
abbrev pub has_name : List (List ℕ × List ℕ) → List ℕ → Bool
has_name [] name = false
has_name (entry ∷ others) name = bytes_eq entry.0 name || has_name others name
