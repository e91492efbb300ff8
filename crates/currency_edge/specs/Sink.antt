-- What several writes leave in a sink.
use Rattle.std.specs.Prelude.{◌≡◌, ℕ, List, Option, ◌++◌}
use Rattle.std.specs.Io.KnownBytes.{Appends}

-- a front of the bytes was appended to the known bytes, perhaps an empty one
abbrev pub AppendsPrefix : Option (List ℕ) → Option (List ℕ) → List ℕ → Type 0
AppendsPrefix old new bytes = (front : List ℕ) × (rest : List ℕ) × (bytes ≡ front ++ rest) × Appends old new front
