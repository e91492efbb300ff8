-- Documents that were read, as far as a shelf tells them.
use Rattle.std.specs.Prelude.{◌≡◌, ℕ, List, Option, IfSome}
use Rattle.std.specs.Str.{bytes_eq}
use Rattle.currency_edge.specs.Shelf.{document}
use Rattle.indexmap.specs.IndexMap.{IndexMap, get}

-- what is kept under a name is the document of that name
abbrev pub AreTold : {S : Type 0} → List (List ℕ × List ℕ) → IndexMap (List ℕ) (List ℕ) S → Type 0
AreTold told kept = (name : List ℕ) → IfSome (get bytes_eq kept name) (λ bytes. bytes ≡ document told name)

-- the same, where the shelf tells them
abbrev pub AreAsTold : {S : Type 0} → Option (List (List ℕ × List ℕ)) → IndexMap (List ℕ) (List ℕ) S → Type 0
AreAsTold texts kept = IfSome texts (λ told. AreTold told kept)
