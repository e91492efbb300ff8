-- The names so far, with those that are left, are the whole.
use Rattle.std.proofs.Common.{◌≡◌, ℕ, List, drop}
use Rattle.std.specs.Prelude.{is_some, ◌||◌}
use Rattle.std.specs.List.{list_any}
use Rattle.std.specs.Str.{bytes_eq}
use Rattle.spec_names.specs.Names.{place_of}
use Rattle.query_bind.proofs.known.head_names.Given as goal

abbrev pub invariant-loop-named : goal.invariant-loop-named
invariant-loop-named l =
    (name : List ℕ) → (is_some (place_of l.names name) || list_any (λ h. bytes_eq name h.name) (drop l.named-index l.head))
    ≡ list_any (λ h. bytes_eq name h.name) l.head
