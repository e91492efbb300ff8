-- The premises of a rule, predicate by predicate.
use Rattle.std.proofs.Common.{◌++◌, List, Option, Some, None}
use Rattle.currency_base.specs.declared.pair.Pair.{Pair}

-- pairs in front of others, where those are there
abbrev pub with_front : List Pair → Option (List Pair) → Option (List Pair)
with_front front None = None
with_front front (Some pairs) = Some (front ++ pairs)
