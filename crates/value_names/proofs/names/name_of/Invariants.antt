use Rattle.std.proofs.Common.{◌≡◌, drop}
use Rattle.std.specs.List.{filter}
use Rattle.value_names.specs.Names.{are_alike, first_or, name_of}
use Rattle.value_names.proofs.names.name_of.Given as goal

abbrev pub invariant-loop-other : goal.invariant-loop-other
invariant-loop-other l =
    first_or l.row (filter (are_alike l.rows l.attr l.row) (drop l.other-index l.members)) ≡ name_of l.rows l.attr l.row
