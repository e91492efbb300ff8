use Rattle.std.proofs.Common.{◌≡◌, get_or}
use Rattle.last_rows.specs.Rows.{each_below}
use Rattle.last_rows.proofs.derivation.write_lasts.Given as goal

abbrev pub invariant-loop-row : goal.invariant-loop-row
invariant-loop-row l = l.hints.items ≡ each_below (λ row. get_or l.list.last_places.items row 0) l.row
