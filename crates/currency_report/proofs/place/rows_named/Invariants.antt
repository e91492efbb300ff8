use Rattle.std.proofs.Common.{◌≡◌, ◌++◌, drop, option_map}
use Rattle.currency_report.specs.Ids.{rows_among}
use Rattle.currency_report.proofs.place.rows_named.Given as goal

abbrev pub invariant-loop-row : goal.invariant-loop-row
invariant-loop-row l = option_map (λ more. l.found ++ more) (rows_among l.names (drop l.row-index l.rows)) ≡
    rows_among l.names l.rows
