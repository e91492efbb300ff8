use Rattle.std.proofs.Common.{◌≡◌, drop}
use Rattle.std.specs.List.{filter}
use Rattle.log_form.specs.Form.{same_value, is_first}
use Rattle.log_form.proofs.rows.is_first_among.Given as goal

abbrev pub invariant-loop-other : goal.invariant-loop-other
invariant-loop-other l =
    is_first l.row (filter (same_value l.rows l.attr.0 l.row) (drop l.other-index l.members)) ≡ is_first l.row
    (filter (same_value l.rows l.attr.0 l.row) l.members)
