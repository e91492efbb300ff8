use Rattle.std.proofs.Common.{◌∙◌, ℕ, ap}
use Rattle.refutation_log.specs.Steps.{clauses_of}
use Rattle.last_rows.specs.Rows.{literals_of}
use Rattle.last_rows.proofs.Looked.{unit_seen}
use Rattle.last_rows.proofs.looks.is_unit.Goals as goal

pub returns : goal.returns
returns c = λ yes.
    let l = c.args.list.now in
    let row = c.args.row in
    unit_seen l (clauses_of c.args.earlier.now) row _ _
    (c.before-2.ensures ∙ ap (λ (n : ℕ). (literals_of l).before row n) c.later.ensures)
    c.later_place.ensures (c.are_alike.ensures yes)
