use Rattle.std.proofs.Common.{◌∙◌, ℕ, ap, length, subst}
use Rattle.refutation_log.specs.Steps.{clauses_of}
use Rattle.last_rows.specs.Rows.{IsClause, StandsAt, clause_lits, literals_of}
use Rattle.last_rows.proofs.Looked.{top_seen, tops_more}
use Rattle.last_rows.proofs.looks.are_tops.Goals as goal

pub loop-row-preserved : goal.loop-row-preserved
loop-row-preserved c =
    let l = c.args.list.now in
    let row = c.loop-row.row in
    tops_more l (clauses_of c.args.earlier.now) row c.loop-row.invariant
    (subst (λ (n : ℕ). StandsAt (IsClause (literals_of l) (length l.tops.items) row) (clauses_of c.args.earlier.now) n)
    c.top_place.ensures
    (top_seen l (clauses_of c.args.earlier.now) row c.top_place.result c.as_slice.result.now
    (c.as_slice.ensures.value ∙ c.in_ok-write_lits.ensures ∙ ap (λ (n : ℕ). clause_lits (literals_of l) n row) c.count.ensures)
    (c.are_alike.ensures c.if-not-are_alike.false)))
