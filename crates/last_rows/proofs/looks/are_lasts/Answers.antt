use Rattle.std.proofs.Common.{◌∙◌, ℕ, ap, subst}
use Rattle.currency_base.specs.Literals.{negation}
use Rattle.refutation_log.specs.Steps.{clauses_of}
use Rattle.last_rows.specs.Rows.{IsLast, StandsAt, literals_of}
use Rattle.last_rows.proofs.Looked.{last_seen, lasts_more}
use Rattle.last_rows.proofs.looks.are_lasts.Goals as goal

pub loop-row-preserved : goal.loop-row-preserved
loop-row-preserved c =
    let l = c.args.list.now in
    let row = c.loop-row.row in
    lasts_more l (clauses_of c.args.earlier.now) row c.loop-row.invariant
    (subst (λ (n : ℕ). StandsAt (IsLast (literals_of l) row) (clauses_of c.args.earlier.now) n) c.last_place.ensures
    (last_seen l (clauses_of c.args.earlier.now) row c.last_place.result _ _
    (c.negated-not_top.ensures ∙ ap negation c.top.ensures) c.name.ensures (c.are_among.ensures c.if-not-are_among.false)))
