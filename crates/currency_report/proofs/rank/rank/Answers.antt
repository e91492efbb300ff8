use Rattle.std.proofs.Common.{◌∙◌, not, sym, ap}
use Rattle.currency_report.proofs.Places.{rows_in}
use Rattle.currency_report.proofs.Rankings.{ranked_at, lacks_row, is_ranked_with}
use Rattle.currency_report.proofs.rank.rank.Goals as goal

pub returns-in_default-2-clause-steps : goal.returns-in_default-2-clause-steps
returns-in_default-2-clause-steps c =
    let ranked = ranked_at c.args.completion.now c.in-Some.place c.ranking-listed.result.now c.is_empty.result
    c.ranking-listed.ensures c.is_empty.ensures in
    let free = ranked ∙ ap not c.if-not-is_empty.false in
    let rows = rows_in c.args.spec.now c.args.names.now c.in-Some.place.rel.0 c.in-Some.ensures.of
    c.relation-parts.result.now c.requires.names
    c.in-Some.ensures.found c.relation-parts.ensures c.args.ranking.now.rows in
    let found = sym rows ∙ sym (rw c.as_slice.ensures at c.in_ok-rows.ensures) ∙ c.in_default-2.is in
    rw c.refused_at-in_default-2.ensures
    (lacks_row c.args.spec.now.relations c.args.completion.now c.args.ranking.now c.in-Some.place c.in-Some.ensures free found)

pub returns-clause-steps : goal.returns-clause-steps
returns-clause-steps c =
    let ranked = ranked_at c.args.completion.now c.in-Some.place c.ranking-listed.result.now c.is_empty.result
    c.ranking-listed.ensures c.is_empty.ensures in
    let free = ranked ∙ ap not c.if-not-is_empty.false in
    let rows = rows_in c.args.spec.now c.args.names.now c.in-Some.place.rel.0 c.in-Some.ensures.of
    c.relation-parts.result.now c.requires.names
    c.in-Some.ensures.found c.relation-parts.ensures c.args.ranking.now.rows in
    let found = sym rows ∙ sym (rw c.as_slice.ensures at c.in_ok-rows.ensures) ∙ c.in-Some-2.is in
    rw c.set.ensures
    (is_ranked_with c.args.spec.now.relations c.args.completion.now c.args.ranking.now c.in-Some.place
    c.in-Some.ensures c.in-Some-2.rows free found)
