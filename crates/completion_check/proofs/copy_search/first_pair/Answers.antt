use Rattle.std.proofs.Common.{◌≡◌, ◌∙◌, List, length, refl, subst, arith}
use Rattle.currency_base.specs.declared.ids.RowId.{RowId}
use Rattle.entity_rows.specs.Members.{members}
use Rattle.completion_check.specs.CopyBreaks.{NoPartner, IsFirstPartner}
use Rattle.completion_check.proofs.Choices.{entity_read, within_read}
use Rattle.completion_check.proofs.CopySearch.{none_pair_next, none_pair_at_all, first_pair_at}
use Rattle.completion_check.proofs.copy_search.first_pair.Goals as goal

pub returns-in-Some-clause-some : goal.returns-in-Some-clause-some
returns-in-Some-clause-some c =
    let t = c.args.trial.now in
    let place = c.args.place.now in
    let ent = c.row-item.result.entity.0 in
    let is_rows = c.target_rows-row-items.ensures in
    let rows = c.target_rows-row-items.result.now in
    let inside = within_read t.target_rows rows c.loop-at.at (length c.args.members.now) c.row-item.result is_rows
    c.loop-at-test.true c.row-item.is c.requires.entities in
    let own : c.rows_of-own.result.now ≡ members t.target_rows ent = c.rows_of-own.ensures ∙ c.requires.members.each ent inside in
    let of = entity_read t.target_rows rows c.loop-at.at c.row-item.result is_rows c.loop-at-test.true c.row-item.is in
    first_pair_at t place c.loop-at.at ent (record { 0 = c.loop-at.at }) c.in-Some.second refl of c.loop-at.invariant
    (subst (λ (m : List RowId). IsFirstPartner t place (record { 0 = c.loop-at.at }) m c.in-Some.second) own
    c.in-Some.ensures.some)

pub loop-at-preserved : goal.loop-at-preserved
loop-at-preserved c =
    let t = c.args.trial.now in
    let place = c.args.place.now in
    let ent = c.row-item.result.entity.0 in
    let is_rows = c.target_rows-row-items.ensures in
    let rows = c.target_rows-row-items.result.now in
    let inside = within_read t.target_rows rows c.loop-at.at (length c.args.members.now) c.row-item.result is_rows
    c.loop-at-test.true c.row-item.is c.requires.entities in
    let own : c.rows_of-own.result.now ≡ members t.target_rows ent = c.rows_of-own.ensures ∙ c.requires.members.each ent inside in
    let of = entity_read t.target_rows rows c.loop-at.at c.row-item.result is_rows c.loop-at-test.true c.row-item.is in
    none_pair_next t place c.loop-at.at ent (record { 0 = c.loop-at.at }) refl of c.loop-at.invariant
    (subst (λ (m : List RowId). NoPartner t place (record { 0 = c.loop-at.at }) m) own c.in_default.ensures.none)

pub returns-clause-none : goal.returns-clause-none
returns-clause-none c =
    none_pair_at_all c.args.trial.now c.args.place.now
    (λ ent first second below. c.loop-at.invariant ent first second (let past = rw c.target_rows-row-items.ensures at
    c.loop-at-test.false in omega (arith, past)))
