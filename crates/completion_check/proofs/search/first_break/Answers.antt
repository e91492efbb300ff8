use Rattle.std.proofs.Common.{◌≡◌, ◌-◌, ◌∙◌, List, [], ◌∷◌, length, take, refl, subst, sym, arith}
use Rattle.currency_base.specs.declared.ids.RowId.{RowId}
use Rattle.entity_rows.specs.Members.{members}
use Rattle.entity_rows.proofs.Membership.{members_ascend}
use Rattle.completion_check.specs.Breaks.{AreRows, Ascend, NoneBreaks, BreaksFirst}
use Rattle.completion_check.proofs.Choices.{members_are_rows, entity_read, within_read, none_below_next, none_at_all, first_at}
use Rattle.completion_check.proofs.search.first_break.Goals as goal

pub rows_of-own-requires : goal.rows_of-own-requires
rows_of-own-requires c =
    within_read c.args.trial.now.table c.table-row-items.result.now c.loop-at.at (length c.args.members.now)
    c.row-item.result c.table-row-items.ensures.value
    c.loop-at-test.true c.row-item.is c.requires.entities

pub first_from-requires-clause-within : goal.first_from-requires-clause-within
first_from-requires-clause-within c = omega (arith, c.table-row-items.ensures.facts.some_var)

pub first_from-requires-clause-members : goal.first_from-requires-clause-members
first_from-requires-clause-members c =
    let inside = within_read c.args.trial.now.table c.table-row-items.result.now c.loop-at.at
    (length c.args.members.now) c.row-item.result c.table-row-items.ensures.value
    c.loop-at-test.true c.row-item.is c.requires.entities in
    let own : c.rows_of-own.result.now ≡ members c.args.trial.now.table c.row-item.result.entity.0 =
    c.rows_of-own.ensures ∙ c.requires.members.each c.row-item.result.entity.0 inside in
    subst (AreRows c.args.trial.now.table) (sym own) (members_are_rows c.args.trial.now.table c.row-item.result.entity.0)

pub first_from-requires-clause-ascend : goal.first_from-requires-clause-ascend
first_from-requires-clause-ascend c =
    let inside = within_read c.args.trial.now.table c.table-row-items.result.now c.loop-at.at
    (length c.args.members.now) c.row-item.result c.table-row-items.ensures.value
    c.loop-at-test.true c.row-item.is c.requires.entities in
    let own : c.rows_of-own.result.now ≡ members c.args.trial.now.table c.row-item.result.entity.0 =
    c.rows_of-own.ensures ∙ c.requires.members.each c.row-item.result.entity.0 inside in
    subst Ascend (sym own) (λ i j a b. members_ascend c.args.trial.now.table c.row-item.result.entity.0 i j a b)

pub returns-in-Some-clause-some : goal.returns-in-Some-clause-some
returns-in-Some-clause-some c =
    let inside = within_read c.args.trial.now.table c.table-row-items.result.now c.loop-at.at
    (length c.args.members.now) c.row-item.result c.table-row-items.ensures.value
    c.loop-at-test.true c.row-item.is c.requires.entities in
    let own : c.rows_of-own.result.now ≡ members c.args.trial.now.table c.row-item.result.entity.0 =
    c.rows_of-own.ensures ∙ c.requires.members.each c.row-item.result.entity.0 inside in
    let of = entity_read c.args.trial.now.table c.table-row-items.result.now c.loop-at.at c.row-item.result
    c.table-row-items.ensures.value c.loop-at-test.true c.row-item.is in
    first_at c.args.trial.now c.loop-at.at c.row-item.result.entity.0 (record { 0 = c.loop-at.at })
    (take c.args.trial.now.rule.vars c.in-Some.found)
    c.table-row-items.ensures.facts.some_var refl of c.loop-at.invariant
    (subst (λ (m : List RowId). BreaksFirst c.args.trial.now m (c.args.trial.now.rule.vars - 1)
    (record { 0 = c.loop-at.at } ∷ []) (take c.args.trial.now.rule.vars c.in-Some.found)) own c.in-Some.ensures.some)

pub loop-at-preserved : goal.loop-at-preserved
loop-at-preserved c =
    let inside = within_read c.args.trial.now.table c.table-row-items.result.now c.loop-at.at
    (length c.args.members.now) c.row-item.result c.table-row-items.ensures.value
    c.loop-at-test.true c.row-item.is c.requires.entities in
    let own : c.rows_of-own.result.now ≡ members c.args.trial.now.table c.row-item.result.entity.0 =
    c.rows_of-own.ensures ∙ c.requires.members.each c.row-item.result.entity.0 inside in
    let of = entity_read c.args.trial.now.table c.table-row-items.result.now c.loop-at.at c.row-item.result
    c.table-row-items.ensures.value c.loop-at-test.true c.row-item.is in
    none_below_next c.args.trial.now c.loop-at.at c.row-item.result.entity.0 (record { 0 = c.loop-at.at }) refl of
    c.loop-at.invariant
    (subst (λ (m : List RowId). NoneBreaks c.args.trial.now m (c.args.trial.now.rule.vars - 1)
    (record { 0 = c.loop-at.at } ∷ [])) own c.in_default.ensures.none)

pub returns-clause-none : goal.returns-clause-none
returns-clause-none c =
    none_at_all c.args.trial.now c.table-row-items.ensures.facts.some_var
    (λ row more below. c.loop-at.invariant row more (let past = rw c.table-row-items.ensures.value at
    c.loop-at-test.false in omega (arith, past)))
