use Rattle.std.proofs.Common.{◌≡◌, true, Some, List, slice_get, sym, ap, ◌∙◌, subst}
use Rattle.std.proofs.lemmas.Bool.{false≢true}
use Rattle.std.proofs.lemmas.Option.{none-some}
use Rattle.std.specs.List.{list_any}
use Rattle.currency_base.specs.declared.ids.RowId.{RowId}
use Rattle.log_units.specs.Units.{HasLastUnit, IndexedLog}
use Rattle.log_units.proofs.Says.{has_value, rows_named, unit_of_value, value_of_unit}
use Rattle.log_units.proofs.units.Units.has_last.Goals as goal
use Rattle.spec_model.specs.declared.relation.Relation.{Relation}

pub returns-in-Some-clause-there : goal.returns-in-Some-clause-there
returns-in-Some-clause-there c = λ e.
    let relation = c.in-Some.relation.now in
    let at : slice_get c.self.inside.spec.now.relations c.args.rel.0 ≡ Some relation =
    ap (λ (rs : List Relation). slice_get rs c.args.rel.0) (sym c.relations.ensures.value) ∙ sym c.in-Some.ensures in
    let one : list_any (has_value relation c.args.attr c.args.value.now)
    (rows_named c.self.inside.index c.args.rel c.args.attr c.args.ent) ≡ true =
    ap (λ (rows : List RowId). list_any (has_value relation c.args.attr c.args.value.now) rows)
    (sym c.at-rows.ensures) ∙ (sym c.has_value.ensures ∙ e) in
    subst (λ (t : IndexedLog). HasLastUnit t.relations t.log c.args.rel c.args.attr c.args.ent c.args.value.now) c.self.view_is
    (unit_of_value c.self.inside.spec.now.relations c.self.inside.log.now c.self.inside.index c.self.invariant
    c.args.rel c.args.attr c.args.ent c.args.value.now relation at one)

pub returns-in-Some-clause-missing : goal.returns-in-Some-clause-missing
returns-in-Some-clause-missing c = λ e unit.
    let relation = c.in-Some.relation.now in
    let at : slice_get c.self.inside.spec.now.relations c.args.rel.0 ≡ Some relation =
    ap (λ (rs : List Relation). slice_get rs c.args.rel.0) (sym c.relations.ensures.value) ∙ sym c.in-Some.ensures in
    let own = subst (λ (t : IndexedLog). HasLastUnit t.relations t.log c.args.rel c.args.attr c.args.ent c.args.value.now)
    (sym c.self.view_is) unit in
    let one = value_of_unit c.self.inside.spec.now.relations c.self.inside.log.now c.self.inside.index c.self.invariant
    c.args.rel c.args.attr c.args.ent c.args.value.now relation at own in
    let here = c.has_value.ensures
    ∙ ap (λ (rows : List RowId). list_any (has_value relation c.args.attr c.args.value.now) rows) c.at-rows.ensures ∙ one in
    false≢true (sym e ∙ here)

pub returns-in-None-clause-missing : goal.returns-in-None-clause-missing
returns-in-None-clause-missing c = λ e unit.
    let own = subst (λ (t : IndexedLog). HasLastUnit t.relations t.log c.args.rel c.args.attr c.args.ent c.args.value.now)
    (sym c.self.view_is) unit in
    none-some own.relation
    (c.in-None.ensures ∙ ap (λ (rs : List Relation). slice_get rs c.args.rel.0) c.relations.ensures.value ∙ own.is_relation)
