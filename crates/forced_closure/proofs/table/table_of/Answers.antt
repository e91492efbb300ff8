use Rattle.std.proofs.Common.{rules, get_or, refl}
use Rattle.std.proofs.lemmas.Option.{slice_get-get_or}
use Rattle.horn_closure.specs.declared.derived.Derived.{Derived}
use Rattle.horn_closure.specs.declared.derived.Why.TheVariants.{Fact}
use Rattle.forced_closure.proofs.Tables.{table_none, table_next, table_all}
use Rattle.forced_closure.proofs.table.table_of.Goals as goal

pub loop-cell-init : goal.loop-cell-init
loop-cell-init c = table_none c.args.cells c.resize.new.self.items (search rules)

pub loop-cell-preserved : goal.loop-cell-preserved
loop-cell-preserved c =
    let none : Derived = record { slot = 0; why = Fact } in
    let cell = get_or c.args.derived.now c.loop-cell.cell-index none in
    let at = slice_get-get_or c.args.derived.now c.loop-cell.cell-index none c.loop-cell-test.true in
    table_next c.args.cells c.args.derived.now c.loop-cell.cell-index cell c.loop-cell.table.items _ at
    (c.requires c.loop-cell.cell-index none c.loop-cell-test.true)
    c.loop-cell.invariant refl

pub returns : goal.returns
returns c = table_all c.args.cells c.args.derived.now c.loop-cell.cell-index c.loop-cell.table.items
    c.loop-cell-test.false c.loop-cell.invariant
