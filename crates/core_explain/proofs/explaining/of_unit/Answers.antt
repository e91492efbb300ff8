use Rattle.std.proofs.Common.{subst, sym}
use Rattle.near_items.specs.Sought.{IsBase}
use Rattle.core_explain.proofs.Bases.{first_base}
use Rattle.core_explain.proofs.Units.{fact_holds, unit_explained, unit_spent}
use Rattle.core_explain.proofs.explaining.of_unit.Goals as goal

pub seek-requires-clause-holds : goal.seek-requires-clause-holds
seek-requires-clause-holds g c =
    fact_holds c.claims_are_asked.ensures c.args.spec.now c.requires.within c.args.question.now c.requires.question c.args.unit
    c.args.asks.now c.requires.asks

pub seek-requires-clause-base : goal.seek-requires-clause-base
seek-requires-clause-base g c =
    subst (IsBase c.args.spec.now) (sym c.first_of-base.ensures)
    (first_base c.args.spec.now c.args.report.now.completions c.requires.consistent)

pub returns-in-Ok-Needs : goal.returns-in-Ok-Needs
returns-in-Ok-Needs g c =
    unit_explained c.claims_are_asked.ensures c.args.spec.now c.requires.within c.args.question.now c.requires.question
    c.args.unit c.args.asks.now c.requires.asks c.args.budget _ _ c.in-Ok-Needs.field-0-is c.in-Ok-Needs.ensures

pub returns-in-Ok-Open : goal.returns-in-Ok-Open
returns-in-Ok-Open g c =
    unit_spent c.claims_are_asked.ensures c.args.spec.now c.requires.within c.args.question.now c.requires.question c.args.unit
    c.args.asks.now c.requires.asks c.args.budget _ _ c.in-Ok-Open.field-0-is c.in-Ok-Open.ensures
