use Rattle.std.proofs.Common.{◌∙◌, ◌≤◌, Bool, List, subst, sym}
use Rattle.order_search.specs.Kept.{Brings, IsHeld, unmarked}
use Rattle.order_search.proofs.Growing.{added_then}
use Rattle.order_search.proofs.Lasts.{ok_from}
use Rattle.order_search.proofs.bringing.bring_in.Goals as goal

pub returns-in-Ok-clause-held : goal.returns-in-Ok-clause-held
returns-in-Ok-clause-held g c =
    subst (λ (marks : List Bool). IsHeld c.args.subject.now c.add_lasts.new.progress.solver marks)
    (sym c.add_lasts.ensures.brought)
    (c.add_lasts.ensures.keeps c.bring_axioms.new.progress.brought.items c.bring_axioms.ensures.held)

pub returns-in-Ok-clause-added : goal.returns-in-Ok-clause-added
returns-in-Ok-clause-added g c =
    added_then c.args.progress.now.solver c.bring_axioms.new.progress.solver c.add_lasts.new.progress.solver
    c.bring_axioms.ensures.added c.add_lasts.ensures.added

pub returns-in-Ok-clause-units : goal.returns-in-Ok-clause-units
returns-in-Ok-clause-units g c = c.add_lasts.ensures.units ∙ c.bring_axioms.ensures.units

pub returns-in-Ok-clause-later : goal.returns-in-Ok-clause-later
returns-in-Ok-clause-later g c =
    subst (λ (marks : List Bool). unmarked marks ≤ unmarked c.args.progress.now.brought.items)
    (sym c.add_lasts.ensures.brought) c.bring_axioms.ensures.later

pub returns-in-Ok-clause-brings : goal.returns-in-Ok-clause-brings
returns-in-Ok-clause-brings g c =
    ok_from c.add_lasts.result
    (subst (λ (marks : List Bool). Brings c.args.subject.now c.args.cycle c.args.progress.now.solver.steps
    c.args.progress.now.brought.items marks)
    (sym c.add_lasts.ensures.brought) c.in-Ok.ensures.brings)

pub add_lasts-requires-clause-statements : goal.add_lasts-requires-clause-statements
add_lasts-requires-clause-statements g c = c.bring_axioms.ensures.held.search.log.statements

pub returns-in-Ok-clause-scope : goal.returns-in-Ok-clause-scope
returns-in-Ok-clause-scope g c = c.add_lasts.ensures.scope ∙ c.bring_axioms.ensures.scope

pub returns-in-Ok-clause-tied : goal.returns-in-Ok-clause-tied
returns-in-Ok-clause-tied g c = λ p h. c.add_lasts.ensures.tied c.args.subject.now p (c.bring_axioms.ensures.tied p h)
