use Rattle.order_search.proofs.Cycles.{marked_brings, marked_held, marked_later}
use Rattle.order_search.proofs.Growing.{held_axioms, tied_axioms, same_units}
use Rattle.order_search.proofs.bringing.bring_axioms.Goals as goal

pub returns-in-Ok-clause-held : goal.returns-in-Ok-clause-held
returns-in-Ok-clause-held g c =
    let old = c.args.progress.now in
    marked_held c.args.subject.now c.args.cycle c.requires.cycle old.brought.items c.mark.new.brought.items
    c.mark.ensures c.add_list.new.solver
    (held_axioms c.args.subject.now old.solver c.add_list.new.solver old.brought.items c.requires.held
    c.add_list.ensures.frame c.add_list.ensures.added)
    c.in-Ok.ensures.ok

pub returns-in-Ok-clause-units : goal.returns-in-Ok-clause-units
returns-in-Ok-clause-units g c = same_units c.args.subject.now c.args.progress.now.solver.steps
    c.add_list.new.solver.steps c.add_list.ensures.added

pub returns-in-Ok-clause-later : goal.returns-in-Ok-clause-later
returns-in-Ok-clause-later g c =
    marked_later c.args.subject.now c.args.cycle c.requires.cycle c.args.progress.now.brought.items
    c.mark.new.brought.items c.mark.ensures

pub returns-in-Ok-clause-brings : goal.returns-in-Ok-clause-brings
returns-in-Ok-clause-brings g c =
    marked_brings c.args.subject.now c.args.cycle c.requires.cycle c.args.progress.now.brought.items
    c.mark.new.brought.items c.mark.ensures
    c.args.progress.now.solver.steps c.requires.held.lists

pub returns-in-Err-clause-held : goal.returns-in-Err-clause-held
returns-in-Err-clause-held g c =
    let old = c.args.progress.now in
    held_axioms c.args.subject.now old.solver c.add_list.new.solver old.brought.items c.requires.held
    c.add_list.ensures.frame c.add_list.ensures.added

pub returns-in-Err-clause-units : goal.returns-in-Err-clause-units
returns-in-Err-clause-units g c = same_units c.args.subject.now c.args.progress.now.solver.steps
    c.add_list.new.solver.steps c.add_list.ensures.added

pub returns-in-Ok-clause-tied : goal.returns-in-Ok-clause-tied
returns-in-Ok-clause-tied g c = tied_axioms c.args.subject.now c.args.progress.now.solver.steps
    c.add_list.new.solver.steps c.add_list.ensures.added

pub returns-in-Err-clause-tied : goal.returns-in-Err-clause-tied
returns-in-Err-clause-tied g c = tied_axioms c.args.subject.now c.args.progress.now.solver.steps
    c.add_list.new.solver.steps c.add_list.ensures.added
