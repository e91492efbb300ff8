use Rattle.std.proofs.Common.{length}
use Rattle.order_search.proofs.Growing.{held_grown, tied_grown}
use Rattle.order_search.proofs.Models.{open_log}
use Rattle.order_search.proofs.rounds.round.Goals as goal

pub modelled-requires-clause-held : goal.modelled-requires-clause-held
modelled-requires-clause-held g c =
    held_grown c.args.subject.now c.args.progress.now.solver c.decide.new.self
    c.args.progress.now.brought.items c.requires.held
    c.decide.ensures.frame c.decide.ensures.grown

pub returns-in-Ok-Model-clause-some : goal.returns-in-Ok-Model-clause-some
returns-in-Ok-Model-clause-some g c = c.modelled.ensures.some c.decide.new.budget

pub returns-in-Ok-Proved-clause-held : goal.returns-in-Ok-Proved-clause-held
returns-in-Ok-Proved-clause-held g c =
    held_grown c.args.subject.now c.args.progress.now.solver c.decide.new.self
    c.args.progress.now.brought.items c.requires.held
    c.decide.ensures.frame c.decide.ensures.grown

pub returns-in-Ok-Empty-clause-held : goal.returns-in-Ok-Empty-clause-held
returns-in-Ok-Empty-clause-held g c =
    held_grown c.args.subject.now c.args.progress.now.solver c.decide.new.self
    c.args.progress.now.brought.items c.requires.held
    c.decide.ensures.frame c.decide.ensures.grown

pub returns-in-Ok-Spent-clause-held : goal.returns-in-Ok-Spent-clause-held
returns-in-Ok-Spent-clause-held g c =
    held_grown c.args.subject.now c.args.progress.now.solver c.decide.new.self
    c.args.progress.now.brought.items c.requires.held
    c.decide.ensures.frame c.decide.ensures.grown

pub returns-in-Ok-Spent-clause-some : goal.returns-in-Ok-Spent-clause-some
returns-in-Ok-Spent-clause-some g c =
    let solver = c.decide.new.self in
    let told = rw c.in-Ok-Spent.field-0-is at c.in-Ok-Spent.ensures.found in
    (told.0, open_log solver.steps c.args.goal solver.trail (rw c.trail.ensures at c.are_entries.ensures) told.1)

pub returns-in-Err-clause-held : goal.returns-in-Err-clause-held
returns-in-Err-clause-held g c =
    held_grown c.args.subject.now c.args.progress.now.solver c.decide.new.self
    c.args.progress.now.brought.items c.requires.held
    c.decide.ensures.frame c.decide.ensures.grown

pub returns-in-Ok-Model-clause-tied : goal.returns-in-Ok-Model-clause-tied
returns-in-Ok-Model-clause-tied g c = λ p h. c.modelled.ensures.tied p (tied_grown c.args.subject.now (length c.args.progress.now.solver.frame.statements)
    c.args.progress.now.solver.steps c.decide.new.self.steps c.decide.ensures.grown p h)

pub returns-in-Ok-Proved-clause-tied : goal.returns-in-Ok-Proved-clause-tied
returns-in-Ok-Proved-clause-tied g c = tied_grown c.args.subject.now (length c.args.progress.now.solver.frame.statements)
    c.args.progress.now.solver.steps c.decide.new.self.steps c.decide.ensures.grown

pub returns-in-Ok-Empty-clause-tied : goal.returns-in-Ok-Empty-clause-tied
returns-in-Ok-Empty-clause-tied g c = tied_grown c.args.subject.now (length c.args.progress.now.solver.frame.statements)
    c.args.progress.now.solver.steps c.decide.new.self.steps c.decide.ensures.grown

pub returns-in-Ok-Spent-clause-tied : goal.returns-in-Ok-Spent-clause-tied
returns-in-Ok-Spent-clause-tied g c = tied_grown c.args.subject.now (length c.args.progress.now.solver.frame.statements)
    c.args.progress.now.solver.steps c.decide.new.self.steps c.decide.ensures.grown

pub returns-in-Err-clause-tied : goal.returns-in-Err-clause-tied
returns-in-Err-clause-tied g c = tied_grown c.args.subject.now (length c.args.progress.now.solver.frame.statements)
    c.args.progress.now.solver.steps c.decide.new.self.steps c.decide.ensures.grown
