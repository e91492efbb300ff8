use Rattle.std.proofs.Common.{◌∙◌, length, refl}
use Rattle.order_search.proofs.Growing.{held_grown, tied_grown, tied_with}
use Rattle.order_search.proofs.Models.{open_log}
use Rattle.order_search.proofs.PartNumbers.{goal_within}
use Rattle.order_search.proofs.partwise.one_round.Goals as goal

pub decide-requires : goal.decide-requires
decide-requires g c =
    goal_within c.args.subject.now c.args.parting.now c.args.part c.args.goal c.args.progress.now.solver.frame.statements
    c.requires.tied.parting.parts c.requires.tied.members c.requires.held.search.log.statements c.requires.goal

pub take_values-requires-clause-held : goal.take_values-requires-clause-held
take_values-requires-clause-held g c =
    held_grown c.args.subject.now c.args.progress.now.solver c.decide.new.self
    c.args.progress.now.brought.items c.requires.held
    c.decide.ensures.frame c.decide.ensures.grown

pub take_values-requires-clause-scope : goal.take_values-requires-clause-scope
take_values-requires-clause-scope g c = c.decide.ensures.scope ∙ c.requires.scope

pub take_values-requires-clause-tied : goal.take_values-requires-clause-tied
take_values-requires-clause-tied g c =
    tied_with c.args.subject.now c.args.parting.now c.args.progress.now.solver.steps c.decide.new.self.steps c.requires.tied
    (tied_grown c.args.subject.now (length c.args.progress.now.solver.frame.statements)
    c.args.progress.now.solver.steps c.decide.new.self.steps c.decide.ensures.grown)

pub returns-in-Ok-Model-clause-comes : goal.returns-in-Ok-Model-clause-comes
returns-in-Ok-Model-clause-comes g c = c.take_values.ensures.comes c.decide.new.budget

pub returns-in-Ok-Proved-clause-held : goal.returns-in-Ok-Proved-clause-held
returns-in-Ok-Proved-clause-held g c =
    held_grown c.args.subject.now c.args.progress.now.solver c.decide.new.self
    c.args.progress.now.brought.items c.requires.held
    c.decide.ensures.frame c.decide.ensures.grown

pub returns-in-Ok-Proved-clause-tied : goal.returns-in-Ok-Proved-clause-tied
returns-in-Ok-Proved-clause-tied g c =
    tied_with c.args.subject.now c.args.parting.now c.args.progress.now.solver.steps c.decide.new.self.steps c.requires.tied
    (tied_grown c.args.subject.now (length c.args.progress.now.solver.frame.statements)
    c.args.progress.now.solver.steps c.decide.new.self.steps c.decide.ensures.grown)

pub returns-in-Ok-Proved-clause-comes : goal.returns-in-Ok-Proved-clause-comes
returns-in-Ok-Proved-clause-comes g c = (refl, rw c.in-Ok-Proved.field-0-is at c.in-Ok-Proved.ensures.found)

pub returns-in-Ok-Empty-clause-held : goal.returns-in-Ok-Empty-clause-held
returns-in-Ok-Empty-clause-held g c =
    held_grown c.args.subject.now c.args.progress.now.solver c.decide.new.self
    c.args.progress.now.brought.items c.requires.held
    c.decide.ensures.frame c.decide.ensures.grown

pub returns-in-Ok-Empty-clause-tied : goal.returns-in-Ok-Empty-clause-tied
returns-in-Ok-Empty-clause-tied g c =
    tied_with c.args.subject.now c.args.parting.now c.args.progress.now.solver.steps c.decide.new.self.steps c.requires.tied
    (tied_grown c.args.subject.now (length c.args.progress.now.solver.frame.statements)
    c.args.progress.now.solver.steps c.decide.new.self.steps c.decide.ensures.grown)

pub returns-in-Ok-Empty-clause-comes : goal.returns-in-Ok-Empty-clause-comes
returns-in-Ok-Empty-clause-comes g c = (refl, rw c.in-Ok-Empty.field-0-is at c.in-Ok-Empty.ensures.found)

pub returns-in-Ok-Spent-clause-held : goal.returns-in-Ok-Spent-clause-held
returns-in-Ok-Spent-clause-held g c =
    held_grown c.args.subject.now c.args.progress.now.solver c.decide.new.self
    c.args.progress.now.brought.items c.requires.held
    c.decide.ensures.frame c.decide.ensures.grown

pub returns-in-Ok-Spent-clause-tied : goal.returns-in-Ok-Spent-clause-tied
returns-in-Ok-Spent-clause-tied g c =
    tied_with c.args.subject.now c.args.parting.now c.args.progress.now.solver.steps c.decide.new.self.steps c.requires.tied
    (tied_grown c.args.subject.now (length c.args.progress.now.solver.frame.statements)
    c.args.progress.now.solver.steps c.decide.new.self.steps c.decide.ensures.grown)

pub returns-in-Ok-Spent-clause-comes : goal.returns-in-Ok-Spent-clause-comes
returns-in-Ok-Spent-clause-comes g c =
    let solver = c.decide.new.self in
    let told = rw c.in-Ok-Spent.field-0-is at c.in-Ok-Spent.ensures.found in (
      refl,
      (told.0, open_log solver.steps c.args.goal solver.trail (rw c.trail.ensures at c.are_entries.ensures) told.1),
    )

pub returns-in-Err-clause-held : goal.returns-in-Err-clause-held
returns-in-Err-clause-held g c =
    held_grown c.args.subject.now c.args.progress.now.solver c.decide.new.self
    c.args.progress.now.brought.items c.requires.held
    c.decide.ensures.frame c.decide.ensures.grown

pub returns-in-Err-clause-tied : goal.returns-in-Err-clause-tied
returns-in-Err-clause-tied g c =
    tied_with c.args.subject.now c.args.parting.now c.args.progress.now.solver.steps c.decide.new.self.steps c.requires.tied
    (tied_grown c.args.subject.now (length c.args.progress.now.solver.frame.statements)
    c.args.progress.now.solver.steps c.decide.new.self.steps c.decide.ensures.grown)
