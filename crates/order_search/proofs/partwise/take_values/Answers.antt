use Rattle.std.proofs.Common.{ℕ, subst, sym}
use Rattle.order_search.specs.Tied.{IsTied}
use Rattle.order_search.specs.declared.parting.Parting.{Parting}
use Rattle.order_search.proofs.Growing.{tied_with}
use Rattle.order_search.proofs.PartCycles.{belied_as, belied_lists, part_on}
use Rattle.order_search.proofs.PartMade.{made_of, taken_as}
use Rattle.order_search.proofs.PartValues.{members_as, model_as, on_part, scope_true}
use Rattle.order_search.proofs.TiedSteps.{taken_tied}
use Rattle.order_search.proofs.partwise.take_values.Goals as goal

pub replace-requires-clause-values : goal.replace-requires-clause-values
replace-requires-clause-values g c =
    let s = c.args.subject.now in
    let parting = c.args.parting.now in
    let solver = c.args.progress.now.solver in
    let marks = c.args.progress.now.brought.items in
    let tied = c.requires.tied in
    let is = on_part s parting solver c.args.goal c.args.part marks c.trail.result.now c.requires.held c.is_solver.ensures.vars
    c.is_solver.ensures.fit c.trail.ensures c.are_entries.ensures c.requires.scope c.requires.model in
    model_as s parting solver c.args.goal c.args.part tied.parting.parts tied.members is c.values_are_models.ensures marks
    c.requires.held c.values-values.result.now c.trail-2.result.now c.values-values.ensures c.trail-2.ensures

pub replace-requires-clause-beside : goal.replace-requires-clause-beside
replace-requires-clause-beside g c =
    let s = c.args.subject.now in
    let parting = c.args.parting.now in
    let solver = c.args.progress.now.solver in
    let marks = c.args.progress.now.brought.items in
    let tied = c.requires.tied in
    let is = on_part s parting solver c.args.goal c.args.part marks c.trail.result.now c.requires.held c.is_solver.ensures.vars
    c.is_solver.ensures.fit c.trail.ensures c.are_entries.ensures c.requires.scope c.requires.model in
    members_as s parting solver c.args.goal c.args.part tied.parting.parts tied.members is c.values-values.result.now
    c.trail-2.result.now c.values-values.ensures c.trail-2.ensures

pub returns-in-Ok-None-clause-comes : goal.returns-in-Ok-None-clause-comes
returns-in-Ok-None-clause-comes g c = λ (left : ℕ).
    let s = c.args.subject.now in
    let parting = c.args.parting.now in
    let solver = c.args.progress.now.solver in
    let is = on_part s parting solver c.args.goal c.args.part c.args.progress.now.brought.items c.trail.result.now c.requires.held
    c.is_solver.ensures.vars c.is_solver.ensures.fit c.trail.ensures c.are_entries.ensures c.requires.scope c.requires.model in
    made_of s parting solver c.args.goal c.args.part is c.requires.goal c.replace.new.parting
    (taken_as s parting c.replace.new.parting solver c.args.part c.values-values.result.now c.trail-2.result.now
    c.values-values.ensures c.trail-2.ensures (rw c.in-Ok-None.field-0-is at c.in-Ok-None.ensures.taken))

pub returns-in-Ok-None-clause-tied : goal.returns-in-Ok-None-clause-tied
returns-in-Ok-None-clause-tied g c =
    let s = c.args.subject.now in
    let parting = c.args.parting.now in
    let solver = c.args.progress.now.solver in
    let tied = c.requires.tied in
    let is = on_part s parting solver c.args.goal c.args.part c.args.progress.now.brought.items c.trail.result.now c.requires.held
    c.is_solver.ensures.vars c.is_solver.ensures.fit c.trail.ensures c.are_entries.ensures c.requires.scope c.requires.model in
    let taken = taken_as s parting c.replace.new.parting solver c.args.part c.values-values.result.now c.trail-2.result.now
    c.values-values.ensures c.trail-2.ensures (rw c.in-Ok-None.field-0-is at c.in-Ok-None.ensures.taken) in
    taken_tied c.variables_have_parts.ensures.disjoint c.variables_have_parts.ensures.answers s parting c.replace.new.parting
    c.args.part _ solver.steps tied taken
    (λ clause is_in of. scope_true s parting solver c.args.goal c.args.part tied.parting.parts tied.members is parting.known.truths
    c.replace.new.parting.known.truths taken.truths clause is_in of)

pub bring_all-requires-clause-cycles : goal.bring_all-requires-clause-cycles
bring_all-requires-clause-cycles g c =
    belied_lists c.args.subject.now c.args.parting.now.parts c.values-values.result.now.given c.args.part c.args.parting.now.known
    c.in-Ok-Some.cycles (rw c.in-Ok-Some.field-0-is at c.in-Ok-Some.ensures.belied)

pub returns-in_err-bring_all-in-Ok-Some-clause-tied : goal.returns-in_err-bring_all-in-Ok-Some-clause-tied
returns-in_err-bring_all-in-Ok-Some-clause-tied g c =
    tied_with c.args.subject.now c.replace.new.parting c.args.progress.now.solver.steps c.bring_all.new.progress.solver.steps
    (subst (λ (x : Parting). IsTied c.args.subject.now x c.args.progress.now.solver.steps)
    (sym (rw c.in-Ok-Some.field-0-is at c.in-Ok-Some.ensures.cycles)) c.requires.tied) c.bring_all.ensures.tied

pub returns-in_ok-bring_all-in-Ok-Some-clause-tied : goal.returns-in_ok-bring_all-in-Ok-Some-clause-tied
returns-in_ok-bring_all-in-Ok-Some-clause-tied g c =
    tied_with c.args.subject.now c.replace.new.parting c.args.progress.now.solver.steps c.bring_all.new.progress.solver.steps
    (subst (λ (x : Parting). IsTied c.args.subject.now x c.args.progress.now.solver.steps)
    (sym (rw c.in-Ok-Some.field-0-is at c.in-Ok-Some.ensures.cycles)) c.requires.tied) c.bring_all.ensures.tied

pub returns-in_ok-bring_all-in-Ok-Some-clause-comes : goal.returns-in_ok-bring_all-in-Ok-Some-clause-comes
returns-in_ok-bring_all-in-Ok-Some-clause-comes g c = λ (left : ℕ).
    let s = c.args.subject.now in
    let parting = c.args.parting.now in
    let solver = c.args.progress.now.solver in
    let tied = c.requires.tied in
    let is = on_part s parting solver c.args.goal c.args.part c.args.progress.now.brought.items c.trail.result.now c.requires.held
    c.is_solver.ensures.vars c.is_solver.ensures.fit c.trail.ensures c.are_entries.ensures c.requires.scope c.requires.model in
    let belied = belied_as s parting solver c.args.part c.in-Ok-Some.cycles c.values-values.result.now c.trail-2.result.now
    c.values-values.ensures c.trail-2.ensures (rw c.in-Ok-Some.field-0-is at c.in-Ok-Some.ensures.belied) in (
      rw c.in-Ok-Some.field-0-is at c.in-Ok-Some.ensures.cycles,
      c.in_ok-bring_all-in-Ok-Some.ensures.fewer belied.truths
          (part_on s parting solver c.args.goal c.args.part tied.parting.parts tied.members is c.in-Ok-Some.cycles belied)
          belied.round.each belied.round.some,
    )
