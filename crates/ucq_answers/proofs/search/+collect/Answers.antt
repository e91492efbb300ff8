use Rattle.std.proofs.Common.{◌≡◌, arith, List, Some, ◌+◌, ◌∙◌, ap, get_or, take, sym, subst}
use Rattle.std.proofs.lemmas.List.{take_all, take_more}
use Rattle.currency_base.specs.declared.ids.EntId.{EntId}
use Rattle.query_model.specs.declared.query.Atom.{Atom}
use Rattle.query_model.specs.declared.query.Test.{Test}
use Rattle.ucq_answers.specs.Kept.{FitKept, KeptAtom, atoms_of}
use Rattle.ucq_answers.specs.Lookups.{AreCandidates}
use Rattle.ucq_answers.specs.Partly.{IsHeadOfSome, joined_at, tuples_of}
use Rattle.ucq_answers.proofs.Collecting.{Going, adds_none, all_tried, at_some, step_more, stopped}
use Rattle.ucq_answers.proofs.Keeping.{adds_unkept, fewer, kept_on}
use Rattle.ucq_answers.proofs.Searching.{fails_all}
use Rattle.ucq_answers.proofs.search.+collect.Goals as goal

pub collect-returns-then-not-passes : goal.collect-returns-then-not-passes
collect-returns-then-not-passes t c =
    let instance = c.args.search.now.relations.now in
    let conditions = c.args.search.now.conditions.now in
    adds_none (IsHeadOfSome instance conditions c.args.search.now.head.now (atoms_of c.args.steps.now)
    c.args.values.now) c.args.answers.now
    (λ tuple is. fails_all instance conditions c.tests-tests.result.now (atoms_of c.args.steps.now) c.args.values.now is.values
    c.tests-tests.ensures c.if-not-passes.ensures is.solution)

pub collect-returns-then-branch : goal.collect-returns-then-branch
collect-returns-then-branch t c =
    let g : Going =
    record {
      instance = c.args.search.now.relations.now;
      conditions = c.args.search.now.conditions.now;
      head = c.args.search.now.head.now;
      steps = atoms_of c.args.steps.now;
      atom = c.in-Some-next_step.step.now.atom;
      rest = atoms_of c.in-Some-next_step.rest.now;
      b = c.args.values.now;
    } in
    let items = c.candidates-ent-items.result.now in
    let i = c.loop-ent.ent-index in
    let first : EntId = record { 0 = 0 } in
    stopped g (take i items) (get_or items i first) c.args.answers.now c.loop-ent.answers
    c.collect_at.new.answers c.in_ok-collect_at.field-0 (ap atoms_of c.in-Some-next_step.ensures.some)
    c.if-branch.true c.loop-ent.invariant c.in_ok-collect_at.ensures

pub collect-loop-ent-preserved : goal.collect-loop-ent-preserved
collect-loop-ent-preserved t c =
    let g : Going =
    record {
      instance = c.args.search.now.relations.now;
      conditions = c.args.search.now.conditions.now;
      head = c.args.search.now.head.now;
      steps = atoms_of c.args.steps.now;
      atom = c.in-Some-next_step.step.now.atom;
      rest = atoms_of c.in-Some-next_step.rest.now;
      b = c.args.values.now;
    } in
    let items = c.candidates-ent-items.result.now in
    let i = c.loop-ent.ent-index in
    let first : EntId = record { 0 = 0 } in
    step_more g (take i items) (take (i + 1) items) (get_or items i first) c.args.answers.now
    c.loop-ent.answers c.collect_at.new.answers c.in_ok-collect_at.field-0
    (take_more items i first c.loop-ent-test.true) c.if-branch.false
    c.loop-ent.invariant c.in_ok-collect_at.ensures

pub collect-returns : goal.collect-returns
collect-returns t c =
    let g : Going =
    record {
      instance = c.args.search.now.relations.now;
      conditions = c.args.search.now.conditions.now;
      head = c.args.search.now.head.now;
      steps = atoms_of c.args.steps.now;
      atom = c.in-Some-next_step.step.now.atom;
      rest = atoms_of c.in-Some-next_step.rest.now;
      b = c.args.values.now;
    } in
    let items = c.candidates-ent-items.result.now in
    all_tried g items (take c.loop-ent.ent-index items) c.args.answers.now c.loop-ent.answers
    (ap atoms_of c.in-Some-next_step.ensures.some) (take_all c.loop-ent.ent-index items c.loop-ent-test.false)
    (subst (λ (a : Atom). AreCandidates (tuples_of g.instance a) g.conditions.tests a.terms g.b items) c.atom.ensures
    (subst (λ (l : List Test). AreCandidates (tuples_of g.instance c.atom.result.now) l c.atom.result.now.terms g.b items)
    c.tests-tests.ensures c.candidates-ent-items.ensures)) c.loop-ent.invariant

pub collect_at-returns : goal.collect_at-returns
collect_at-returns t c =
    let g : Going =
    record {
      instance = c.args.search.now.relations.now;
      conditions = c.args.search.now.conditions.now;
      head = c.args.search.now.head.now;
      steps = atoms_of c.args.rest.now;
      atom = c.args.step.now.atom;
      rest = atoms_of c.args.rest.now;
      b = c.args.values.now;
    } in
    at_some g c.args.ent c.in-Some.next c.args.answers.now c.collect.new.answers c.in_ok-full.full
    (subst (λ (a : Atom). Some c.in-Some.next ≡ joined_at g.conditions.equalities g.instance a g.b c.args.ent) c.atom.ensures
    (sym c.in-Some.is ∙ c.in_ok-next.ensures)) c.in_ok-full.ensures

pub collect-add_found-requires : goal.collect-add_found-requires
collect-add_found-requires t c = c.requires

pub collect-collect_at-requires : goal.collect-collect_at-requires
collect-collect_at-requires t c =
    let falls = fewer c.args.steps.now c.in-Some-next_step.rest.now c.in-Some-next_step.step.now
    c.in-Some-next_step.ensures.some in
    let count = c.decreases in (
      omega (arith, falls, count),
      subst (λ (l : List KeptAtom). FitKept c.args.search.now.relations.now c.args.search.now.conditions.now l c.args.values.now)
          c.in-Some-next_step.ensures.some c.requires,
    )

pub collect_at-returns-then-not-keeps : goal.collect_at-returns-then-not-keeps
collect_at-returns-then-not-keeps t c = adds_unkept c.args.search.now.relations.now c.args.search.now.conditions.now
    c.args.search.now.head.now c.args.step.now c.args.rest.now c.args.values.now c.args.ent c.args.answers.now c.requires
    (sym c.if-not-keeps.ensures)

pub collect_at-collect-requires : goal.collect_at-collect-requires
collect_at-collect-requires t c =
    let instance = c.args.search.now.relations.now in
    let conditions = c.args.search.now.conditions.now in
    let count = c.decreases in (
      omega (arith, count),
      kept_on instance conditions c.args.step.now c.args.rest.now c.args.values.now c.in-Some.next
          c.args.ent c.requires
          (subst (λ (a : Atom). Some c.in-Some.next ≡ joined_at conditions.equalities instance a c.args.values.now c.args.ent)
          c.atom.ensures (sym c.in-Some.is ∙ c.in_ok-next.ensures)),
    )
