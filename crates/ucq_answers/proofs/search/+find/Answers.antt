use Rattle.std.proofs.Common.{◌≡◌, ◌∙◌, arith, List, Some, get_or, subst, sym, take}
use Rattle.std.specs.List.{All}
use Rattle.std.proofs.lemmas.List.{take_all, take_more}
use Rattle.std.proofs.lemmas.List.Elements.{All-push}
use Rattle.currency_base.specs.declared.ids.EntId.{EntId}
use Rattle.query_model.specs.declared.query.Atom.{Atom}
use Rattle.query_model.specs.declared.query.Test.{Test}
use Rattle.ucq_answers.specs.Found.{IsFoundAt, NoneAt}
use Rattle.ucq_answers.specs.Kept.{FitKept, KeptAtom, atoms_of}
use Rattle.ucq_answers.specs.Lookups.{AreCandidates}
use Rattle.ucq_answers.specs.Partly.{IsSolution, joined_at, tuples_of}
use Rattle.ucq_answers.proofs.Keeping.{fewer, kept_on, unkept_none}
use Rattle.ucq_answers.proofs.Searching.{fails_all, never_any}
use Rattle.ucq_answers.proofs.search.+find.Goals as goal

pub find-returns-then-not-passes : goal.find-returns-then-not-passes
find-returns-then-not-passes t c = λ d is.
    fails_all c.args.search.now.relations.now c.args.search.now.conditions.now c.tests-tests.result.now
    (atoms_of c.args.steps.now) c.args.values.now d c.tests-tests.ensures c.if-not-passes.ensures is

pub find-find_at-requires : goal.find-find_at-requires
find-find_at-requires t c =
    let falls = fewer c.args.steps.now c.in-Some.rest.now c.in-Some.step.now c.in-Some.ensures.some in
    let count = c.decreases in (
      omega (arith, falls, count),
      subst (λ (l : List KeptAtom). FitKept c.args.search.now.relations.now c.args.search.now.conditions.now l c.args.values.now)
          c.in-Some.ensures.some c.requires,
    )

pub find-returns : goal.find-returns
find-returns t c = λ d is.
    let instance = c.args.search.now.relations.now in
    let conditions = c.args.search.now.conditions.now in
    let step = c.in-Some.step.now in
    let rest = atoms_of c.in-Some.rest.now in
    let b = c.args.values.now in
    let ents = c.candidates-ent-items.result.now in
    let none = subst (All (NoneAt instance conditions step.atom rest b))
    (take_all c.loop-ent.ent-index ents c.loop-ent-test.false) c.loop-ent.invariant in
    let are = subst (λ (a : Atom). AreCandidates (tuples_of instance a) conditions.tests a.terms b ents) c.atom.ensures
    (subst (λ (l : List Test). AreCandidates (tuples_of instance c.atom.result.now) l c.atom.result.now.terms b ents)
    c.tests-tests.ensures c.candidates-ent-items.ensures) in
    never_any instance conditions step.atom rest b ents are none d
    (subst (λ (l : List KeptAtom). IsSolution instance conditions (atoms_of l) b d) c.in-Some.ensures.some is)

pub find_at-returns-then-not-keeps : goal.find_at-returns-then-not-keeps
find_at-returns-then-not-keeps t c = unkept_none c.args.search.now.relations.now c.args.search.now.conditions.now c.args.step.now
    c.args.rest.now c.args.values.now c.args.ent c.requires (sym c.if-not-keeps.ensures)

pub find_at-find-requires : goal.find_at-find-requires
find_at-find-requires t c =
    let instance = c.args.search.now.relations.now in
    let conditions = c.args.search.now.conditions.now in
    let count = c.decreases in (
      omega (arith, count),
      kept_on instance conditions c.args.step.now c.args.rest.now c.args.values.now c.in-Some.next
          c.args.ent c.requires
          (subst (λ (a : Atom). Some c.in-Some.next ≡ joined_at conditions.equalities instance a c.args.values.now c.args.ent)
          c.atom.ensures (sym c.in-Some.is ∙ c.in_ok-next.ensures)),
    )

pub find-loop-ent-preserved : goal.find-loop-ent-preserved
find-loop-ent-preserved t c =
    let instance = c.args.search.now.relations.now in
    let conditions = c.args.search.now.conditions.now in
    let step = c.in-Some.step.now in
    let rest = atoms_of c.in-Some.rest.now in
    let b = c.args.values.now in
    let items = c.candidates-ent-items.result.now in
    let i = c.loop-ent.ent-index in
    let first : EntId = record { 0 = 0 } in
    let ent = get_or items i first in
    let none : NoneAt instance conditions step.atom rest b ent =
    subst (IsFoundAt instance conditions step.atom rest b ent) c.in_default-2.is c.in_ok-found.ensures in
    subst (All (NoneAt instance conditions step.atom rest b)) (sym (take_more items i first c.loop-ent-test.true))
    (All-push (NoneAt instance conditions step.atom rest b) (take i items) ent c.loop-ent.invariant none)
