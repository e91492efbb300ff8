use Rattle.std.proofs.Common.{◌≡◌, IfNone, List, [], Some, ap, sym, subst, ◌∙◌}
use Rattle.query_model.specs.declared.query.Atom.{Atom}
use Rattle.ucq_answers.specs.Found.{AddsMatches, IsMatchFrom}
use Rattle.ucq_answers.specs.Kept.{KeptAtom, atoms_of}
use Rattle.ucq_answers.specs.Partly.{joined_at}
use Rattle.ucq_answers.proofs.Several.{adds_then, last_step, one_step}
use Rattle.ucq_answers.proofs.match_search.+collect_matches.Goals as goal

pub collect_matches-returns-in_default : goal.collect_matches-returns-in_default
collect_matches-returns-in_default t c =
    let sought = c.args.sought.now in
    last_step sought.search.relations.now sought.search.conditions.now c.tests.result.now sought.atoms.now sought.number
    (atoms_of c.args.steps.now) c.args.values.now c.args.found.now c.add_matches.new.found c.tests.ensures
    (sym (ap atoms_of (subst (λ o. IfNone o (c.args.steps.now ≡ [])) c.in_default.is c.next_step.ensures.none)))
    c.if-not-passes.ensures c.in_ok-full.ensures

pub collect_matches-returns-then-branch : goal.collect_matches-returns-then-branch
collect_matches-returns-then-branch t c =
    let sought = c.args.sought.now in
    adds_then (IsMatchFrom sought.search.relations.now sought.search.conditions.now sought.atoms.now sought.number
    (atoms_of c.args.steps.now) c.args.values.now) c.args.found.now c.loop-ent.found c.matches_at.new.found c.loop-ent.invariant
    (subst (λ (l : List KeptAtom). AddsMatches (IsMatchFrom sought.search.relations.now sought.search.conditions.now
    sought.atoms.now sought.number (atoms_of l) c.args.values.now) c.loop-ent.found c.matches_at.new.found)
    (sym c.in-Some.ensures.some) c.in_ok-matches_at.ensures)

pub collect_matches-loop-ent-preserved : goal.collect_matches-loop-ent-preserved
collect_matches-loop-ent-preserved t c =
    let sought = c.args.sought.now in
    adds_then (IsMatchFrom sought.search.relations.now sought.search.conditions.now sought.atoms.now sought.number
    (atoms_of c.args.steps.now) c.args.values.now) c.args.found.now c.loop-ent.found c.matches_at.new.found c.loop-ent.invariant
    (subst (λ (l : List KeptAtom). AddsMatches (IsMatchFrom sought.search.relations.now sought.search.conditions.now
    sought.atoms.now sought.number (atoms_of l) c.args.values.now) c.loop-ent.found c.matches_at.new.found)
    (sym c.in-Some.ensures.some) c.in_ok-matches_at.ensures)

pub matches_at-returns : goal.matches_at-returns
matches_at-returns t c =
    let sought = c.args.sought.now in
    let conditions = sought.search.conditions.now in
    one_step sought.search.relations.now conditions sought.atoms.now sought.number c.args.step.now.atom
    (atoms_of c.args.rest.now) c.args.values.now c.in-Some.next c.args.ent c.args.found.now c.collect_matches.new.found
    (subst (λ (a : Atom). Some c.in-Some.next ≡ joined_at conditions.equalities sought.search.relations.now a c.args.values.now
    c.args.ent) c.atom.ensures (sym c.in-Some.is ∙ c.in_ok-next.ensures)) c.in_ok-full.ensures
