use Rattle.std.proofs.Common.{◌≡◌, ◌<◌, ◌∙◌, ℕ, List, [], ◌∷◌, ◌++◌, None, Some, is_some, true, length, slice_get, refl, sym, ap, subst}
use Rattle.currency_base.specs.declared.lit.Lit.{Lit}
use Rattle.search_trail.specs.Trails.{AreEntries, Trail, implied, lits_of, undone}
use Rattle.refutation_log.specs.Steps.{clauses_of}
use Rattle.refutation_log.specs.declared.step.Step.TheVariants.{Learn}
use Rattle.watch_propagate.specs.WatchRule.{IsDueTo}
use Rattle.search_state.specs.Held.{AreHeld, BeginsUnit, lowest_back}
use Rattle.search_state.specs.States.{IsFalse, IsNotBelow, State}
use Rattle.search_state.proofs.Concluding.{learned_as, learned_due, learned_of, learned_unit}
use Rattle.search_state.proofs.Holding.{held_as, held_undone, none_found}
use Rattle.search_state.proofs.Keeping.{as_many_clauses, fit_of, kept_more, kept_push, kept_steps}
use Rattle.search_state.proofs.Showing.{falsified_of, of_level, quiet_below}
use Rattle.search_state.proofs.state.State.learn.Goals as goal

pub learn-requires-clause-conflict : goal.learn-requires-clause-conflict
learn-requires-clause-conflict g c =
    falsified_of _ c.self.inside.search.arena c.args.conflict c.self.invariant.held.reordered
    (subst (λ (s : State). IsFalse s c.args.conflict) (sym c.self.view_is) c.requires.conflict)

pub learn-requires-clause-level : goal.learn-requires-clause-level
learn-requires-clause-level g c =
    of_level _ c.self.inside.search.arena c.args.conflict c.self.invariant.held.reordered
    (subst (λ (s : State). IsNotBelow s c.args.conflict) (sym c.self.view_is) c.requires.level)

pub invariant_of-self-in_default-note_learned : goal.invariant_of-self-in_default-note_learned
invariant_of-self-in_default-note_learned g c =
    let search = c.self.inside.search in
    let steps = c.self.inside.log.steps in
    let new = c.note_learned.new.search in
    kept_steps _ steps c.note_learned.new.steps new.arena new.trail new.refuted _ c.in_default-note_learned.ensures.err_steps
    (kept_more _ steps search.arena new.arena search.trail new.trail search.refuted new.refuted _
    c.learn.new.self.vars c.self.invariant
    (c.note_learned.ensures.held (clauses_of steps) c.self.invariant.held)
    (ap (λ (t : Trail). t.vars) c.note_learned.ensures.trail) c.note_learned.ensures.watchers c.learn.ensures.vars)

-- the trail where the search went back
pub put_unit-requires-clause-unit : goal.put_unit-requires-clause-unit
put_unit-requires-clause-unit g c =
    let search = c.self.inside.search in
    let l = c.learn.new.self in
    let back : c.go_back.new.trail ≡ undone search.trail (lowest_back l) =
    c.go_back.ensures ∙ ap (λ (n : ℕ). undone c.note_learned.new.search.trail n) c.back_of.ensures
    ∙ ap (λ (t : Trail). undone t (lowest_back l)) c.note_learned.ensures.trail in
    subst (λ (ls : List Lit). BeginsUnit (lits_of c.go_back.new.trail) ls) (sym c.lits.ensures)
    (subst (λ (t : Trail). BeginsUnit (lits_of t) l.lits) (sym back)
    (learned_unit search.arena search.trail l c.in-Ok.ensures.learned c.are_entries.ensures))

pub put_unit-requires-clause-due : goal.put_unit-requires-clause-due
put_unit-requires-clause-due g c =
    let search = c.self.inside.search in
    let l = c.learn.new.self in
    let back : c.go_back.new.trail ≡ undone search.trail (lowest_back l) =
    c.go_back.ensures ∙ ap (λ (n : ℕ). undone c.note_learned.new.search.trail n) c.back_of.ensures
    ∙ ap (λ (t : Trail). undone t (lowest_back l)) c.note_learned.ensures.trail in
    subst (λ (ls : List Lit). IsDueTo c.go_back.new.trail ls) (sym c.lits.ensures)
    (subst (λ (t : Trail). IsDueTo t l.lits) (sym back)
    (learned_due search.arena search.trail l c.in-Ok.ensures.learned c.are_entries.ensures))

pub invariant_of-self-2 : goal.invariant_of-self-2
invariant_of-self-2 g c =
    let search = c.self.inside.search in
    let steps = c.self.inside.log.steps in
    let noted = c.note_learned.new.search in
    let new = c.put_unit.new.self in
    let l = c.learn.new.self in
    let learned = c.in-Ok.ensures.learned in
    let clauses = clauses_of steps in
    let none = none_found search.refuted (ap (λ (s : State). s.refuted) c.self.view_is ∙ c.requires.open) in
    let are = subst AreEntries (sym c.note_learned.ensures.trail) c.are_entries.ensures in
    let held = held_as clauses noted.arena noted.trail noted.trail noted.refuted None refl
    (sym (c.note_learned.ensures.refuted ∙ none)) (c.note_learned.ensures.held clauses c.self.invariant.held) in
    let held_back = held_as clauses noted.arena (undone noted.trail c.back_of.result) c.go_back.new.trail None None
    c.go_back.ensures refl (held_undone clauses noted.arena noted.trail None c.back_of.result are held) in
    let put = subst (λ (ls : List Lit). AreHeld (clauses ++ ls ∷ []) new.arena new.trail new.refuted) c.lits.ensures
    (c.put_unit.ensures.held clauses held_back) in
    let head : slice_get c.lits.result.now 0 ≡ Some learned.first = ap (λ (ls : List Lit). slice_get ls 0)
    c.lits.ensures ∙ learned.is_first in
    let vars : new.trail.vars ≡ search.trail.vars =
    ap (λ (t : Trail). t.vars) (c.put_unit.ensures.trail learned.first head) ∙ ap (λ (t : Trail). t.vars)
    c.go_back.ensures ∙ ap (λ (t : Trail). t.vars) c.note_learned.ensures.trail in
    kept_push _ steps c.note_learned.new.steps (Learn l.lits l.hints true) search.arena new.arena search.trail
    new.trail search.refuted new.refuted _ l.vars c.self.invariant
    c.in-Ok-note_learned.ensures.steps (fit_of search.arena search.trail l.lits l.hints _ c.self.invariant.trail_vars
    learned.derived) put vars
    (c.put_unit.ensures.watchers ∙ c.note_learned.ensures.watchers) c.learn.ensures.vars

pub returns-clause-ok : goal.returns-clause-ok
returns-clause-ok g c =
    let search = c.self.inside.search in
    let steps = c.self.inside.log.steps in
    let l = c.learn.new.self in
    let learned = c.in-Ok.ensures.learned in
    let held = c.self.invariant.held in
    let none = none_found search.refuted (ap (λ (s : State). s.refuted) c.self.view_is ∙ c.requires.open) in
    let deep = subst (λ (s : State). 0 < length s.trail.starts) (sym c.self.view_is) c.requires.deep in
    let quiet = quiet_below steps search.arena search.trail c.are_watchers.ensures c.are_entries.ensures
    held.reordered (held.goes_on none) deep in
    let head : slice_get c.lits.result.now 0 ≡ Some learned.first = ap (λ (ls : List Lit). slice_get ls 0)
    c.lits.ensures ∙ learned.is_first in
    let back : c.go_back.new.trail ≡ undone search.trail (lowest_back l) =
    c.go_back.ensures ∙ ap (λ (n : ℕ). undone c.note_learned.new.search.trail n) c.back_of.ensures
    ∙ ap (λ (t : Trail). undone t (lowest_back l)) c.note_learned.ensures.trail in
    let count : length c.note_learned.new.search.arena.clauses ≡ length steps = c.note_learned.ensures.count
    ∙ as_many_clauses steps search.arena held.reordered in
    let trail : c.put_unit.new.self.trail ≡ implied (undone search.trail (lowest_back l)) learned.first (length steps) =
    c.put_unit.ensures.trail learned.first head
    ∙ ap (λ (t : Trail). implied t learned.first (length c.note_learned.new.search.arena.clauses)) back
    ∙ ap (implied (undone search.trail (lowest_back l)) learned.first) count in
    learned_as _ _ _ c.self.view_is
    (learned_of _ _ search.arena l learned held.reordered c.self.invariant.trail_vars c.are_entries.ensures quiet refl
    (ap is_some (c.put_unit.ensures.refuted ∙ c.note_learned.ensures.refuted)) c.in-Ok-note_learned.ensures.steps trail)
