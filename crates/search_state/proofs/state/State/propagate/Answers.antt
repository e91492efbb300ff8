use Rattle.std.proofs.Common.{◌≡◌, [], length, ap, subst, arith}
use Rattle.search_state.specs.States.{IsFalse, State}
use Rattle.search_state.proofs.Keeping.{kept_propagated}
use Rattle.search_state.proofs.Showing.{false_of, falsified_by, not_below, quiet_at_end, quiet_below}
use Rattle.search_state.proofs.state.State.propagate.Goals as goal

pub returns-in-Some-clause-conflict : goal.returns-in-Some-clause-conflict
returns-in-Some-clause-conflict c =
    let held = c.self.invariant.held in
    subst (λ (s : State). IsFalse s c.in-Some.place) c.self.view_is
    (false_of _ c.self.inside.search.arena c.in-Some.place held.reordered (held.stuck c.in-Some.place c.in-Some.is).falsified)

pub returns-in-Some-clause-level : goal.returns-in-Some-clause-level
returns-in-Some-clause-level c =
    let none = subst (λ (s : State). s.trail.starts ≡ []) c.self.view_is
    (c.self.invariant.held.stuck c.in-Some.place c.in-Some.is).starts in
    λ deep. absurd (omega (arith, deep, ap length none))

pub invariant_of-self : goal.invariant_of-self
invariant_of-self c =
    let search = c.self.inside.search in
    let ensured = c.propagate.ensures in
    kept_propagated _ _ search.arena c.propagate.new.arena search.trail c.propagate.new.trail search.refuted _
    c.in_default.is c.are_entries.ensures ensured.rewatched
    ensured.implies ensured.rule c.self.invariant

pub returns-in_default-propagate-clause-quiet : goal.returns-in_default-propagate-clause-quiet
returns-in_default-propagate-clause-quiet c =
    let search = c.self.inside.search in
    let ensured = c.propagate.ensures in
    let kept = kept_propagated _ _ search.arena c.propagate.new.arena search.trail c.propagate.new.trail
    search.refuted _ c.in_default.is c.are_entries.ensures ensured.rewatched
    ensured.implies ensured.rule c.self.invariant in
    quiet_at_end c.self.inside.log.steps c.propagate.new.arena c.propagate.new.trail kept.held.reordered
    (kept.held.goes_on c.in_default.is) c.in_default-propagate.ensures.at_rest

pub invariant_of-self-2 : goal.invariant_of-self-2
invariant_of-self-2 c =
    let search = c.self.inside.search in
    let ensured = c.propagate.ensures in
    kept_propagated _ _ search.arena c.propagate.new.arena search.trail c.propagate.new.trail search.refuted _
    c.in_default.is c.are_entries.ensures ensured.rewatched
    ensured.implies ensured.rule c.self.invariant

pub returns-clause-conflict : goal.returns-clause-conflict
returns-clause-conflict c =
    let search = c.self.inside.search in
    let ensured = c.propagate.ensures in
    let kept = kept_propagated _ _ search.arena c.propagate.new.arena search.trail c.propagate.new.trail
    search.refuted _ c.in_default.is c.are_entries.ensures ensured.rewatched
    ensured.implies ensured.rule c.self.invariant in
    false_of _ c.propagate.new.arena c.in-Some-propagate.clause.0 kept.held.reordered
    (falsified_by _ _ _ c.in-Some-propagate.ensures.conflict)

pub returns-clause-level : goal.returns-clause-level
returns-clause-level c =
    let search = c.self.inside.search in
    let ensured = c.propagate.ensures in
    let kept = kept_propagated _ _ search.arena c.propagate.new.arena search.trail c.propagate.new.trail
    search.refuted _ c.in_default.is c.are_entries.ensures ensured.rewatched
    ensured.implies ensured.rule c.self.invariant in
    let quiet = quiet_below c.self.inside.log.steps c.propagate.new.arena c.propagate.new.trail
    c.are_watchers.ensures c.are_entries-2.ensures kept.held.reordered
    (kept.held.goes_on c.in_default.is) in
    λ deep. not_below _ c.in-Some-propagate.clause.0 c.are_entries-2.ensures (quiet deep)
    (false_of _ c.propagate.new.arena c.in-Some-propagate.clause.0 kept.held.reordered
    (falsified_by _ _ _ c.in-Some-propagate.ensures.conflict))
