use Rattle.std.proofs.Common.{◌∙◌, sym}
use Rattle.watch_propagate.proofs.Resting.{at_rest_at_end}
use Rattle.watch_propagate.proofs.WalkGoes.{implies_on, implies_same, rewatched_on, rewatched_same}
use Rattle.watch_propagate.proofs.WalkPasses.{all_gone, fewer_left, implies_passed, is_pending, passed_rule, pending_var, pending_within, still_pending}
use Rattle.watch_propagate.proofs.propagation.propagate.Goals as goal

pub loop-lit-init : goal.loop-lit-init
loop-lit-init c =
    record {
      rewatched = rewatched_same c.args.arena.now;
      implies = implies_same c.args.arena.now c.args.trail.now;
      rule = c.requires.rule;
    }

pub go_through-requires-clause-within : goal.go_through-requires-clause-within
go_through-requires-clause-within c =
    pending_var c.loop-lit.trail c.in-Some.lit c.negated.result c.are_entries.ensures c.negated.ensures
    (sym c.pending.ensures ∙ c.in-Some.is)

pub returns-in-Some-go_through-clause-rewatched : goal.returns-in-Some-go_through-clause-rewatched
returns-in-Some-go_through-clause-rewatched c = rewatched_on _ _ _ c.loop-lit.invariant.rewatched
    c.go_through.ensures.goes.rewatched

pub returns-in-Some-go_through-clause-implies : goal.returns-in-Some-go_through-clause-implies
returns-in-Some-go_through-clause-implies c =
    implies_on _ _ _ _ _ c.go_through.ensures.goes.rewatched c.loop-lit.invariant.implies c.go_through.ensures.goes.implies

pub pass-requires : goal.pass-requires
pass-requires c =
    let goes = c.go_through.ensures.goes in
    let pending = is_pending c.loop-lit.trail c.in-Some.lit c.negated.result c.negated.ensures
    (sym c.pending.ensures ∙ c.in-Some.is) in
    pending_within c.go_through.new.trail c.go_through.new.trail.gone _
    (still_pending _ _ c.loop-lit.trail c.go_through.new.trail c.negated.result goes pending)

pub loop-lit-smaller : goal.loop-lit-smaller
loop-lit-smaller c =
    fewer_left _ _ c.loop-lit.trail _ _ c.in-Some.lit c.are_entries.ensures c.go_through.ensures.goes c.pass.ensures
    (sym c.pending.ensures ∙ c.in-Some.is)

pub loop-lit-preserved : goal.loop-lit-preserved
loop-lit-preserved c =
    let goes = c.go_through.ensures.goes in
    let pending = is_pending c.loop-lit.trail c.in-Some.lit c.negated.result c.negated.ensures
    (sym c.pending.ensures ∙ c.in-Some.is) in
    let later = still_pending _ _ c.loop-lit.trail c.go_through.new.trail c.negated.result goes pending in
    rw c.pass.ensures
    (record {
      rewatched = rewatched_on _ _ _ c.loop-lit.invariant.rewatched goes.rewatched;
      implies = implies_passed _ _ _ (implies_on _ _ _ _ _ goes.rewatched c.loop-lit.invariant.implies goes.implies);
      rule = passed_rule _ c.go_through.new.trail c.negated.result goes.rule later c.in_default-go_through.ensures.all;
    })

pub returns-clause-gone : goal.returns-clause-gone
returns-clause-gone c = all_gone _ c.are_entries-2.ensures (sym c.pending.ensures ∙ c.in_default.is)

pub returns-clause-at_rest : goal.returns-clause-at_rest
returns-clause-at_rest c =
    at_rest_at_end _ c.loop-lit.trail c.are_watchers.ensures c.are_entries-2.ensures c.loop-lit.invariant.rule
    (all_gone _ c.are_entries-2.ensures (sym c.pending.ensures ∙ c.in_default.is))
