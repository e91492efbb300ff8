use Rattle.std.proofs.Common.{ap}
use Rattle.std.specs.Option.{option_map}
use Rattle.watch_propagate.proofs.WalkGoes.{goes_on}
use Rattle.watch_propagate.proofs.WalkRounds.{going_begins, going_comes, going_false, going_falls, going_falls_off, going_on, going_on_off, going_ends, going_stands}
use Rattle.watch_propagate.proofs.propagation.go_through.Goals as goal

pub loop-at-init : goal.loop-at-init
loop-at-init c = going_begins _ _ _ _ c.requires.rule c.first_watcher-at.ensures

pub look_at-requires-clause-is_false : goal.look_at-requires-clause-is_false
look_at-requires-clause-is_false c = going_false _ _ _ _ _ _ _ c.loop-at.invariant c.requires.pending

pub look_at-requires-clause-comes : goal.look_at-requires-clause-comes
look_at-requires-clause-comes c = going_comes _ _ _ _ _ _ _ c.loop-at.invariant _ (ap (option_map (λ no. no.0)) c.in-Some.is)

pub next_watcher-at-requires : goal.next_watcher-at-requires
next_watcher-at-requires c = going_stands _ _ _ _ _ _ _ c.loop-at.invariant _ (ap (option_map (λ no. no.0)) c.in-Some.is)

-- the clause watches the literal still
pub loop-at-smaller-in-Stays : goal.loop-at-smaller-in-Stays
loop-at-smaller-in-Stays c =
    going_falls _ _ _ _ _ _ _ c.loop-at.invariant _ (ap (option_map (λ no. no.0)) c.in-Some.is)
    (c.are_watchers.ensures.once c.args.lit) _ c.next_watcher-at.ensures
    _ _ (c.look_at.ensures.stays c.in-Stays.is)

pub loop-at-preserved-in-Stays : goal.loop-at-preserved-in-Stays
loop-at-preserved-in-Stays c =
    going_on _ _ _ _ _ _ _ c.loop-at.invariant _ (ap (option_map (λ no. no.0)) c.in-Some.is)
    (c.are_watchers.ensures.once c.args.lit) _ c.next_watcher-at.ensures
    _ _ c.look_at.ensures.goes c.look_at.ensures.others (c.look_at.ensures.stays c.in-Stays.is)

-- or it watches it no more
pub loop-at-smaller : goal.loop-at-smaller
loop-at-smaller c =
    going_falls_off _ _ _ _ _ _ _ c.loop-at.invariant _ (ap (option_map (λ no. no.0)) c.in-Some.is)
    (c.are_watchers.ensures.once c.args.lit) _ c.next_watcher-at.ensures
    c.look_at.new.arena c.look_at.new.trail (c.look_at.ensures.leaves c.in-Leaves.is)

pub loop-at-preserved : goal.loop-at-preserved
loop-at-preserved c =
    going_on_off _ _ _ _ _ _ _ c.loop-at.invariant _ (ap (option_map (λ no. no.0)) c.in-Some.is)
    (c.are_watchers.ensures.once c.args.lit) _ c.next_watcher-at.ensures
    _ _ c.look_at.ensures.goes c.look_at.ensures.others (c.look_at.ensures.leaves c.in-Leaves.is)

-- or all its literals are false
pub returns-in-Fails-clause-goes : goal.returns-in-Fails-clause-goes
returns-in-Fails-clause-goes c = goes_on _ _ _ _ _ _ c.loop-at.invariant.goes c.look_at.ensures.goes

pub returns-clause-all : goal.returns-clause-all
returns-clause-all c = going_ends _ _ _ _ _ _ _ c.loop-at.invariant (ap (option_map (λ no. no.0)) c.in_default.is)
