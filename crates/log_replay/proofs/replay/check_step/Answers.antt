use Rattle.std.proofs.Common.{◌≡◌, ◌+◌, ◌<◌, length, arith, inr}
use Rattle.std.proofs.lemmas.Option.{slice_get-get_or}
use Rattle.log_replay.proofs.Reached.{reached_more, follows_here, no_conflict_here, unknown_here}
use Rattle.log_replay.proofs.replay.check_step.Goals as goal

pub loop-place-preserved : goal.loop-place-preserved
loop-place-preserved c =
    let last : c.in-Some.last + 1 ≡ length c.args.hints.now = omega (arith, c.in-Some.ensures) in
    let within : c.loop-place.place < length c.args.hints.now = omega (arith, last, c.loop-place-test.true) in
    reached_more c.args.clauses.now c.args.lits.now c.args.hints.now c.loop-place.place _ c.loop-place.falses
    c.use_hint.new.falses
    c.loop-place.invariant (slice_get-get_or c.args.hints.now c.loop-place.place 0 within) c.in_ok-use_hint.ensures.used

pub returns-in-None-clause-refused : goal.returns-in-None-clause-refused
returns-in-None-clause-refused c =
    let last : c.in-Some.last + 1 ≡ length c.args.hints.now = omega (arith, c.in-Some.ensures) in
    inr (unknown_here c.args.clauses.now c.args.lits.now c.args.hints.now c.loop-place.place c.in-Some.last c.loop-place.falses
    (omega (arith, c.loop-place-test.false, c.loop-place.auto.place-end)) c.loop-place.invariant last c.in-None.ensures)

pub returns-in-Falsified-clause-follows : goal.returns-in-Falsified-clause-follows
returns-in-Falsified-clause-follows c =
    let last : c.in-Some.last + 1 ≡ length c.args.hints.now = omega (arith, c.in-Some.ensures) in
    follows_here c.args.clauses.now c.args.lits.now c.args.hints.now c.loop-place.place c.in-Some.last c.loop-place.falses
    c.in-Some-hint_state.state
    (omega (arith, c.loop-place-test.false, c.loop-place.auto.place-end)) c.loop-place.invariant last c.in-Falsified.is
    c.in-Some-hint_state.ensures

pub returns-in_default-state : goal.returns-in_default-state
returns-in_default-state c =
    let last : c.in-Some.last + 1 ≡ length c.args.hints.now = omega (arith, c.in-Some.ensures) in
    record {
      follows = tt;
      refused = inr (inr (no_conflict_here c.args.clauses.now c.args.lits.now c.args.hints.now c.loop-place.place c.in-Some.last
          c.loop-place.falses c.in-Some-hint_state.state
          (omega (arith, c.loop-place-test.false, c.loop-place.auto.place-end)) c.loop-place.invariant last
          c.in_default-state.not-Falsified
          c.in-Some-hint_state.ensures));
    }
