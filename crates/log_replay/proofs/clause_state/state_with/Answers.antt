use Rattle.std.proofs.Common.{sym, ◌∙◌, subst}
use Rattle.std.proofs.lemmas.Bool.{false≢true}
use Rattle.log_replay.specs.declared.clause_state.ClauseState.{ClauseState}
use Rattle.log_replay.specs.Replays.{IsState}
use Rattle.log_replay.proofs.States.{state_with_false, state_with_first, state_by_same, state_by_other}
use Rattle.log_replay.proofs.clause_state.state_with.Goals as goal

pub returns-then-has : goal.returns-then-has
returns-then-has c =
    λ front was. state_with_false c.args.falses.now front c.args.lit c.args.state (c.has.ensures.marked c.if-has.true) was

pub returns-then-eq : goal.returns-then-eq
returns-then-eq c = λ front was.
    state_by_same c.args.falses.now front c.in-Unit.open c.args.lit c.eq.result c.eq.ensures c.if-eq.true
    (subst (λ (s : ClauseState). IsState c.args.falses.now front s) c.in-Unit.is was)

pub returns-in-Falsified : goal.returns-in-Falsified
returns-in-Falsified c = λ front was.
    state_with_first c.args.falses.now front c.args.lit
    (λ is_in. false≢true (sym c.if-has.false ∙ c.has.ensures.listed is_in))
    (subst (λ (s : ClauseState). IsState c.args.falses.now front s) c.in-Falsified.is was)

pub returns-else-eq : goal.returns-else-eq
returns-else-eq c = λ front was.
    state_by_other c.args.falses.now front c.in-Unit.open c.args.lit c.eq.result c.eq.ensures c.if-eq.false
    (λ is_in. false≢true (sym c.if-has.false ∙ c.has.ensures.listed is_in))
    (subst (λ (s : ClauseState). IsState c.args.falses.now front s) c.in-Unit.is was)
