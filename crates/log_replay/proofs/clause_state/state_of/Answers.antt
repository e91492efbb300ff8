use Rattle.std.proofs.Common.{List, take, sym, subst}
use Rattle.std.proofs.lemmas.List.{take_more}
use Rattle.currency_base.specs.declared.lit.Lit.{Lit}
use Rattle.log_replay.specs.Replays.{IsState}
use Rattle.log_replay.proofs.clause_state.state_of.Goals as goal

pub loop-lit-preserved : goal.loop-lit-preserved
loop-lit-preserved c =
    subst (λ (front : List Lit). IsState c.args.falses.now front c.state_with-state.result)
    (sym (take_more c.args.clause.now c.loop-lit.lit-index _ c.loop-lit-test.true))
    (c.state_with-state.ensures (take c.loop-lit.lit-index c.args.clause.now) c.loop-lit.invariant)
