use Rattle.std.proofs.Common.{◌≡◌, ◌⊎◌, rules}
use Rattle.std.specs.Result.{IfErr}
use Rattle.log_replay.specs.declared.fault.StepFault.{StepFault}
use Rattle.log_replay.specs.declared.fault.StepFault.TheVariants.{NoMemory}
use Rattle.log_replay.specs.Replays.{IsStepRefusal}
use Rattle.log_replay.proofs.OneEnd.{no_fault_where_follows}
use Rattle.log_replay.proofs.replay.Replay.step.Goals as goal

pub returns-in_err-outcome-clause-exact : goal.returns-in_err-outcome-clause-exact
returns-in_err-outcome-clause-exact c = λ from.
    let refused : IfErr c.from_residual.result
    (λ (e : StepFault). (e ≡ NoMemory) ⊎ IsStepRefusal c.args.self.now c.args.lits.now c.args.hints.now e) =
    search rules in
    no_fault_where_follows c.args.self.now c.args.lits.now c.args.hints.now c.from_residual.result from refused
