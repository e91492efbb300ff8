use Rattle.std.proofs.Common.{[], map}
use Rattle.text_tokens.specs.Lexeme.{lexeme_of}
use Rattle.log_syntax.specs.Reading.{begins_step, ended_step_at, no_step_said, stepped, steps_at}
use Rattle.log_syntax.proofs.StepRules.{same_steps}
use Rattle.log_syntax.proofs.Gathering.{begun}
use Rattle.log_syntax.proofs.step.steps.Goals as goal

pub returns : goal.returns
unfolding steps_at
returns c =
    begun (λ x. (x.0, map lexeme_of x.1.now)) c.gather.result stepped begins_step ended_step_at
    _ no_step_said (map lexeme_of c.args.tokens.now) 4294967294
    (same_steps c.new.result [] c.new-2.result [] c.new.ensures c.new-2.ensures) c.gather.ensures
