use Rattle.std.proofs.Common.{◌-◌}
use Rattle.explain_command.specs.Explained.{explain_said}
use Rattle.explain_command.proofs.ExplainStages.{explained, is_within}
use Rattle.explain_command.proofs.Writables.{explained_writable}
use Rattle.explain_command.proofs.explaining.reply.Goals as goal

pub explain-requires-clause-within : goal.explain-requires-clause-within
explain-requires-clause-within g c = is_within c.args.spec.now c.is_specification.ensures c.requires.within

pub printed_explained-requires : goal.printed_explained-requires
printed_explained-requires g c =
    explained_writable c.completions_are_writable.ensures c.args.spec.now
    (is_within c.args.spec.now c.is_specification.ensures c.requires.within) c.args.question.now (c.args.asked.unit - 1)
    c.args.asked.budget c.in-Ok.explained c.in-Ok.ensures

pub returns-in-Ok-clause-job : goal.returns-in-Ok-clause-job
returns-in-Ok-clause-job g c =
    explained c.args.spec.now (explain_said c.args.asked) c.args.question.now c.in-Ok.explained c.printed_explained.result
    c.in-Ok.ensures c.printed_explained.ensures.printed
