use Rattle.std.proofs.Common.{◌∙◌}
use Rattle.report_write.specs.Pieces.{completion_pieces, differing}
use Rattle.possible_command.proofs.Written.{one_more}
use Rattle.possible_command.proofs.writing.write_each.Goals as goal

pub loop-completion-preserved : goal.loop-completion-preserved
loop-completion-preserved c =
    one_more (λ c'. completion_pieces c.args.spec.now.relations (differing c.args.first.now c')) c.args.later.now
    c.loop-completion.completion-index
    c.completion-item.result _ _ c.loop-completion-test.true c.completion-item.is c.in_ok-write_later.ensures
    ∙ c.loop-completion.invariant
