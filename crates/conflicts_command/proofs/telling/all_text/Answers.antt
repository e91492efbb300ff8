use Rattle.std.proofs.Common.{◌∙◌}
use Rattle.conflicts_command.specs.Text.{conflicts_pieces}
use Rattle.conflicts_command.proofs.Written.{text_is}
use Rattle.conflicts_command.proofs.telling.all_text.Goals as goal

pub returns : goal.returns
returns c =
    c.into_text.ensures
    ∙ text_is c.write_conflicts.new.into c.new-into.result (conflicts_pieces c.args.found.now) c.new-into.ensures
    c.in_ok-write_conflicts.ensures
