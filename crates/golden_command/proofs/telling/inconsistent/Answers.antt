use Rattle.std.proofs.Common.{◌∙◌}
use Rattle.golden_command.specs.Text.{inconsistent_pieces}
use Rattle.golden_command.proofs.Written.{text_is}
use Rattle.golden_command.proofs.telling.inconsistent.Goals as goal

pub returns : goal.returns
returns c =
    c.into_text.ensures
    ∙ text_is c.write_inconsistent.new.into c.new-into.result inconsistent_pieces c.new-into.ensures
    c.in_ok-write_inconsistent.ensures
