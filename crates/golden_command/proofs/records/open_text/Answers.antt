use Rattle.std.proofs.Common.{◌∙◌}
use Rattle.golden_command.specs.Text.{open_names}
use Rattle.golden_command.proofs.Written.{text_is}
use Rattle.golden_command.proofs.records.open_text.Goals as goal

pub returns : goal.returns
returns c =
    c.into_text.ensures
    ∙ text_is c.write_names.new.into c.new-into.result (open_names c.args.attrs.now c.args.fields.now) c.new-into.ensures
    c.in_ok-write_names.ensures
