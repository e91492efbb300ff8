use Rattle.std.proofs.Common.{◌∙◌, ◌++◌}
use Rattle.report_write.specs.Pieces.{completions_pieces}
use Rattle.possible_command.specs.Text.{brief_head}
use Rattle.possible_command.proofs.Written.{text_is}
use Rattle.possible_command.proofs.writing.brief_front.Goals as goal

pub returns : goal.returns
returns c =
    c.into_text.ensures
    ∙ text_is c.write_brief_front.new.into c.new-into.result
    (brief_head ++ completions_pieces c.args.spec.now.relations c.args.completions.now)
    c.new-into.ensures c.in_ok-write_brief_front.ensures
