use Rattle.std.proofs.Common.{◌∙◌, ◌++◌, codes}
use Rattle.item_write.specs.Pieces.{head_pieces}
use Rattle.report_write.specs.Pieces.{completions_pieces}
use Rattle.possible_command.proofs.Written.{text_is}
use Rattle.possible_command.proofs.writing.whole_front.Goals as goal

pub returns : goal.returns
returns c =
    c.into_text.ensures
    ∙ text_is c.write_whole_front.new.into c.new-into.result
    (head_pieces (codes "possible") ++ completions_pieces c.args.spec.now.relations c.args.completions.now)
    c.new-into.ensures c.in_ok-write_whole_front.ensures
