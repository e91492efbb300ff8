use Rattle.report_write.specs.Pieces.{report_pieces}
use Rattle.text_write.specs.Pieces.{text_of}
use Rattle.report_reread.proofs.Reread.{reads}
use Rattle.report_reread.proofs.laws.written_is_read.Goals as goal

pub returns : goal.returns
returns c = λ relations r are names of.
    let spelled = c.written_is_spelled.ensures relations r names of in
    reads relations r (text_of (report_pieces relations r)) spelled.0 spelled.1
    (c.tree_says_report.ensures relations r are of spelled.0 spelled.2)
