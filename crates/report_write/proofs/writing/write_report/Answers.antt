use Rattle.std.proofs.Common.{◌≡◌, ◌∙◌, ap, subst}
use Rattle.text_write.specs.Spacing.{Writing, start, writes_all}
use Rattle.text_write.proofs.Writings.{text_written}
use Rattle.report_write.specs.Pieces.{report_pieces}
use Rattle.report_write.proofs.writing.write_report.Goals as goal

pub returns : goal.returns
returns c =
    let pieces = report_pieces c.args.spec.now.relations c.args.report.now in
    let written : c.write_whole.new.into ≡ writes_all start pieces =
    subst (λ (w : Writing). c.write_whole.new.into ≡ writes_all w pieces) c.new-into.ensures c.in_ok-write_whole.ensures in
    c.into_text.ensures ∙ ap (λ (w : Writing). w.text) written ∙ text_written pieces
