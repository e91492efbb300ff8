use Rattle.std.proofs.Common.{◌≡◌, ◌∙◌, ap, subst}
use Rattle.text_write.specs.Spacing.{Writing, start, writes_all}
use Rattle.text_write.proofs.Writings.{text_written}
use Rattle.report_write.specs.Pieces.{verdict_pieces}
use Rattle.report_write.proofs.writing.write_verdict.Goals as goal

pub returns : goal.returns
returns c =
    let pieces = verdict_pieces c.args.spec.now.relations c.args.report.now.verdict in
    let written : c.write_claimed.new.into ≡ writes_all start pieces =
    subst (λ (w : Writing). c.write_claimed.new.into ≡ writes_all w pieces) c.new-into.ensures
    c.in_ok-write_claimed.ensures in
    c.into_text.ensures ∙ ap (λ (w : Writing). w.text) written ∙ text_written pieces
