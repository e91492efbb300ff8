use Rattle.std.proofs.Common.{◌≡◌, ◌∙◌, ap, subst}
use Rattle.text_write.specs.Spacing.{Writing, start, writes_all}
use Rattle.text_write.proofs.Writings.{text_written}
use Rattle.explain_command.specs.Text.{explanation_pieces}
use Rattle.explain_command.proofs.needed.explanation_text.Goals as goal

pub returns : goal.returns
returns c =
    let pieces = explanation_pieces c.args.spec.now c.args.what c.args.needed.now in
    let written : c.write_explanation.new.into ≡ writes_all start pieces =
    subst (λ (w : Writing). c.write_explanation.new.into ≡ writes_all w pieces) c.new-into.ensures
    c.in_ok-write_explanation.ensures in
    c.into_text.ensures ∙ ap (λ (w : Writing). w.text) written ∙ text_written pieces
