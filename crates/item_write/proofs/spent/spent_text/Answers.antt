use Rattle.std.proofs.Common.{◌≡◌, ◌∙◌, ◌++◌, ℕ, List, IfOk, ap, subst}
use Rattle.report_write.specs.Pieces.{report_pieces}
use Rattle.text_write.specs.Pieces.{text_of}
use Rattle.text_write.specs.Spacing.{Writing, start, writes_all}
use Rattle.text_write.proofs.Writings.{text_written}
use Rattle.item_write.specs.Pieces.{head_pieces, items_pieces}
use Rattle.item_write.proofs.spent.spent_text.Goals as goal

pub returns : goal.returns
returns c =
    let pieces = head_pieces c.args.form.now ++ items_pieces c.args.spec.now c.args.items.now in
    let written : c.write_front.new.into ≡ writes_all start pieces =
    subst (λ (w : Writing). c.write_front.new.into ≡ writes_all w pieces) c.new-into.ensures c.in_ok-write_front.ensures in
    let front : c.write_front.new.into.text ≡ text_of pieces = ap (λ (w : Writing). w.text) written ∙ text_written pieces in
    subst (λ (bytes : List ℕ). IfOk c.with_report.result (λ (text : List ℕ). text ≡ bytes
    ++ text_of (report_pieces c.args.part.now.relations c.args.report.now)))
    front c.with_report.ensures
