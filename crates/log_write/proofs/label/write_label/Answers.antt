use Rattle.std.proofs.Common.{◌≡◌, subst, sym, OnOk}
use Rattle.refutation_log.specs.Steps.{label_of}
use Rattle.refutation_log.specs.declared.step.LabelRef.{LabelRef}
use Rattle.text_write.specs.Spacing.{Writing, writes_all}
use Rattle.log_write.specs.Pieces.{label_pieces, triple_pieces}
use Rattle.log_write.proofs.label.write_label.Goals as goal

pub returns-in_ok-word-in-Transitive : goal.returns-in_ok-word-in-Transitive
returns-in_ok-word-in-Transitive c =
    let parts = c.in-Transitive in
    let written = subst (λ (w : Writing). OnOk c.write_triple.result (c.write_triple.new.into
    ≡ writes_all w (triple_pieces parts.rel parts.attr parts.first parts.second parts.third)))
    c.in_ok-word-in-Transitive.ensures c.write_triple.ensures in
    subst (λ (l : LabelRef). OnOk c.write_triple.result (c.write_triple.new.into ≡ writes_all c.args.into.now
    (label_pieces (label_of l))))
    (sym parts.is) written
