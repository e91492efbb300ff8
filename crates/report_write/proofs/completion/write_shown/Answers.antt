use Rattle.std.proofs.Common.{◌≡◌, OnOk, subst, sym}
use Rattle.text_write.specs.Spacing.{Writing, writes_all}
use Rattle.report_write.specs.Pieces.{rankings_pieces}
use Rattle.report_write.proofs.completion.write_shown.Goals as goal

pub returns : goal.returns
returns c =
    subst (λ (w : Writing). OnOk c.write_rankings.result (c.write_rankings.new.into ≡ writes_all w
    (rankings_pieces c.args.spec.now.relations 0 c.args.shown.now)))
    (rw (sym c.in_ok-word.ensures) c.in_ok-symbol.ensures) c.write_rankings.ensures
