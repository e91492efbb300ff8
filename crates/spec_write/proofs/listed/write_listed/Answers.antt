use Rattle.std.proofs.Common.{◌≡◌, ap, subst, ◌∙◌, OnOk}
use Rattle.text_write.specs.Spacing.{writes_all}
use Rattle.spec_write.specs.Pieces.{listed_pieces, separator_pieces}
use Rattle.spec_write.proofs.ManyItems.{listed_more}
use Rattle.spec_write.proofs.listed.write_listed.Goals as goal

pub returns-in_ok-write-in-len1-up : goal.returns-in_ok-write-in-len1-up
returns-in_ok-write-in-len1-up g c =
    let separator = separator_pieces c.args.separator in
    let pieces = g.W.Written.pieces in
    let more = listed_more separator pieces c.as_slice.result.now c.first-item.result _ _ c.in-len1-up.len_at_least
    c.first-item.is c.in_ok-write-in-len1-up.ensures in
    let same = more ∙ ap (λ xs. writes_all c.args.into.now (listed_pieces separator pieces xs)) c.as_slice.ensures in
    subst (λ w. OnOk c.write_further.result (c.write_further.new.into ≡ w)) same c.write_further.ensures
