use Rattle.std.proofs.Common.{◌≡◌, OnOk, codes, subst}
use Rattle.item_write.specs.Pieces.{head_pieces}
use Rattle.log_write.specs.Pieces.{symbol, word}
use Rattle.text_write.specs.Spacing.{Writing}
use Rattle.explain_command.specs.Text.{explains_pieces, needed_pieces}
use Rattle.explain_command.proofs.Sequence.{five_in_row}
use Rattle.explain_command.proofs.needed.write_explanation.Goals as goal

pub returns : goal.returns
returns c =
    subst (λ (w : Writing). OnOk c.symbol.result (c.symbol.new.self ≡ w))
    (five_in_row c.args.into.now c.write_head.new.into c.write_explains.new.into c.write_needed.new.into c.word.new.self
    (head_pieces (codes "explanation")) (explains_pieces c.args.what) (needed_pieces c.args.spec.now c.args.needed.now)
    (word (codes "end")) (symbol (codes ";"))
    c.in_ok-write_head.ensures c.in_ok-write_explains.ensures c.in_ok-write_needed.ensures c.in_ok-word.ensures)
    c.symbol.ensures
