use Rattle.std.proofs.Common.{◌≡◌, OnOk, codes, subst}
use Rattle.log_write.specs.Pieces.{symbol, word}
use Rattle.text_write.specs.Spacing.{Writing}
use Rattle.possible_command.specs.Text.{candidate_pieces}
use Rattle.possible_command.proofs.Written.{three_in_row}
use Rattle.possible_command.proofs.writing.write_impossible.Goals as goal

pub returns : goal.returns
returns c =
    subst (λ (w : Writing). OnOk c.symbol.result (c.symbol.new.self ≡ w))
    (three_in_row c.args.into.now c.word.new.self c.write_candidate.new.into (word (codes "impossible"))
    (candidate_pieces c.args.spec.now.relations c.args.one.now) (symbol (codes ";"))
    c.in_ok-word.ensures c.in_ok-write_candidate.ensures)
    c.symbol.ensures
