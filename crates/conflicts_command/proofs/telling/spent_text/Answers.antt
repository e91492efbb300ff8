use Rattle.std.proofs.Common.{◌≡◌, ◌++◌, ℕ, List, IfOk, codes, subst}
use Rattle.item_write.specs.Pieces.{head_pieces, items_pieces}
use Rattle.report_write.specs.Pieces.{report_pieces}
use Rattle.text_write.specs.Pieces.{text_of}
use Rattle.conflicts_command.specs.Text.{entity_lines}
use Rattle.conflicts_command.proofs.Written.{text_is}
use Rattle.conflicts_command.proofs.telling.spent_text.Goals as goal

pub returns : goal.returns
returns c =
    let part = c.args.part.now in
    let items = items_pieces part c.args.items.now in
    let report = text_of (report_pieces c.args.tried.now.relations c.args.report.now) in
    let front = text_is c.write_front.new.into c.new-into.result
    (head_pieces (codes "conflicts") ++ entity_lines part ++ items) c.new-into.ensures c.in_ok-write_front.ensures in
    subst (λ (bytes : List ℕ). IfOk c.with_report.result (λ (text : List ℕ). text ≡ bytes ++ report)) front
    c.with_report.ensures
