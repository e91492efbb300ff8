use Rattle.std.proofs.Common.{codes}
use Rattle.std.specs.Prelude.{option_map}
use Rattle.report_write.specs.Pieces.{report_pieces}
use Rattle.text_write.specs.Pieces.{text_of}
use Rattle.fact_write.specs.Open.{question_pieces}
use Rattle.fact_write.proofs.Ending.{ended, text_is}
use Rattle.fact_write.proofs.open.open_text.Goals as goal

pub returns : goal.returns
returns c =
    let pieces = question_pieces c.args.spec.now.relations (option_map (λ f. f.now) c.args.fact) in
    ended (text_of pieces) (text_of (report_pieces c.args.spec.now.relations c.args.report.now)) (codes "end;\n")
    c.write_question.new.into.text c.in_ok-text.text c.as_bytes.result.now c.append.new.into
    (text_is c.write_question.new.into c.new-into.result pieces c.new-into.ensures c.in_ok-write_question.ensures)
    c.in_ok-text.ensures c.as_bytes.ensures.value c.in_ok-append.ensures
