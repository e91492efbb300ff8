use Rattle.answer_texts.proofs.Answering.{is_answer, too_many_printed}
use Rattle.answer_texts.proofs.answers.report_on.Goals as goal

pub returns-in-Ok-clause-answer : goal.returns-in-Ok-clause-answer
returns-in-Ok-clause-answer g c =
    is_answer c.written_is_read.ensures c.args.spec.now c.args.question.now c.args.budget c.in-Ok.report
    c.is_specification.ensures.relations c.has_text_names.ensures
    (record {
      shown = c.in-Ok.ensures.shown;
      right = c.in-Ok.ensures.right;
      writable = c.in-Ok.ensures.writable;
      within = c.in-Ok.ensures.lists;
      enough = c.in-Ok.ensures.enough;
      first = c.in-Ok.ensures.first;
    })

pub returns-in-Err-clause-too_many : goal.returns-in-Err-clause-too_many
returns-in-Err-clause-too_many g c =
    too_many_printed c.args.spec.now c.args.question.now c.in-Err.fault c.of_ask.result c.in-Err.ensures.too_many
    c.of_ask.ensures.due
