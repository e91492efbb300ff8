use Rattle.std.proofs.Common.{◌∙◌, ap, length, refl, sym, string_bytes}
use Rattle.std.proofs.lemmas.Option.{slice_get_read}
use Rattle.report_model.specs.Verdicts.{is_decided}
use Rattle.command_stages.proofs.Outcomes.{is_no_fault, not_the_words}
use Rattle.trial_command.proofs.Trials.{all_summed, none_so_far, one_more, past_limit, spent_printed}
use Rattle.trial_command.proofs.trial.tried.Goals as goal

pub loop-place-init : goal.loop-place-init
loop-place-init g c = none_so_far c.args.size c.args.spec.now c.args.questions.now (string_bytes c.in-Ok.summary) c.in-Ok.ensures

pub returns-in-Err-clause-job : goal.returns-in-Err-clause-job
returns-in-Err-clause-job g c =
    past_limit c.args.size c.args.spec.now c.args.questions.now c.loop-place.place c.index-questions-place.result c.in-Err.trouble
    (slice_get_read c.args.questions.now (length c.args.questions.now) c.loop-place.place
    c.index-questions-place.result refl c.loop-place-test.true c.index-questions-place.is)
    c.in-Err.ensures.too_many

pub returns-then-not-is_decided-clause-job : goal.returns-then-not-is_decided-clause-job
returns-then-not-is_decided-clause-job g c =
    spent_printed c.args.size c.args.spec.now c.args.questions.now c.loop-place.place
    (string_bytes c.loop-place.summary) c.index-questions-place.result
    c.in-Ok-report_on.report c.printed_report.result c.loop-place.invariant
    (slice_get_read c.args.questions.now (length c.args.questions.now) c.loop-place.place
    c.index-questions-place.result refl c.loop-place-test.true c.index-questions-place.is)
    c.in-Ok-report_on.ensures.answer (ap is_decided (sym c.kind.ensures) ∙ sym c.is_decided.ensures ∙ c.if-not-is_decided.true)
    c.printed_report.ensures.printed c.printed_report.ensures.memory

pub returns-then-not-is_decided-clause-inside : goal.returns-then-not-is_decided-clause-inside
returns-then-not-is_decided-clause-inside g c = is_no_fault c.printed_report.result c.printed_report.ensures.memory

pub returns-then-not-is_decided-clause-not_words : goal.returns-then-not-is_decided-clause-not_words
returns-then-not-is_decided-clause-not_words g c = not_the_words c.printed_report.result c.printed_report.ensures.memory

pub loop-place-preserved : goal.loop-place-preserved
loop-place-preserved g c =
    one_more c.args.size c.args.spec.now c.args.questions.now c.loop-place.place c.index-questions-place.result
    c.in-Ok-report_on.report
    (string_bytes c.loop-place.summary) (string_bytes c.note.new.summary) c.loop-place.invariant
    (slice_get_read c.args.questions.now (length c.args.questions.now) c.loop-place.place
    c.index-questions-place.result refl c.loop-place-test.true c.index-questions-place.is)
    c.in-Ok-report_on.ensures.answer (ap is_decided (sym c.kind.ensures) ∙ sym c.is_decided.ensures
    ∙ c.if-not-is_decided.false) c.in-Ok-note.ensures

pub returns-clause-job : goal.returns-clause-job
returns-clause-job g c determined =
    all_summed c.args.size c.args.spec.now c.args.questions.now c.loop-place.place
    (string_bytes c.loop-place.summary) c.bytes_of.result
    c.loop-place.invariant c.loop-place-test.false c.bytes_of.ensures
