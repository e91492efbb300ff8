use Rattle.std.proofs.Common.{◌<◌, rules, get_or, ◌∙◌}
use Rattle.program_words.proofs.Numerals.{number_read, nothing_read}
use Rattle.program_words.proofs.number.number_up_to.Goals as goal

pub returns-in-Ok : goal.returns-in-Ok
returns-in-Ok c =
    let low : 48 < get_or c.args.text.now 0 0 = search rules in
    c.at_most.ensures ∙ number_read c.args.text.now c.args.most c.in-Ok.number c.parse.result c.parse.ensures.value.0
    c.in-Ok.is low

pub returns-in-Err : goal.returns-in-Err
returns-in-Err c =
    let low : 48 < get_or c.args.text.now 0 0 = search rules in
    nothing_read c.args.text.now c.args.most c.parse.result c.in-Err.field-0 c.parse.ensures.value.0 c.in-Err.is
    c.ranges.most.fits low
