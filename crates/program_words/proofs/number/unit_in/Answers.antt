use Rattle.std.proofs.Common.{◌∙◌, sym, arith}
use Rattle.program_words.proofs.Numerals.{number_in_range}
use Rattle.program_words.proofs.number.unit_in.Goals as goal

pub overflow_cast-result : goal.overflow_cast-result
overflow_cast-result c =
    let range = number_in_range 4294967295 c.in-Some-number_up_to.number c.in-Some.text.now
    (sym c.number_up_to.ensures ∙ c.in-Some-number_up_to.is) in
    omega (arith, range.1)
