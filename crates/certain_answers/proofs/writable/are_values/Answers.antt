use Rattle.std.proofs.Common.{length, refl}
use Rattle.std.proofs.lemmas.Option.{slice_get_read}
use Rattle.currency_base.specs.Values.{IsValue}
use Rattle.certain_answers.proofs.Fronts.{all_more, all_taken}
use Rattle.certain_answers.proofs.writable.are_values.Goals as goal

pub loop-value-preserved : goal.loop-value-preserved
loop-value-preserved c =
    let xs = c.args.values.now in
    let at = slice_get_read xs (length xs) c.loop-value.value-index c.value-item.result refl c.loop-value-test.true
    c.value-item.is in
    all_more IsValue xs c.loop-value.value-index c.value-item.result at c.loop-value.invariant c.is_value.ensures

pub returns : goal.returns
returns c = all_taken IsValue c.args.values.now c.loop-value.value-index c.loop-value-test.false c.loop-value.invariant
