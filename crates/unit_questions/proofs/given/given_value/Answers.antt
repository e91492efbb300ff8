use Rattle.std.proofs.Common.{◌∙◌, [], sym}
use Rattle.currency_base.specs.declared.value.Value.TheVariants.{Text}
use Rattle.unit_questions.proofs.Walks.{given_end, given_more}
use Rattle.unit_questions.proofs.given.given_value.Goals as goal

pub returns-then-place-tuple : goal.returns-then-place-tuple
returns-then-place-tuple c =
    sym (given_end c.args.head.now c.args.tuple.now c.args.var c.loop-place.place c.if-place-tuple.true) ∙ c.loop-place.invariant

pub loop-place-preserved : goal.loop-place-preserved
loop-place-preserved c =
    sym (given_more c.args.head.now c.args.tuple.now c.args.var c.loop-place.place 0 (Text []) c.loop-place-test.true
    c.if-place-tuple.false c.if-head-place.false)
    ∙ c.loop-place.invariant
