use Rattle.std.proofs.Common.{◌∙◌, [], ◌∷◌, ◌++◌, Some, ap, get_or, sym}
use Rattle.currency_base.specs.declared.value.Value.{Value}
use Rattle.std.proofs.lemmas.Option.{slice_get-get_or}
use Rattle.match_premises.specs.Premises.{tuple_from}
use Rattle.match_premises.proofs.Folds.{missing_value, one_value_more}
use Rattle.match_premises.proofs.head.head_tuple.Goals as goal

pub returns-in_default : goal.returns-in_default
returns-in_default c =
    missing_value c.args.values.now c.loop-var.tuple c.args.head.now c.loop-var.var-index
    (get_or c.args.head.now c.loop-var.var-index 0)
    (tuple_from c.args.values.now (Some []) c.args.head.now) c.loop-var.invariant
    (slice_get-get_or c.args.head.now c.loop-var.var-index 0 c.loop-var-test.true)
    (sym c.in_default.ensures)

pub loop-var-preserved : goal.loop-var-preserved
loop-var-preserved c =
    one_value_more c.args.values.now c.loop-var.tuple c.push.new.self c.args.head.now c.loop-var.var-index
    (get_or c.args.head.now c.loop-var.var-index 0)
    c.in-Some.value.now (tuple_from c.args.values.now (Some []) c.args.head.now) c.loop-var.invariant
    (slice_get-get_or c.args.head.now c.loop-var.var-index 0 c.loop-var-test.true) (sym c.in-Some.ensures)
    (c.in-Ok-push.ensures.ok ∙ ap (λ (x : Value). c.loop-var.tuple ++ x ∷ []) c.in-Ok.ensures)
