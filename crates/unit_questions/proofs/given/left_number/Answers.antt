use Rattle.std.proofs.Common.{◌∙◌, ap, sym, arith}
use Rattle.unit_questions.specs.Substituted.{given_value}
use Rattle.unit_questions.proofs.Numbers.{counts_none, counts_some, number_more, one_more}
use Rattle.unit_questions.proofs.given.left_number.Goals as goal
use Rattle.unit_questions.proofs.given.left_number.Goals.{then-is_none, else-is_none}

pub loop-var-preserved : goal.loop-var-preserved
loop-var-preserved c =
    let var = c.loop-var.var in
    let own = given_value c.args.head.now c.args.tuple.now var in
    let more =
    ap (one_more own) c.loop-var.invariant.so_far ∙ sym (number_more (given_value c.args.head.now c.args.tuple.now) var) in
    elim c.if-is_none.branch [
      | then-is_none w ↦
          record {
            few = omega (arith, w.number-is, c.loop-var.invariant.few);
            so_far = w.number-is
                ∙ counts_none _ c.given_value.result own c.loop-var.number w.if-is_none.ensures c.given_value.ensures
                ∙ more;
          }
      | else-is_none w ↦
          record {
            few = omega (arith, w.number-is, c.loop-var.invariant.few);
            so_far = w.number-is
                ∙ counts_some _ c.given_value.result own c.loop-var.number w.if-is_none.ensures c.given_value.ensures
                ∙ more;
          }
    ]
