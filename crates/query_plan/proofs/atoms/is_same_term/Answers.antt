use Rattle.std.proofs.Common.{◌≡◌, ap, sym, ◌∙◌}
use Rattle.query_model.specs.declared.query.Term.TheVariants.{Constant}
use Rattle.query_plan.proofs.Following.{on_true, tested_same}
use Rattle.query_plan.proofs.atoms.is_same_term.Goals as goal

pub returns-in-Constant-Constant : goal.returns-in-Constant-Constant
returns-in-Constant-Constant c =
    on_true c.test.result (c.args.one.now ≡ c.args.other.now)
    (λ holds. c.in-Constant-Constant.is-0 ∙ ap (λ v. Constant v) (tested_same _ _ (sym c.test.ensures ∙ holds))
    ∙ sym c.in-Constant-Constant.is-1)
