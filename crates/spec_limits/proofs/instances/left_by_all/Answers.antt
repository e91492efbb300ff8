use Rattle.std.proofs.Common.{◌∙◌, sym}
use Rattle.spec_limits.proofs.OfSpec.{rules_above, copies_above, left_by_orders}
use Rattle.spec_limits.proofs.instances.left_by_all.Goals as goal

pub returns-in_err-left : goal.returns-in_err-left
returns-in_err-left c = c.from_residual.ensures
    ∙ sym (rules_above c.args.spec.now (sym c.left_by_rules.ensures ∙ c.in_err-left.was))

pub returns-in_err-left-2 : goal.returns-in_err-left-2
returns-in_err-left-2 c =
    c.from_residual-in_err-left-2.ensures
    ∙ sym (copies_above c.args.spec.now c.in_ok-left.left (sym c.left_by_rules.ensures ∙ c.in_ok-left.was)
    (sym c.left_by_copies.ensures ∙ c.in_err-left-2.was))

pub returns : goal.returns
returns c =
    c.left_by_orders.ensures
    ∙ sym (left_by_orders c.args.spec.now c.in_ok-left.left c.in_ok-left-2.left (sym c.left_by_rules.ensures ∙ c.in_ok-left.was)
    (sym c.left_by_copies.ensures ∙ c.in_ok-left-2.was))
