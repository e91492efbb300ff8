use Rattle.std.proofs.Common.{◌∙◌, sym, ap, ltb}
use Rattle.spec_limits.specs.Limits.{order_variables}
use Rattle.spec_limits.proofs.Bounds.{many, not_many}
use Rattle.spec_limits.proofs.variables.limit_of_variables.Goals as goal

pub returns-then-branch : goal.returns-then-branch
returns-then-branch c =
    sym (many c.args.spec.now (sym (ap (λ r. ltb 4000000 (order_variables r)) c.relations.ensures.value)
    ∙ sym c.in_ok-has_too_many.ensures ∙ c.if-branch.true))

pub returns : goal.returns
returns c =
    sym (not_many c.args.spec.now (sym (ap (λ r. ltb 4000000 (order_variables r)) c.relations.ensures.value)
    ∙ sym c.in_ok-has_too_many.ensures ∙ c.if-branch.false))
