use Rattle.std.proofs.Common.{◌≡◌, true, subst}
use Rattle.currency_base.specs.Values.{value_test}
use Rattle.currency_base.specs.declared.value.Cmp.TheVariants.{Eq, Ge, Gt, Le, Lt}
use Rattle.query_plan.proofs.Following.{eq_le, ge_le, gt_lt, turned}
use Rattle.query_plan.proofs.given.downward.Goals as goal

pub returns-in-Eq : goal.returns-in-Eq
returns-in-Eq c a b holds = turned Eq Le eq_le a b (subst (λ k. value_test k a b ≡ true) c.in-Eq.is holds)

pub returns-in-Gt : goal.returns-in-Gt
returns-in-Gt c a b holds = turned Gt Lt gt_lt a b (subst (λ k. value_test k a b ≡ true) c.in-Gt.is holds)

pub returns-in-Ge : goal.returns-in-Ge
returns-in-Ge c a b holds = turned Ge Le ge_le a b (subst (λ k. value_test k a b ≡ true) c.in-Ge.is holds)
