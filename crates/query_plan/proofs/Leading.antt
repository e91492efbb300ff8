-- The variable that leads those which have one value.
use Rattle.std.proofs.Common.{◌≡◌, ◌<◌, ℕ, List, Option, length, get_or, sym, subst, IfSome}
use Rattle.std.specs.List.{All}
use Rattle.query_model.specs.declared.query.Test.{Test}
use Rattle.query_model.specs.declared.query.TestTerm.{TestTerm}
use Rattle.query_model.specs.declared.query.TestTerm.TheVariants as test
use Rattle.query_plan.specs.Implied.{Equated, IsImplied, IsLed}
use Rattle.query_plan.proofs.Following.{if_some}

-- the side of an equality leads to its variable
pub led_on : (e : Equated) (side var : ℕ) (o : Option ℕ) → e.side ≡ test.Var side
    → IfSome o (λ to. (side ≡ var) × (to ≡ e.var)) → IfSome o (λ led. (tests : List Test) → IsImplied tests e → IsLed tests var led)
led_on e side var o is = if_some o (λ to. (side ≡ var) × (to ≡ e.var)) (λ led. (tests : List Test) → IsImplied tests e → IsLed tests var led)
    (λ led are tests implied. subst (IsLed tests var) (sym are.1) (to tests are.0 implied))
  where
    to : (tests : List Test) → side ≡ var → IsImplied tests e → IsLed tests var e.var
    to tests same implied =
        let turned : (s : TestTerm) → s ≡ test.Var side → IsImplied tests record { side = s; var = e.var } → IsLed tests var e.var =
        λ s at holds. subst (λ v. IsLed tests v e.var) same
        (subst (λ u. IsImplied tests record { side = u; var = e.var }) at holds) in
        turned e.side is implied

-- the first of some equalities that leads on
pub led_first : (equalities : List Equated) (i : ℕ) (e : Equated) (var led : ℕ) → i < length equalities → e ≡ get_or equalities i e
    → ((tests : List Test) → IsImplied tests e → IsLed tests var led)
    → (tests : List Test) → All (IsImplied tests) equalities → IsLed tests var led
led_first equalities i e var led below is leads tests all = leads tests (subst (IsImplied tests) (sym is) (all i e below))
