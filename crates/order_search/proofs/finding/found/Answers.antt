use Rattle.std.proofs.Common.{◌<◌, IfOk, IfSome, None, Option, length, subst, sym}
use Rattle.currency_base.specs.Literals.{var_of}
use Rattle.currency_base.specs.declared.lit.Lit.{Lit}
use Rattle.order_search.specs.Kept.{search_of, vars_of}
use Rattle.order_search.specs.Made.{IsFalseIn}
use Rattle.order_search.specs.Searches.{Tells}
use Rattle.order_search.proofs.finding.found.Goals as goal

pub decided_in_parts-requires-clause-goal : goal.decided_in_parts-requires-clause-goal
decided_in_parts-requires-clause-goal g c =
    subst (λ (posed : Option Lit). IfSome posed (IsFalseIn c.args.parting.now None)) (sym c.in-None.is) tt

pub found_goal-requires-clause-goal : goal.found_goal-requires-clause-goal
found_goal-requires-clause-goal g c =
    subst (λ (posed : Option Lit). IfSome posed (λ lit. var_of lit < length (vars_of c.args.subject.now))) c.in-Some.is
    c.requires.goal

pub returns-in-Some-clause-found : goal.returns-in-Some-clause-found
returns-in-Some-clause-found g c =
    subst (λ (posed : Option Lit). IfOk c.found_goal.result (Tells (search_of c.args.subject.now
    c.found_goal.new.progress.solver) posed c.found_goal.new.budget)) (sym c.in-Some.is) c.found_goal.ensures.found
