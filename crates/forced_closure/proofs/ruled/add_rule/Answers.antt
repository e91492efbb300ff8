use Rattle.std.proofs.Common.{◌∙◌, sym, ap}
use Rattle.std.proofs.lemmas.Option.{same_Some}
use Rattle.std.proofs.lemmas.Result.{on_ok_weaker}
use Rattle.denial_rules.specs.declared.rule.Rule.{Rule}
use Rattle.forced_closure.specs.Clauses.{OfRule, OfGroundsAt}
use Rattle.forced_closure.proofs.Adding.{adds_none, adds_as, never_concludes}
use Rattle.forced_closure.proofs.ruled.add_rule.Goals as goal

pub returns-in-Never : goal.returns-in-Never
returns-in-Never c =
    adds_none c.args.subject.now c.args.gathered.now (OfRule c.args.subject.now c.args.rule)
    (λ o is. never_concludes c.args.subject.now c.args.rule o c.rule.result.now is c.rule.ensures c.in-Never.is)

pub add_grounds-requires-clause-concludes : goal.add_grounds-requires-clause-concludes
add_grounds-requires-clause-concludes c rule at =
    ap (λ (r : Rule). r.conclusion) (same_Some rule c.rule.result.now (sym at ∙ c.rule.ensures)) ∙ c.in-Order.is

pub returns-in-Order : goal.returns-in-Order
returns-in-Order c =
    on_ok_weaker c.add_grounds.result
    (λ adds. adds_as c.args.subject.now c.args.gathered.now c.add_grounds.new.gathered
    (OfGroundsAt c.args.subject.now c.args.rule) (OfRule c.args.subject.now c.args.rule) adds (λ o is. is.at))
    c.add_grounds.ensures
