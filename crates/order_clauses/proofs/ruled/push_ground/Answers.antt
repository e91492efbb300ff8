use Rattle.std.proofs.Common.{◌∙◌, sym}
use Rattle.order_clauses.proofs.RuleClauses.{ground_premises, ground_conclusion}
use Rattle.order_clauses.proofs.ruled.push_ground.Goals as goal

pub instance_lits-requires-clause-premises : goal.instance_lits-requires-clause-premises
instance_lits-requires-clause-premises c =
    ground_premises c.args.sayings.now.spec c.args.rule.0 c.args.rows.now c.rule-constraint.result.now
    c.relation-relation.result.now c.in-Some.instance c.requires.ground
    c.rule-constraint.ensures c.relation-relation.ensures.value (sym c.instance.ensures ∙ c.in-Some.is)

pub instance_lits-requires-clause-conclusion : goal.instance_lits-requires-clause-conclusion
instance_lits-requires-clause-conclusion c =
    ground_conclusion c.args.sayings.now.spec c.args.rule.0 c.args.rows.now c.rule-constraint.result.now
    c.relation-relation.result.now c.in-Some.instance c.requires.ground
    c.rule-constraint.ensures c.relation-relation.ensures.value (sym c.instance.ensures ∙ c.in-Some.is)
