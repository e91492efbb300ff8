use Rattle.std.proofs.Common.{List, [], subst}
use Rattle.refutation_log.specs.declared.step.Step.{Step}
use Rattle.order_clauses.specs.Listing.{AddsAll}
use Rattle.order_clauses.proofs.Whole.{Facts, are_axioms}
use Rattle.order_clauses.proofs.listing.listed.Goals as goal

pub returns : goal.returns
returns c =
    let s = c.args.sayings.now in
    let rules = c.args.grounds.now.rules in
    let copies = c.args.grounds.now.copies in
    let put : AddsAll s rules copies [] c.put_all.new.steps =
    subst (λ (old : List Step). AddsAll s rules copies old c.put_all.new.steps) c.new-steps.ensures c.in_ok-put_all.ensures in
    let facts : Facts s rules copies = record {
      relations = c.facts.ensures.relations;
      rules_are = c.facts.ensures.rules;
      copies_are = c.facts.ensures.copies;
      rule_grounds = c.requires.rules;
      copy_grounds = c.requires.copies;
      given_once = put.given_once;
    } in
    are_axioms s rules copies c.put_all.new.steps facts put.adds
