use Rattle.std.proofs.Common.{arith}
use Rattle.order_clauses.specs.Listing.{rule_at, rule_labels}
use Rattle.order_clauses.proofs.Adding.{below_none, below_more, below_all}
use Rattle.order_clauses.proofs.Reading.{item_at}
use Rattle.order_clauses.proofs.RuleClauses.{all_grounds, rule_at_is}
use Rattle.order_clauses.proofs.ruled.ruled.Goals as goal

pub loop-k-init : goal.loop-k-init
loop-k-init c = below_none c.args.sayings.now (rule_at c.args.grounds.now) c.args.steps.now

pub ruled_by-requires-clause-grounds : goal.ruled_by-requires-clause-grounds
ruled_by-requires-clause-grounds c =
    let s = c.args.sayings.now.spec in
    let rule = item_at s.rules c.loop-k.k (omega arith) in
    all_grounds s c.args.grounds.now c.loop-k.k rule.0 c.get.result.now c.rules-k-end.ensures.facts c.requires rule.1
    c.get.ensures

pub loop-k-preserved : goal.loop-k-preserved
loop-k-preserved c =
    let s = c.args.sayings.now in
    below_more s (rule_at c.args.grounds.now) c.loop-k.k _ _ _ c.loop-k.invariant
    (rule_at_is s c.args.grounds.now (record { 0 = c.loop-k.k }) c.get.result.now _ _ c.get.ensures c.in_ok-ruled_by.ensures)

pub returns : goal.returns
unfolding rule_labels
returns c = below_all c.args.sayings.now (rule_at c.args.grounds.now) c.loop-k.k _ _ _
    (omega (arith, c.requires.per_rule)) c.loop-k.invariant
