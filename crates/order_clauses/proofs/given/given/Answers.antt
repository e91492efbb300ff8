use Rattle.std.proofs.Common.{◌≡◌, ℕ, length, subst, arith}
use Rattle.currency_base.specs.Lists.{OnlyOnce}
use Rattle.order_clauses.specs.Added.{below}
use Rattle.order_clauses.specs.Listing.{given_at, given_labels}
use Rattle.order_clauses.proofs.Adding.{below_none, below_more, below_all}
use Rattle.order_clauses.proofs.LabelsAre.{once_given_none, once_given_more}
use Rattle.order_clauses.proofs.given.given.Goals as goal

pub loop-rel-init : goal.loop-rel-init
loop-rel-init c = record {
  adds = below_none c.args.sayings.now (given_at c.args.sayings.now.spec) c.args.steps.now;
  once = once_given_none c.args.sayings.now.spec;
}

pub loop-rel-preserved : goal.loop-rel-preserved
loop-rel-preserved c = record {
  adds = below_more c.args.sayings.now (given_at c.args.sayings.now.spec) c.loop-rel.rel _ _ _
      c.loop-rel.invariant.adds c.in_ok-given_in.ensures.adds;
  once = once_given_more c.args.sayings.now.spec c.loop-rel.rel c.loop-rel.invariant.once c.in_ok-given_in.ensures.once;
}

pub returns-clause-adds : goal.returns-clause-adds
unfolding given_labels
returns-clause-adds c = below_all c.args.sayings.now (given_at c.args.sayings.now.spec) c.loop-rel.rel _ _ _
    (omega arith) c.loop-rel.invariant.adds

pub returns-clause-once : goal.returns-clause-once
unfolding given_labels
returns-clause-once c =
    let all : c.loop-rel.rel ≡ length c.args.sayings.now.spec.relations = omega arith in
    subst (λ (n : ℕ). OnlyOnce (below (given_at c.args.sayings.now.spec) n)) all c.loop-rel.invariant.once
