use Rattle.completion_check.proofs.OneRule.{satisfied, unsatisfied}
use Rattle.completion_check.proofs.one_rule.holds_on.Goals as goal

pub returns-in-Some-clause-no : goal.returns-in-Some-clause-no
returns-in-Some-clause-no c =
    λ _.
    unsatisfied c.args.relation.now c.args.rankings.now c.in_ok-places.places c.args.rule.now c.in-Some.field-0
    (record {
      facts = c.requires.relation;
      fits = c.requires.shape;
      ranked = c.requires.ranked;
      marked = c.in_ok-places.ensures.marked;
    })
    c.requires.rule c.in-Some.ensures.some

pub returns-clause-yes : goal.returns-clause-yes
returns-clause-yes c =
    λ _.
    satisfied c.args.relation.now c.args.rankings.now c.in_ok-places.places c.args.rule.now
    (record {
      facts = c.requires.relation;
      fits = c.requires.shape;
      ranked = c.requires.ranked;
      marked = c.in_ok-places.ensures.marked;
    })
    c.requires.rule c.in-None.ensures.none
