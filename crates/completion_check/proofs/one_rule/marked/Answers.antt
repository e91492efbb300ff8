use Rattle.completion_check.proofs.OneRule.{all_marked}
use Rattle.completion_check.proofs.one_rule.marked.Goals as goal

pub returns-clause-marked : goal.returns-clause-marked
returns-clause-marked c =
    all_marked c.args.relation.now c.args.rankings.now c.mark.new.self c.mark.result c.requires.ranked c.mark.ensures.marked
    c.mark.ensures.some
