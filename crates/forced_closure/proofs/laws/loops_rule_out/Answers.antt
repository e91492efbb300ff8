use Rattle.forced_closure.proofs.ForcedLaws.{loop_rules_out}
use Rattle.forced_closure.proofs.laws.loops_rule_out.Goals as goal

pub returns : goal.returns
returns c s rankings facts loop consistent =
    loop_rules_out s rankings consistent (c.forced_pairs_hold.ensures s rankings facts consistent) loop
