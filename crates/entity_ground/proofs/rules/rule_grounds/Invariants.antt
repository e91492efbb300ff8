use Rattle.std.proofs.Common.{take}
use Rattle.std.specs.List.{AllZip}
use Rattle.entity_ground.specs.Parts.{AreListed}
use Rattle.entity_ground.proofs.rules.rule_grounds.Given as goal

abbrev pub invariant-loop-rule : goal.invariant-loop-rule
invariant-loop-rule l = AllZip (AreListed l.relations) (take l.rule-index l.rules) l.all
