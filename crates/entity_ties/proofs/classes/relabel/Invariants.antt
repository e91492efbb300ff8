use Rattle.std.proofs.Common.{take}
use Rattle.entity_ties.specs.Classes.{IsRelabelled}
use Rattle.entity_ties.proofs.classes.relabel.Given as goal

abbrev pub invariant-loop-number : goal.invariant-loop-number
invariant-loop-number l = IsRelabelled l.to (take l.number-index l.moved) l.fn.labels.items l.labels.items
