use Rattle.std.proofs.Common.{false, length, take, ◌+◌, ◌*◌}
use Rattle.ucq_answers.specs.Found.{Adds}
use Rattle.ucq_answers.specs.Kept.{atoms_of}
use Rattle.ucq_answers.proofs.Collecting.{IsHeadBelow}
use Rattle.ucq_answers.proofs.search.+collect.Given as goal

abbrev pub decreases-collect : goal.decreases-collect
decreases-collect l = 2 * length l.steps.now

abbrev pub decreases-collect_at : goal.decreases-collect_at
decreases-collect_at l = 2 * length l.rest.now + 1

abbrev pub invariant-collect-loop-ent : goal.invariant-collect-loop-ent
invariant-collect-loop-ent l =
    Adds (IsHeadBelow l.search.relations.now l.search.conditions.now l.search.head.now l.step.atom (atoms_of l.rest) l.values
    (take l.ent-index l.ent-items)) l.initial.answers l.answers false
