use Rattle.std.proofs.Common.{length, take, ◌+◌, ◌*◌}
use Rattle.std.specs.List.{All}
use Rattle.ucq_answers.specs.Found.{NoneAt}
use Rattle.ucq_answers.specs.Kept.{atoms_of}
use Rattle.ucq_answers.proofs.search.+find.Given as goal

abbrev pub decreases-find : goal.decreases-find
decreases-find l = 2 * length l.steps.now

abbrev pub decreases-find_at : goal.decreases-find_at
decreases-find_at l = 2 * length l.rest.now + 1

abbrev pub invariant-find-loop-ent : goal.invariant-find-loop-ent
invariant-find-loop-ent l = All (NoneAt l.search.relations.now l.search.conditions.now l.step.atom (atoms_of l.rest) l.values)
    (take l.ent-index l.ent-items)
