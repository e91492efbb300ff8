use Rattle.std.proofs.Common.{add-one, add-zero}
use Rattle.completion_build.specs.Contests.IsCount.{passed, failed}
use Rattle.completion_build.proofs.tournament.Tournament.wins.Goals as goal

pub returns-then-is_before-clause-counted : goal.returns-then-is_before-clause-counted
returns-then-is_before-clause-counted c = λ count so_far. rw (add-one, add-one) (passed so_far c.if-is_before.ensures.yes)

pub returns-clause-counted : goal.returns-clause-counted
returns-clause-counted c = λ count so_far. rw (add-one, add-zero) (failed so_far c.if-is_before.ensures.no)
