use Rattle.std.proofs.Common.{take}
use Rattle.known_models.specs.Ranked.{FindsAll}
use Rattle.known_models.proofs.ranking.rank_members.Given as goal

abbrev pub invariant-loop-member : goal.invariant-loop-member
invariant-loop-member l = FindsAll l.parted l.part l.truths (take l.member-index l.members) l.draft
