use Rattle.completion_build.specs.Places.{AreBuilt}
use Rattle.completion_build.proofs.ranking.rank_relation.Given as goal

abbrev pub invariant-loop-attr : goal.invariant-loop-attr
invariant-loop-attr l =
    AreBuilt l.source.relations l.source.numbers l.source.truths l.rel.0 l.attr 0 l.draft.completion l.draft.cycles
