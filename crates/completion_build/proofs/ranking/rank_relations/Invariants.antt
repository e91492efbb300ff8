use Rattle.completion_build.specs.Places.{AreBuilt}
use Rattle.completion_build.proofs.ranking.rank_relations.Given as goal

abbrev pub invariant-loop-rel : goal.invariant-loop-rel
invariant-loop-rel l =
    AreBuilt l.source.relations l.source.numbers l.source.truths l.rel 0 0 l.draft.completion l.draft.cycles
