use Rattle.completion_build.specs.Places.{AreBuilt}
use Rattle.completion_build.proofs.ranking.rank_attribute.Given as goal

abbrev pub invariant-loop-ent : goal.invariant-loop-ent
invariant-loop-ent l =
    AreBuilt l.source.relations l.source.numbers l.source.truths l.rel.0 l.attr.0 l.ent l.draft.completion l.draft.cycles
