use Rattle.ucq_answers.specs.Lookups.{AreCandidates}
use Rattle.ucq_answers.proofs.relation_index.RelationIndex.candidates.Given as goal

abbrev pub invariant-loop-index : goal.invariant-loop-index
invariant-loop-index l = AreCandidates l.self l.tests l.terms l.values l.best
