use Rattle.std.proofs.Common.{All, take}
use Rattle.current_claims.specs.Differing.{NoneOfRelation}
use Rattle.current_claims.proofs.difference.first_difference.Given as goal

abbrev pub invariant-loop-rel : goal.invariant-loop-rel
invariant-loop-rel l = All (NoneOfRelation l.spec.relations l.first l.second) (take l.rel-index l.rels)
