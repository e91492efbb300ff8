use Rattle.std.proofs.Common.{◌≡◌, drop}
use Rattle.log_write.specs.Pieces.{many_pieces}
use Rattle.text_write.specs.Spacing.{writes_all}
use Rattle.fact_write.specs.Pieces.{or_pieces}
use Rattle.fact_write.proofs.query.write_further.Given as goal

abbrev pub invariant-loop-claim : goal.invariant-loop-claim
invariant-loop-claim l =
    writes_all l.into (many_pieces (or_pieces l.spec.relations) (drop l.claim-index l.claims))
    ≡ writes_all l.initial.into (many_pieces (or_pieces l.spec.relations) l.claims)
