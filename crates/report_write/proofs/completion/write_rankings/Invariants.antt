use Rattle.std.proofs.Common.{◌≡◌, drop}
use Rattle.text_write.specs.Spacing.{writes_all}
use Rattle.report_write.specs.Pieces.{rankings_pieces}
use Rattle.report_write.proofs.completion.write_rankings.Given as goal

abbrev pub invariant-loop-rel : goal.invariant-loop-rel
invariant-loop-rel l =
    writes_all l.into (rankings_pieces l.spec.relations l.rel (drop l.rel l.shown))
    ≡ writes_all l.initial.into (rankings_pieces l.spec.relations 0 l.shown)
