-- So many places are written.
use Rattle.std.proofs.Common.{◌≡◌}
use Rattle.text_write.specs.Spacing.{writes_all}
use Rattle.fact_write.specs.Pieces.{any_places}
use Rattle.fact_write.proofs.atom.write_any.Given as goal

abbrev pub invariant-loop : goal.invariant-loop
invariant-loop l = l.into ≡ writes_all l.initial.into (any_places l.counter)
