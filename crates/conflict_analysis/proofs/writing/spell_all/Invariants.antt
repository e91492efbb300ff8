use Rattle.std.proofs.Common.{◌≡◌, ◌++◌, map, take}
use Rattle.conflict_analysis.specs.Steps.{negated, without}
use Rattle.conflict_analysis.proofs.writing.spell_all.Given as goal

abbrev pub invariant-loop-place : goal.invariant-loop-place
invariant-loop-place l = l.lits.items ≡ l.initial.lits.items ++ map (negated l.trail.entries)
    (without l.except (take l.place-index l.places))
