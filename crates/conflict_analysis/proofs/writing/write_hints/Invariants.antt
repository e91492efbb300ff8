use Rattle.std.proofs.Common.{◌≡◌, map, take}
use Rattle.conflict_analysis.specs.Steps.{number_of}
use Rattle.conflict_analysis.proofs.writing.write_hints.Given as goal

abbrev pub invariant-loop-place : goal.invariant-loop-place
invariant-loop-place l = l.hints.items ≡ map (number_of l.trail.entries) (take l.place-index l.places)
