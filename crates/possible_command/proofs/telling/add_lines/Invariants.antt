use Rattle.std.proofs.Common.{◌≡◌, ◌++◌, drop}
use Rattle.possible_command.specs.Text.{brief_findings}
use Rattle.possible_command.proofs.telling.add_lines.Given as goal

abbrev pub invariant-loop-place : goal.invariant-loop-place
invariant-loop-place l =
    l.into ++ brief_findings l.spec.relations (drop l.place l.found.candidates) (drop l.place l.found.shown)
    ≡ l.initial.into ++ brief_findings l.spec.relations l.found.candidates l.found.shown
