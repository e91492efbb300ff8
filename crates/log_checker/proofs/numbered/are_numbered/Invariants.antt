use Rattle.std.proofs.Common.{◌≡◌, length, drop}
use Rattle.std.specs.List.{list_all}
use Rattle.log_checker.specs.Numbered.{is_numbered_step}
use Rattle.log_checker.proofs.numbered.are_numbered.Given as goal

abbrev pub invariant-loop-place : goal.invariant-loop-place
invariant-loop-place l =
    list_all (is_numbered_step (length l.log.statements)) (drop l.place l.log.steps) ≡ list_all
    (is_numbered_step (length l.log.statements)) l.log.steps
