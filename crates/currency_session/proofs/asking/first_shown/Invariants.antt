-- None of the reports so far shows its verdict.
use Rattle.std.proofs.Common.{take}
use Rattle.currency_session.specs.Sessions.{NoneShows}
use Rattle.currency_session.proofs.asking.first_shown.Given as goal

abbrev pub invariant-loop-place : goal.invariant-loop-place
invariant-loop-place l = NoneShows l.spec l.question (take l.place l.kept)
