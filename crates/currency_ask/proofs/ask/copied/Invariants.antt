use Rattle.std.proofs.Common.{◌≡◌, take}
use Rattle.currency_ask.proofs.ask.copied.Given as goal

abbrev pub invariant-loop-place : goal.invariant-loop-place
invariant-loop-place l = l.copy ≡ take l.place l.rels
