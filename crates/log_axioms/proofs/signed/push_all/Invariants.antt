use Rattle.std.proofs.Common.{◌≡◌, ◌++◌, drop}
use Rattle.log_axioms.proofs.signed.push_all.Given as goal

abbrev pub invariant-loop-one : goal.invariant-loop-one
invariant-loop-one l = l.clause ++ drop l.one-index l.signed ≡ l.initial.clause ++ l.signed
