use Rattle.std.proofs.Common.{◌≡◌, [], Some, drop}
use Rattle.match_premises.specs.Premises.{tuple_from}
use Rattle.match_premises.proofs.head.head_tuple.Given as goal

abbrev pub invariant-loop-var : goal.invariant-loop-var
invariant-loop-var l = tuple_from l.values (Some l.tuple) (drop l.var-index l.head) ≡ tuple_from l.values (Some []) l.head
