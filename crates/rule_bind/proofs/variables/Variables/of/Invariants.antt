-- The names so far and the first refusal so far, before what is left, are the whole.
use Rattle.std.proofs.Common.{◌≡◌, [], drop}
use Rattle.bind_faults.specs.Faults.{or_else}
use Rattle.rule_bind.specs.Ruled.{names_of_vars, repeated}
use Rattle.rule_bind.proofs.variables.Variables.of.Given as goal

abbrev pub invariant-loop-named : goal.invariant-loop-named
invariant-loop-named l = record {
  names : names_of_vars l.names (drop l.named-index l.vars) ≡ names_of_vars [] l.vars;
  repeated : or_else l.repeated (repeated l.names (drop l.named-index l.vars)) ≡ repeated [] l.vars;
}
