-- What is left is refused as the whole is.
use Rattle.std.proofs.Common.{◌≡◌, [], drop}
use Rattle.copy_bind.specs.Heads.{repeated}
use Rattle.copy_bind.proofs.repeated.check_once.Given as goal

abbrev pub invariant-loop-named : goal.invariant-loop-named
invariant-loop-named l = repeated l.names (drop l.named-index l.list) ≡ repeated [] l.list
