-- The attributes so far, in front of what the other names say, are the whole.
use Rattle.std.proofs.Common.{◌≡◌, drop}
use Rattle.bind_faults.specs.Faults.{all_of}
use Rattle.copy_bind.specs.Heads.{attr_named}
use Rattle.copy_bind.proofs.Walk.{with_front}
use Rattle.copy_bind.proofs.attrs.attrs_named.Given as goal

abbrev pub invariant-loop-named : goal.invariant-loop-named
invariant-loop-named l =
    with_front l.attrs (all_of (attr_named l.names) (drop l.named-index l.list)) ≡ all_of (attr_named l.names) l.list
