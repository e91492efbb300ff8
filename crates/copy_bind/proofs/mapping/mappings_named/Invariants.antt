-- The mappings so far, in front of what the other pairs say, are the whole.
use Rattle.std.proofs.Common.{◌≡◌, drop}
use Rattle.std.specs.Prelude.{option_map}
use Rattle.bind_faults.specs.Faults.{all_of}
use Rattle.copy_bind.proofs.Walk.{with_front}
use Rattle.copy_bind.specs.Copied.{mapping_named}
use Rattle.copy_bind.proofs.mapping.mappings_named.Given as goal

abbrev pub invariant-loop-pair : goal.invariant-loop-pair
invariant-loop-pair l =
    let f = mapping_named (option_map (λ n. n.now) l.document) l.targets l.sources in
    with_front l.mappings (all_of f (drop l.pair-index l.pairs)) ≡ all_of f l.pairs
