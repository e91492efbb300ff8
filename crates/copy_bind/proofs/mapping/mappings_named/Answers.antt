-- The first pair that is refused is that of all.
use Rattle.std.specs.Prelude.{option_map}
use Rattle.copy_bind.specs.Copied.{mapping_named}
use Rattle.copy_bind.proofs.Mapped.{item_refused}
use Rattle.copy_bind.proofs.mapping.mappings_named.Goals as goal

pub returns-in-Err : goal.returns-in-Err
returns-in-Err c =
    item_refused (mapping_named (option_map (λ n. n.now) c.args.document) c.args.targets.now c.args.sources.now)
    c.args.pairs.now c.loop-pair.pair-index
    c.pair-item.result c.loop-pair.mappings c.in-Err.fault c.loop-pair-test.true c.pair-item.is c.loop-pair.invariant
    c.in-Err.ensures
