use Rattle.std.proofs.Common.{refl}
use Rattle.bound_spec.proofs.Within.{copy_follows}
use Rattle.bound_spec.proofs.copy.put_copy.Goals as goal

pub add_copy-requires : goal.add_copy-requires
add_copy-requires c =
    copy_follows c.args.spec.now c.args.spec.now c.args.copy refl c.is_specification.ensures c.requires.within
    c.requires.fits c.requires.fresh
