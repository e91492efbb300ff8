use Rattle.std.proofs.Common.{refl}
use Rattle.bound_spec.proofs.Within.{rule_follows}
use Rattle.bound_spec.proofs.rule.put_rule.Goals as goal

pub add_rule-requires : goal.add_rule-requires
add_rule-requires c =
    rule_follows c.args.spec.now c.args.spec.now c.args.rule refl c.is_specification.ensures c.requires.within
    c.requires.follows c.requires.fits
    c.requires.fresh
