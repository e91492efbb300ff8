use Rattle.std.proofs.Common.{OnOk, Result, Ok, Err, refl}
use Rattle.bound_spec.proofs.Within.{relation_follows}
use Rattle.bound_spec.proofs.relation.put_relation.Goals as goal

on_ok : {A E : Type 0} (r : Result A E) (P : Type 0) → P → OnOk r P
on_ok (Ok a) P h = h
on_ok (Err e) P h = tt

pub add_relation-requires : goal.add_relation-requires
add_relation-requires c =
    relation_follows c.args.spec.now c.args.spec.now c.args.relation refl c.is_specification.ensures c.requires.facts
    c.requires.within c.requires.fresh

pub returns-clause-spec : goal.returns-clause-spec
returns-clause-spec c = on_ok c.add.result _ c.in_ok-add_relation.ensures.ok
