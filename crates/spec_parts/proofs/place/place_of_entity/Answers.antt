use Rattle.spec_parts.proofs.Searched.{found, missed, entities_rise, same_id}
use Rattle.spec_parts.proofs.place.place_of_entity.Goals as goal

pub unreachable-requires : goal.unreachable-requires
unreachable-requires c =
    missed (λ x. x.0) c.args.entities.now c.args.entity c.in-Err.field-0 (entities_rise c.args.entities.now c.requires.ascend)
    c.in-Err.ensures.position c.requires.listed

pub returns : goal.returns
returns c = found (λ x. x.0) c.args.entities.now c.args.entity same_id c.in-Ok.place c.in-Ok.ensures.bound c.in-Ok.ensures.ok
