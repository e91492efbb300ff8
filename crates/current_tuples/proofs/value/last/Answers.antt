use Rattle.std.proofs.Common.{◌≡◌, get_or}
use Rattle.current_tuples.proofs.Readable.{is_readable, current_read}
use Rattle.current_tuples.proofs.value.last.Goals as goal

pub last_value-requires : goal.last_value-requires
last_value-requires c =
    let r = c.index-relations-rel.result in
    let read : r ≡ get_or c.args.spec.now.relations c.args.rel.0 r = rw c.relations.ensures.value at c.index-relations-rel.is in
    is_readable c.args.spec.now.relations c.args.completion.now c.args.rel.0 c.args.attr.0 c.args.ent.0 r c.ranking.result.now
    c.relations.ensures.facts c.requires.completion c.requires.place read c.ranking.ensures

pub returns : goal.returns
returns c =
    let r = c.index-relations-rel.result in
    let read : r ≡ get_or c.args.spec.now.relations c.args.rel.0 r = rw c.relations.ensures.value at c.index-relations-rel.is in
    current_read c.args.spec.now.relations c.args.completion.now c.args.rel.0 c.args.attr.0 c.args.ent.0 r c.ranking.result.now
    c.last_value.result.now read c.ranking.ensures c.last_value.ensures
