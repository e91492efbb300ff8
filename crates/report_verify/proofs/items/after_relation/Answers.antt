use Rattle.std.proofs.Common.{◌≡◌, ◌<◌, length, refl, subst, arith}
use Rattle.std.proofs.lemmas.Option.{slice_get_read}
use Rattle.report_verify.proofs.Meeting.{met_more, met_next, met_refuses}
use Rattle.report_verify.proofs.items.after_relation.Goals as goal
use Rattle.report_verify.specs.Shaped.{AreMet}

pub returns-then-not-is_item_at-clause-missing : goal.returns-then-not-is_item_at-clause-missing
returns-then-not-is_item_at-clause-missing c = λ rels asked begun.
    let relation = c.index-relations-rel.result in
    let at = slice_get_read c.args.relations.now (length c.args.relations.now) c.args.rel relation refl c.requires
    c.index-relations-rel.is in
    let within : c.loop-ent.ent < length relation.entities =
    (let test = c.loop-ent-test.true in let count = c.len-ent-end.ensures in omega (arith, test, count)) in
    met_refuses c.args.relations.now rels c.args.items.now c.args.rel c.loop-ent.ent c.loop-ent.at relation at asked within
    (c.loop-ent.invariant rels asked begun)
    (λ item here is. c.is_item_at.ensures.other c.if-not-is_item_at.true record { item = item; here = here; is = is })

pub loop-ent-preserved : goal.loop-ent-preserved
loop-ent-preserved c = λ rels asked begun.
    let relation = c.index-relations-rel.result in
    let at = slice_get_read c.args.relations.now (length c.args.relations.now) c.args.rel relation refl c.requires
    c.index-relations-rel.is in
    let within : c.loop-ent.ent < length relation.entities =
    (let test = c.loop-ent-test.true in let count = c.len-ent-end.ensures in omega (arith, test, count)) in
    let item = c.is_item_at.ensures.is c.if-not-is_item_at.false in
    met_more c.args.relations.now rels c.args.items.now c.args.rel c.loop-ent.ent c.loop-ent.at relation at asked within
    (c.loop-ent.invariant rels asked begun) item.item item.here item.is

pub returns-clause-met : goal.returns-clause-met
returns-clause-met c = λ rels asked begun.
    let relation = c.index-relations-rel.result in
    let at = slice_get_read c.args.relations.now (length c.args.relations.now) c.args.rel relation refl c.requires
    c.index-relations-rel.is in
    let all : c.loop-ent.ent ≡ length relation.entities =
    (let test = c.loop-ent-test.false in let count = c.len-ent-end.ensures in let most =
    c.loop-ent.auto.ent-end in omega (arith, test, count, most)) in
    met_next c.args.relations.now rels c.args.items.now c.args.rel c.loop-ent.at relation at
    (subst (λ n. AreMet c.args.relations.now rels c.args.items.now c.args.rel n c.loop-ent.at) all
    (c.loop-ent.invariant rels asked begun))
