use Rattle.std.proofs.Common.{◌≡◌, ◌<◌, length, arith}
use Rattle.golden_values.proofs.Claims.{claims_more, claims_next}
use Rattle.golden_values.proofs.facts.put_facts.Goals as goal

pub loop-attr-preserved : goal.loop-attr-preserved
loop-attr-preserved c =
    let r = c.args.relation.now in
    let below : c.loop-attr.attr < length r.attrs = omega arith in
    rw c.in_ok-push.ensures.items
    (claims_more c.args.rel.0 r c.args.completion.now c.loop-attr.facts.items c.fact_at-fact.result c.args.ent.0 c.loop-attr.attr
    c.requires.ent below (c.fact_at-fact.ensures r c.requires.relation) c.loop-attr.invariant)

pub returns : goal.returns
returns c =
    let r = c.args.relation.now in
    let all : c.loop-attr.attr ≡ length r.attrs = omega arith in
    claims_next c.args.rel.0 r c.args.completion.now c.loop-attr.facts.items c.args.ent.0 c.loop-attr.attr all
    c.loop-attr.invariant
