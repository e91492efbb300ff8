use Rattle.std.proofs.Common.{◌≡◌, length, subst, arith}
use Rattle.spec_model.specs.declared.relation.Relation.{Relation}
use Rattle.current_claims.specs.Listed.{AddsLastOf}
use Rattle.current_claims.proofs.OfEntity.{adds_more}
use Rattle.current_claims.proofs.ReadRelations.{read_of}
use Rattle.current_claims.proofs.claims.push_last_rows.Goals as goal

pub loop-attr-preserved : goal.loop-attr-preserved
loop-attr-preserved c = λ r at.
    let last = c.last_row-row in
    adds_more r c.args.completion.now c.args.rel c.args.ent (record { 0 = c.loop-attr.attr }) c.args.rows.now
    c.loop-attr.rows c.push.new.self
    last.result (last.ensures.within r at) (last.ensures.of_entity r at) last.ensures.last c.in_ok-push.ensures.ok
    (c.loop-attr.invariant r at)

pub returns : goal.returns
returns c = λ r at.
    let attrs : c.len-attr-end.result ≡ length r.attrs =
    read_of (λ (q : Relation). length q.attrs) c.args.spec.now.relations c.relations.result.now c.args.rel.0
    c.index-relations-rel.result r
    c.len-attr-end.result c.relations.ensures.value c.len-attr-end.ensures at in
    let all : c.loop-attr.attr ≡ length r.attrs = omega arith in
    subst (λ n. AddsLastOf r c.args.completion.now c.args.rel c.args.ent n c.args.rows.now c.loop-attr.rows) all
    (c.loop-attr.invariant r at)
