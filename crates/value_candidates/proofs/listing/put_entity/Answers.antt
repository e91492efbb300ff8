use Rattle.std.proofs.Common.{List, subst, arith}
use Rattle.currency_base.specs.declared.ids.RowId.{RowId}
use Rattle.value_candidates.specs.Steps.{ArePlacePut}
use Rattle.value_candidates.proofs.Placing.{claims_more, entity_all, rows_within}
use Rattle.value_candidates.proofs.listing.put_entity.Goals as goal

pub loop-attr-init : goal.loop-attr-init
loop-attr-init c = λ relations rels is asked so_far. so_far

pub put_place-requires-clause-rows : goal.put_place-requires-clause-rows
put_place-requires-clause-rows c = rows_within c.args.relation.now.rows c.args.rows.now c.args.ent.0 c.requires.rows

pub loop-attr-preserved : goal.loop-attr-preserved
loop-attr-preserved c = λ relations rels is asked so_far.
    claims_more relations rels c.args.relation.now c.args.rel c.args.ent.0 (record { 0 = c.loop-attr.attr }) is asked
    (omega arith)
    c.loop-attr.claims c.put_place.new.claims
    (subst (λ (rows : List RowId). ArePlacePut c.args.relation.now.rows c.args.rel (record { 0 = c.loop-attr.attr }) rows
    c.loop-attr.claims c.put_place.new.claims) c.requires.rows c.in_ok-put_place.ensures)
    (c.loop-attr.invariant relations rels is asked so_far)

pub returns : goal.returns
returns c = λ relations rels is asked so_far.
    entity_all relations rels c.args.relation.now c.args.rel.0 c.args.ent.0 c.loop-attr.attr c.loop-attr.claims is (omega arith)
    (c.loop-attr.invariant relations rels is asked so_far)
