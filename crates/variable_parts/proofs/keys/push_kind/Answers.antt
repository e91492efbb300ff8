use Rattle.std.proofs.Common.{◌<◌, ◌+◌, ◌++◌, ◌∙◌, length, refl, sym, ap, arith}
use Rattle.variable_parts.specs.Told.{numbers_in}
use Rattle.order_literals.specs.Numbers.{numbered}
use Rattle.order_literals.proofs.Callers.{table_at}
use Rattle.variable_parts.proofs.BlockKeys.{attrs_all, attrs_left, kind_keys, rels_end, rels_left, rels_next, rest_more, rest_none, tables_many}
use Rattle.variable_parts.proofs.SourceRows.{relation_in}
use Rattle.variable_parts.proofs.keys.push_kind.Goals as goal

pub loop-rel-init : goal.loop-rel-init
loop-rel-init c = refl

pub loop-rel-preserved : goal.loop-rel-preserved
loop-rel-preserved c =
    let d = c.args.source.now in
    let kind = c.args.kind in
    let rel = c.loop-rel.rel in
    let keys = c.loop-rel.keys.items in
    let tables = (numbers_in d).tables in
    let within : rel < length d.spec.relations = omega (arith, c.loop-rel-test.true, c.relations-rel-end.ensures.value) in
    let has = relation_in d (record { 0 = rel }) within in
    let r = has.relation in
    let at = table_at d.wanted.currents d.spec.relations rel r has.is_relation in
    rest_more keys (attrs_left d kind (record { 0 = rel }) (length r.attrs) 0) (rels_left d kind tables (rel + 1))
    (rels_left d kind tables rel) (c.args.keys.now.items ++ kind_keys d kind) c.push_relation.new.keys.items c.loop-rel.invariant
    (rels_next d kind tables rel (numbered d.wanted.currents rel r) at)
    (c.in_ok-push_relation.ensures r has.is_relation
    ∙ ap (λ ks. keys ++ ks) (sym (attrs_all d kind (record { 0 = rel }) (length r.attrs))))

pub returns : goal.returns
returns c =
    let d = c.args.source.now in
    let kind = c.args.kind in
    let rel = c.loop-rel.rel in
    let tables = (numbers_in d).tables in
    rest_none c.loop-rel.keys.items (rels_left d kind tables rel) (c.args.keys.now.items ++ kind_keys d kind) c.loop-rel.invariant
    (rels_end d kind tables rel (omega (
      arith,
      c.loop-rel-test.false,
      c.relations-rel-end.ensures.value,
      tables_many d.wanted.currents 0 d.spec.relations,
    )))
