use Rattle.std.proofs.Common.{◌+◌, ◌∷◌, ◌++◌, [], length, subst, sym, ap, arith}
use Rattle.std.proofs.lemmas.Result.{on_ok_weaker}
use Rattle.spec_model.specs.Spec.{Spec}
use Rattle.spec_parts.specs.Steps.{ArePartsSoFar}
use Rattle.spec_parts.proofs.Pairing.{read_item}
use Rattle.spec_parts.proofs.PartLists.{parts_are_relations, parts_put}
use Rattle.spec_parts.proofs.parts.put_relation.Goals as goal

pub add_relation-requires : goal.add_relation-requires
add_relation-requires c =
    let relations = c.args.whole.now.relations in
    let index = c.index-relations-rel in
    let same = ap length c.relations.ensures.value in
    let at = read_item relations c.relations.result.now c.args.rel.0 index.result c.relations.ensures.value
    (omega (arith, same, c.requires.within)) index.is in
    let next = parts_put relations c.args.places.now c.args.rel.0 c.args.part.now.relations c.requires.so_far
    index.result c.in_ok-cut.cut
    c.rows.result.now c.entities.result.now at c.rows.ensures c.entities.ensures c.in_ok-cut.ensures in
    parts_are_relations relations c.args.places.now (c.args.rel.0 + 1) (c.args.part.now.relations ++ c.in_ok-cut.cut
    ∷ []) c.requires.cut
    next
    (omega (arith, c.requires.within))

pub returns-clause-so_far : goal.returns-clause-so_far
returns-clause-so_far c =
    let relations = c.args.whole.now.relations in
    let index = c.index-relations-rel in
    let same = ap length c.relations.ensures.value in
    let at = read_item relations c.relations.result.now c.args.rel.0 index.result c.relations.ensures.value
    (omega (arith, same, c.requires.within)) index.is in
    let next = parts_put relations c.args.places.now c.args.rel.0 c.args.part.now.relations c.requires.so_far
    index.result c.in_ok-cut.cut
    c.rows.result.now c.entities.result.now at c.rows.ensures c.entities.ensures c.in_ok-cut.ensures in
    on_ok_weaker c.add_relation.result
    (λ e. subst (λ (s : Spec). ArePartsSoFar relations c.args.places.now (c.args.rel.0 + 1) s.relations) (sym e) next)
    c.add_relation.ensures.ok
