use Rattle.std.proofs.Common.{◌<◌, List, All, sym, subst}
use Rattle.spec_model.specs.declared.relation.Relation.{Relation}
use Rattle.order_squares.specs.Entities.{count_of}
use Rattle.order_squares.specs.declared.square.Square.{Square}
use Rattle.order_squares.proofs.Columns.{listed_within}
use Rattle.order_squares.proofs.squares.Squares.new.Goals as goal

pub sizes_of-requires : goal.sizes_of-requires
sizes_of-requires c =
    let all = listed_within c.args.relations.now c.in_ok-listed.listed.starts c.in_ok-listed.listed.squares.items
    c.in_ok-listed.ensures in
    subst (λ (rs : List Relation). All (λ (q : Square). q.ent.0 < count_of rs q.rel.0) c.deref.result.now)
    (sym c.in_ok-groups.ensures)
    (subst (λ (qs : List Square). All (λ (q : Square). q.ent.0 < count_of c.args.relations.now q.rel.0) qs)
    (sym c.deref.ensures.value) all)
