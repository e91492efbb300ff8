use Rattle.std.proofs.Common.{◌≡◌, ◌∙◌, ap}
use Rattle.entity_lists.specs.Lists.{Grouping, entities_of}
use Rattle.order_literals.specs.Held.{grouping_of}
use Rattle.order_literals.proofs.Tabled.{wanted_fit}
use Rattle.order_literals.proofs.table.Table.new.Goals as goal

pub invariant_of-result : goal.invariant_of-result
invariant_of-result c =
    let r = c.args.relation.now in
    let rows : (grouping_of c.in-Ok-new.rows).entities ≡ entities_of r.rows =
    ap (λ (g : Grouping). g.entities) c.in-Ok-new.ensures.rows ∙ c.in-Ok.ensures.entities ∙ ap entities_of c.as_slice.ensures in
    record {
      paired = c.in-Ok-new.ensures.paired;
      named = rw (c.in-Ok-values_of.ensures, rows, c.len-attrs.ensures) (wanted_fit c.args.wanted r);
    }
