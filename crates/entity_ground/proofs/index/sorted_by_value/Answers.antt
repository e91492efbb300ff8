use Rattle.std.proofs.Common.{◌≡◌, List, ◌++◌, ap, ◌∙◌, rules}
use Rattle.std.specs.Ordering.{is_lt}
use Rattle.std.proofs.lemmas.Fn.{always_returns_same}
use Rattle.currency_base.specs.declared.ids.RowId.{RowId}
use Rattle.entity_ground.specs.Lookups.{is_lower}
use Rattle.entity_ground.proofs.Alike.{lower_orders}
use Rattle.entity_ground.proofs.index.sorted_by_value.Goals as goal

pub returns : goal.returns
returns c =
    let table = c.args.table.now in
    let attr = c.args.attr in
    let given = c.in-Ok.ensures.items ∙ ap (λ (l : List RowId). l ++ c.args.members.now) c.new-rows.ensures.items in
    let answers = always_returns_same _ (λ a r. is_lt r ≡ is_lower table attr a.0.now a.1.0.now) _ (λ a r q k. search rules) in
    record {
      sorted = c.in-Ok-sort_by.ensures.sorted (is_lower table attr) (lower_orders table attr) answers;
      stable = rw given at (c.in-Ok-sort_by.ensures.stable (is_lower table attr) (lower_orders table attr) answers);
    }
