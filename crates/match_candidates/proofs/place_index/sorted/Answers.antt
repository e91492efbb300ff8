use Rattle.std.proofs.Common.{◌≡◌, rules}
use Rattle.std.specs.Ordering.{is_lt}
use Rattle.std.proofs.lemmas.Fn.{always_returns_same}
use Rattle.match_candidates.specs.Entries.{is_lower}
use Rattle.match_candidates.proofs.AlikeEntries.{in_order_still, lower_orders}
use Rattle.match_candidates.proofs.place_index.sorted.Goals as goal

pub returns : goal.returns
returns c =
    let answers = always_returns_same _ (λ a r. is_lt r ≡ is_lower a.0.now a.1.0.now) _ (λ a r q k. search rules) in
    record {
      sorted = c.in_ok-sort_by.ensures.sorted is_lower lower_orders answers;
      are = in_order_still c.args.table.now c.args.place _ _ c.in_ok-sort_by.ensures.permutation c.requires;
    }
