use Rattle.std.proofs.Common.{◌≡◌, List, ◌++◌, ap, ◌∙◌, rules}
use Rattle.std.specs.Ordering.{is_lt}
use Rattle.std.proofs.lemmas.Fn.{always_returns_same}
use Rattle.std.proofs.lemmas.List.Sorted.{Contains-permutation}
use Rattle.currency_base.specs.declared.ids.EntId.{EntId}
use Rattle.ucq_answers.specs.Lookups.{is_lower}
use Rattle.ucq_answers.proofs.Alike.{lower_orders}
use Rattle.ucq_answers.proofs.place_index.sorted_by_value.Goals as goal

pub returns : goal.returns
returns c =
    let tuples = c.args.tuples.now in
    let place = c.args.place in
    let given = c.in_ok-extend_from_slice.ensures.items ∙ ap (λ (l : List EntId). l ++ c.args.all.now)
    c.in_ok-ents.ensures.items in
    let answers = always_returns_same _ (λ a r. is_lt r ≡ is_lower tuples place a.0.now a.1.0.now) _ (λ a r q k. search rules) in
    record {
      sorted = c.in_ok-sort_by.ensures.sorted (is_lower tuples place) (lower_orders tuples place) answers;
      all = λ at tuple is. Contains-permutation c.args.all.now _ _ (rw given at c.in_ok-sort_by.ensures.permutation)
          (c.requires at tuple is);
    }
