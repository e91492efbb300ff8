use Rattle.std.proofs.Common.{◌≡◌, ◌∙◌, List, rules}
use Rattle.std.specs.Cmp.Lexicographic.{slice_cmp}
use Rattle.std.proofs.lemmas.Fn.{always_returns_same}
use Rattle.currency_base.specs.Values.{value_cmp}
use Rattle.currency_base.specs.declared.value.Value.{Value}
use Rattle.possible_answers.proofs.Searched.{found_is}
use Rattle.possible_answers.proofs.among.is_among.Goals as goal

pub returns : goal.returns
returns c =
    let tuple = c.args.tuple.now in
    let answers = always_returns_same _ (λ a r. r ≡ slice_cmp value_cmp a.0.now tuple) _ (λ a r q k. search rules) in
    c.is_ok.ensures.value
    ∙ found_is c.laws_of_tuple_order.ensures.total c.args.tuples.now tuple c.binary_search_by.result c.requires
    (rw c.as_slice.ensures at c.binary_search_by.ensures.bound)
    (rw c.as_slice.ensures at (c.binary_search_by.ensures.position (λ (y : List Value). slice_cmp value_cmp y tuple) answers))
