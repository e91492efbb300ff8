-- A given pair that comes after all others is put at the end.
use Rattle.std.proofs.Common.{◌≡◌, ◌∙◌, ◌+◌, List, [], ◌∷◌, ◌++◌, All, length, Less, Greater, refl, ap, rules}
use Rattle.std.specs.BTreeSet.{insert_key}
use Rattle.std.specs.Cmp.{IsTotalOrder}
use Rattle.std.specs.Cmp.Rules.{comparing}
use Rattle.std.specs.List.Sorted.{IsStrictlySortedBy}
use Rattle.std.specs.Ordering.{match_ordering, ordering_reverse}
use Rattle.std.proofs.lemmas.List.Elements.{All-nil, All-cons, All-head, All-tail}
use Rattle.std.proofs.lemmas.Map.Keys.{sorted_tail}
use Rattle.std.proofs.lemmas.Map.Views.{All-after_first}
use Rattle.currency_base.specs.declared.pair.Pair.{Pair}
use Rattle.partial_orders.specs.Pairs.{pair_cmp}
use Rattle.kept_items.proofs.Places.{item_has, get_back}

pair_total : IsTotalOrder pair_cmp
pair_total = search (comparing, rules)

turned : (p q : Pair) → pair_cmp q p ≡ Less → pair_cmp p q ≡ Greater
turned p q e = pair_total.antisymm p q ∙ ap ordering_reverse e

pub put_last : (ps : List Pair) (p : Pair) → All (λ q. pair_cmp q p ≡ Less) ps → insert_key pair_cmp ps p ≡ ps ++ p ∷ []
put_last [] p all = refl
put_last (q ∷ ps) p all =
    ap (λ o. match_ordering o (p ∷ q ∷ ps) (q ∷ ps) (q ∷ insert_key pair_cmp ps p))
    (turned p q (All-head (λ z. pair_cmp z p ≡ Less) q ps all))
    ∙ ap (λ (l : List Pair). q ∷ l) (put_last ps p (All-tail (λ z. pair_cmp z p ≡ Less) q ps all))

-- in a list that ascends, what stands before a pair is less
pub all_before : (front rest : List Pair) (p : Pair) → IsStrictlySortedBy pair_cmp (front ++ p ∷ rest)
    → All (λ q. pair_cmp q p ≡ Less) front
all_before [] rest p sorted = All-nil (λ q. pair_cmp q p ≡ Less)
all_before (q ∷ front) rest p sorted =
    let above = All-after_first pair_cmp q (front ++ p ∷ rest) sorted in
    All-cons (λ z. pair_cmp z p ≡ Less) q front
    (item_has (λ z. pair_cmp q z ≡ Less) (front ++ p ∷ rest) above (length front + 0) p (get_back front (p ∷ rest) 0 p refl))
    (all_before front rest p (sorted_tail pair_cmp q (front ++ p ∷ rest) sorted))
