-- A given pair that was not there, and a rule, are as if they had not been added where they are withdrawn again.
use Rattle.std.proofs.Common.{◌≡◌, ◌≤◌, ◌∙◌, ◌++◌, ℕ, suc, false, List, [], ◌∷◌, Some, length, slice_get, slice_set, refl, sym, ap, ap₂, arith, append-nil, take_at, set-set}
use Rattle.std.specs.List.{remove}
use Rattle.std.proofs.lemmas.List.{drop_all, length_push, set-get_or}
use Rattle.std.proofs.lemmas.Option.{get_or_from_slice_get}
use Rattle.partial_orders.specs.Pairs.{has_pair}
use Rattle.partial_orders.proofs.TakenPairs.{taken_again}
use Rattle.currency_base.specs.declared.pair.Pair.{Pair}
use Rattle.spec_model.specs.declared.relation.Relation.{Relation}
use Rattle.spec_model.specs.Facts.{with_given, without_given, AddsGiven, TakesGiven}
use Rattle.spec_model.proofs.AddedRules.{get_set_same}

pub given_undone : (rs added taken : List Relation) (rel : ℕ) (r : Relation) (pair : Pair) → slice_get rs rel ≡ Some r
    → has_pair r.given pair ≡ false → AddsGiven rs added rel pair → TakesGiven added taken rel pair → taken ≡ rs
given_undone rs added taken rel r pair at lacks adds takes =
    let more = with_given r pair in
    let is_added : added ≡ slice_set rs rel more = adds r at in
    let at_more : slice_get added rel ≡ Some more =
    ap (λ (list : List Relation). slice_get list rel) is_added ∙ get_set_same rs rel r more at in
    let less : without_given more pair ≡ r =
    ap (λ (given : List Pair). let q : Relation = record r { given = given } in q) (taken_again r.given pair lacks) in
    takes more at_more
    ∙ (ap (λ (list : List Relation). slice_set list rel (without_given more pair)) is_added
    ∙ (set-set rs rel more (without_given more pair)
    ∙ (ap (slice_set rs rel) (less ∙ sym (get_or_from_slice_get rs rel r r at)) ∙ set-get_or rs rel r)))

-- the last item taken out again
pub last_undone : {A : Type 0} (xs : List A) (x : A) → remove (xs ++ x ∷ []) (length xs) ≡ xs
last_undone {A} xs x =
    let count = length_push xs x in
    let past : length (xs ++ x ∷ []) ≤ suc (length xs) = omega arith in
    ap₂ (λ (front back : List A). front ++ back) (take_at xs (x ∷ []) (length xs) refl)
    (drop_all (suc (length xs)) (xs ++ x ∷ []) past) ∙ append-nil xs
