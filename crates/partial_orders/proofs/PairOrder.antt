-- Pairs that the order of pairs does not tell apart are one pair.
use Rattle.std.proofs.Common.{◌≡◌, refl, ap, ◌∙◌, true, Contains, List, ℕ}
use Rattle.std.specs.Cmp.{Equal-is}
use Rattle.std.specs.Ordering.{ordering_then, is_eq, nat_cmp}
use Rattle.std.specs.declared.cmp.Ordering.{Ordering}
use Rattle.std.specs.declared.cmp.Ordering.TheVariants.{Less, Equal, Greater}
use Rattle.std.proofs.lemmas.Map.Lookups.{exact_unsigned}
use Rattle.std.proofs.lemmas.Map.Views.{Contains-from_any}
use Rattle.currency_base.specs.declared.pair.Pair.{Pair}
use Rattle.partial_orders.specs.Pairs.{pair_cmp, has_pair}

both_equal : (o p : Ordering) → ordering_then o p ≡ Equal → (o ≡ Equal) × (p ≡ Equal)
both_equal Less p e = cc
both_equal Equal p e = (refl, e)
both_equal Greater p e = cc

pub same_pair : (p q : Pair) → is_eq (pair_cmp p q) ≡ true → p ≡ q
same_pair p q e =
    let first = both_equal (nat_cmp p.attr.0 q.attr.0) (ordering_then (nat_cmp p.earlier.0 q.earlier.0)
    (nat_cmp p.later.0 q.later.0)) ((Equal-is (pair_cmp p q)).0 e) in
    let second = both_equal (nat_cmp p.earlier.0 q.earlier.0) (nat_cmp p.later.0 q.later.0) first.1 in
    let attr : p.attr.0 ≡ q.attr.0 = exact_unsigned p.attr.0 q.attr.0 first.0 in
    let earlier : p.earlier.0 ≡ q.earlier.0 = exact_unsigned p.earlier.0 q.earlier.0 second.0 in
    let later : p.later.0 ≡ q.later.0 = exact_unsigned p.later.0 q.later.0 second.1 in
    let make : ℕ → ℕ → ℕ → Pair = λ a e l. record {
      attr = record { 0 = a };
      earlier = record { 0 = e };
      later =
          record { 0 = l };
    } in
    ap (λ a. make a p.earlier.0 p.later.0) attr ∙ ap (λ e. make q.attr.0 e p.later.0) earlier
    ∙ ap (λ l. make q.attr.0 q.earlier.0 l) later

pub has_is_contained : (pairs : List Pair) (p : Pair) → has_pair pairs p ≡ true → Contains pairs p
has_is_contained pairs p e = Contains-from_any same_pair p pairs e
