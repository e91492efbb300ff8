-- Matches that ascend.
use Rattle.std.proofs.Common.{◌≡◌, ◌<◌, ◌≤◌, ◌⊎◌, inl, inr, List, get_or, sym, ap, ◌∙◌, arith}
use Rattle.std.specs.List.Sorted.{IsStrictlySortedBy}
use Rattle.std.specs.Ordering.{ordering_reverse}
use Rattle.std.specs.declared.cmp.Ordering.{Ordering}
use Rattle.std.specs.declared.cmp.Ordering.TheVariants.{Less, Equal, Greater}
use Rattle.std.proofs.lemmas.Bool.{cases_lt}
use Rattle.std.proofs.lemmas.Map.Keys.{Less-from_sorted}
use Rattle.std.proofs.lemmas.Option.{get_or_from_slice_get, slice_get_within}
use Rattle.currency_base.specs.Lists.{OnlyOnce}
use Rattle.query_model.specs.declared.query.Match.{Match}
use Rattle.match_candidates.specs.MatchOrder.{match_total}
use Rattle.match_candidates.specs.Matches.{MatchPrecedes, MatchesAscend, match_cmp}

pub sorted_ascend : (list : List Match) → IsStrictlySortedBy match_cmp list → MatchesAscend list
sorted_ascend list sorted i j a b before is_a is_b =
    let inside = slice_get_within list j b is_b in
    let first = get_or_from_slice_get list i a a is_a in
    let second = get_or_from_slice_get list j b a is_b in
    ap (λ m. match_cmp m b) (sym first) ∙ ap (λ m. match_cmp (get_or list i a) m) (sym second)
    ∙ Less-from_sorted match_cmp list i j a sorted before inside

not_less : (o : Ordering) → o ≡ ordering_reverse o → o ≡ Less → ⊥
not_less Less is e = cc
not_less Equal is e = cc
not_less Greater is e = cc

never_before : (m : Match) → MatchPrecedes m m → ⊥
never_before m is = not_less (match_cmp m m) (match_total.antisymm m m) is

pub ascending_once : (list : List Match) → MatchesAscend list → OnlyOnce list
ascending_once list ascend i j m first second = by (cases_lt i j) (cases_lt j i)
  where
    by : (i < j) ⊎ (j ≤ i) → (j < i) ⊎ (i ≤ j) → i ≡ j
    by (inl below) other = absurd (never_before m (ascend i j m m below first second))
    by (inr high) (inl below) = absurd (never_before m (ascend j i m m below second first))
    by (inr high) (inr low) = omega arith
