-- What every specification keeps stays with one given pair less.
use Rattle.std.proofs.Common.{◌≡◌, ◌<◌, ℕ, Bool, List, IfSome, slice_get, slice_set, get_or, length, refl}
use Rattle.std.specs.Ordering.{is_eq}
use Rattle.std.proofs.lemmas.Map.Views.{All-remove_key}
use Rattle.partial_orders.specs.Pairs.{pair_cmp, has_pair, without_pair}
use Rattle.currency_base.specs.declared.pair.Pair.{Pair}
use Rattle.spec_model.specs.declared.relation.Relation.{Relation}
use Rattle.spec_model.specs.Facts.{IsGivenPair, AreRelations, TakesGiven}
use Rattle.spec_model.proofs.AddedPairs.{are_relations_with, found_at, read_at, is_relation_of}

-- one pair less at one relation
pub are_relations_taking : (rs now : List Relation) (i : ℕ) (r : Relation) (p : Pair) (given : List Pair)
    → rs ≡ now → AreRelations rs → i < length now → r ≡ get_or rs i r
    → given ≡ without_pair r.given p → AreRelations (slice_set rs i (record r { given = given }))
are_relations_taking rs now i r p given same h below read less =
    let here = read_at rs now i r same below read in
    let relation = is_relation_of rs i r h here in
    let all = All-remove_key (λ q. is_eq (pair_cmp p q)) (IsGivenPair r) r.given relation.given in
    are_relations_with rs i r given h here relation (rw less all)

pub takes_given : (rs now : List Relation) (i : ℕ) (r : Relation) (p : Pair) (given : List Pair)
    → rs ≡ now → i < length now → r ≡ get_or rs i r
    → given ≡ without_pair r.given p → TakesGiven now (slice_set rs i (record r { given = given })) i p
takes_given rs now i r p given same below read less other at =
    let here = found_at rs now i r same below read in
    let one : other ≡ r = cc in
    rw (same, less, one) refl

-- whether the pair was there
pub was_given : (rs now : List Relation) (i : ℕ) (r : Relation) (p : Pair) (was : Bool)
    → rs ≡ now → i < length now → r ≡ get_or rs i r
    → was ≡ has_pair r.given p → IfSome (slice_get now i) (λ q. was ≡ has_pair q.given p)
was_given rs now i r p was same below read is =
    let here = found_at rs now i r same below read in rw here is
