-- An ordering, and a table of pairs, give pairs to one relation, which changes no limit.
use Rattle.std.proofs.Common.{◌≡◌, ◌∙◌, ℕ, List, Option, Some, None, Result, Ok, Err, slice_get, slice_set, sym, ap, refl, map}
use Rattle.std.specs.Prelude.{fold}
use Rattle.std.specs.BTreeSet.{insert_key}
use Rattle.currency_base.specs.declared.error_code.ErrorCode.TheVariants.{UnknownName}
use Rattle.currency_base.specs.declared.pair.Pair.{Pair}
use Rattle.partial_orders.specs.Pairs.{pair_cmp}
use Rattle.bind_faults.specs.Faults.{and_then, found_or, refused_at}
use Rattle.bind_faults.specs.declared.fault.BindFault.{BindFault}
use Rattle.spec_model.specs.Spec.{Spec}
use Rattle.spec_model.specs.declared.relation.Relation.{Relation}
use Rattle.spec_names.specs.NameLists.{NameLists}
use Rattle.spec_names.specs.Names.{place_of, all_names_of}
use Rattle.spec_syntax.specs.declared.trees.OrderingTree.{OrderingTree}
use Rattle.order_bind.specs.Orders.{giving_pairs, ordered, ordered_at, ordered_pairs}
use Rattle.order_bind.specs.TableOrders.{IsGivenMore as MorePairs}
use Rattle.spec_limits.specs.Limits.{exceeded, rows_together}
use Rattle.spec_limits.proofs.GivenPairs.{exceeded_given, rows_together_given}
use Rattle.bound_spec.specs.Growth.{limited, unless_above}
use Rattle.bound_spec.specs.Known.{IsKnown}
use Rattle.spec_bind.specs.Bound.{with_relations}

-- new is old with other given pairs at one of its relations
pub record Gives (old new : List Relation) : Type 0 where
  pub rel : ℕ
  pub r : Relation
  pub given : List Pair
  pub there : slice_get old rel ≡ Some r
  pub is : new ≡ slice_set old rel (record r { given = given })

gives_pairs : (done new : List Relation) (rel : ℕ) (r : Relation) (pairs : Result (List Pair) BindFault)
    → slice_get done rel ≡ Some r
    → giving_pairs done rel r pairs ≡ Ok new → Gives done new
gives_pairs done new rel r (Err fault) there e = absurd (cc)
gives_pairs done new rel r (Ok pairs) there e =
    record { rel = rel; r = r; given = fold (insert_key pair_cmp) r.given pairs; there = there; is = cc }

gives_at : (done new : List Relation) (o : OrderingTree) (rel : ℕ) (r : Option Relation) → slice_get done rel ≡ r
    → ordered_at done o rel r ≡ Ok new → Gives done new
gives_at done new o rel None there e = absurd (cc)
gives_at done new o rel (Some r) there e = gives_pairs done new rel r (ordered_pairs r o) there e

gives_found : (done new : List Relation) (o : OrderingTree) (place : Option ℕ)
    → found_or place (refused_at UnknownName o.relation) (λ rel. ordered_at done o rel (slice_get done rel)) ≡ Ok new
    → Gives done new
gives_found done new o None e = absurd (cc)
gives_found done new o (Some rel) e = gives_at done new o rel (slice_get done rel) refl e

ordered_gives : (done new : List Relation) (o : OrderingTree) → ordered done o ≡ Ok new → Gives done new
unfolding ordered
ordered_gives done new o e = gives_found done new o (place_of (map (λ r. r.name) done) o.relation.name) e

-- the specification with these relations
same_rest : (old new : Spec) → new.rules ≡ old.rules → new.copies ≡ old.copies → record old { relations = new.relations } ≡ new
same_rest old new rules copies =
    let at : ◌≡◌ {A = Spec} (record { relations = new.relations; rules = old.rules; copies = old.copies })
    (record { relations = new.relations; rules = new.rules; copies = new.copies }) = cc in
    at

-- new is old with other given pairs
pub record IsGivenMore (old new : Spec) : Type 0 where
  pub gives : Gives old.relations new.relations
  pub rules : new.rules ≡ old.rules
  pub copies : new.copies ≡ old.copies

-- it exceeds no limit
given_within : (old new : Spec) → IsGivenMore old new → exceeded old ≡ None → exceeded new ≡ None
given_within old new more within =
    let g = more.gives in
    ap exceeded (sym (same_rest old new more.rules more.copies))
    ∙ ap (λ (rs : List Relation). exceeded (record old { relations = rs })) g.is
    ∙ exceeded_given old g.rel g.r g.given g.there ∙ within

-- what is known of it
pub given_known : (old new : Spec) (names : NameLists) (rows : ℕ) → IsGivenMore old new → all_names_of new ≡
    all_names_of old → IsKnown old names rows → IsKnown new names rows
given_known old new names rows more same known =
    let g = more.gives in
    record {
      names_are = known.names_are ∙ sym same;
      rows_are = known.rows_are ∙ sym (ap rows_together g.is ∙ rows_together_given old.relations g.rel g.r g.given g.there);
      within = given_within old new more known.within;
    }

-- it is what is made, within limits
pub given_limited : (old new : Spec) (relations : Result (List Relation) BindFault) → relations ≡ Ok new.relations
    → IsGivenMore old new → exceeded old ≡ None
    → and_then (with_relations old relations) limited ≡ Ok new
given_limited old new relations e more within =
    ap (λ (r : Result (List Relation) BindFault). and_then (with_relations old r) limited) e
    ∙ ap limited (same_rest old new more.rules more.copies) ∙ ap (λ k. unless_above k new) (given_within old new more within)

-- an ordering gives more pairs
pub ordering_gives : (old new : Spec) (o : OrderingTree) → ordered old.relations o ≡ Ok new.relations
    → new.rules ≡ old.rules → new.copies ≡ old.copies → IsGivenMore old new
ordering_gives old new o e rules copies = record {
  gives = ordered_gives old.relations new.relations o e;
  rules =
      rules;
  copies = copies;
}

-- a table of pairs gives more pairs
pub table_gives : (old new : Spec) → MorePairs old.relations new.relations → new.rules ≡ old.rules
    → new.copies ≡ old.copies → IsGivenMore old new
table_gives old new m rules copies =
    record {
      gives = record {
        rel = m.rel;
        r = m.r;
        given = fold (insert_key pair_cmp) m.r.given m.pairs;
        there =
            m.there;
        is = m.is;
      };
      rules = rules;
      copies = copies;
    }
