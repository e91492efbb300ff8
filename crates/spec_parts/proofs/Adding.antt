-- A given pair more in a relation of the part.
use Rattle.std.proofs.Common.{◌≡◌, ◌⊎◌, ◌+◌, ◌<◌, ◌∙◌, ℕ, zero, suc, List, [], ◌∷◌, Contains, Some, IfSome, length, take, slice_get, slice_set, refl, sym, ap, subst, inl, inr, arith}
use Rattle.std.specs.BTreeSet.{insert_key}
use Rattle.std.proofs.lemmas.List.{length-set}
use Rattle.std.proofs.lemmas.List.Elements.{Contains-push_cases}
use Rattle.std.proofs.lemmas.Option.{same_Some, slice_get_within}
use Rattle.currency_base.specs.declared.ids.AttrId.{AttrId}
use Rattle.currency_base.specs.declared.ids.EntId.{EntId}
use Rattle.currency_base.specs.declared.ids.RowId.{RowId}
use Rattle.currency_base.specs.declared.pair.Pair.{Pair}
use Rattle.partial_orders.specs.Pairs.{pair_cmp}
use Rattle.spec_model.specs.Facts.{IsGivenPair, AddsGiven, with_given}
use Rattle.spec_model.specs.Spec.{Spec}
use Rattle.spec_model.specs.declared.relation.Relation.{Relation}
use Rattle.part_laws.specs.Parts.{Places, RowsAscend, IsPairPart, rows_in, entities_in}
use Rattle.spec_parts.specs.Steps.{AreCuttable, IsPartSoFar, ArePartsSoFar, IsKept, Grows, HasPairs, HasGiven}
use Rattle.spec_parts.proofs.Among.{Among, from_contains, to_contains, in_inserted, kept_inserted, of_inserted}
use Rattle.spec_parts.proofs.Pairing.{stands, item_has, take_next}
use Rattle.spec_parts.proofs.PartLists.{part_at}
use Rattle.spec_parts.proofs.PartRelation.{pair_is_given}
use Rattle.spec_parts.proofs.Searched.{same_number, one_row}

-- what stands at a place once an item is set
at_set : {A : Type 0} (xs : List A) (i : ℕ) (y : A) (k : ℕ) (x : A) → slice_get (slice_set xs i y) k ≡ Some x
    → ((k ≡ i) × (y ≡ x)) ⊎ (slice_get xs k ≡ Some x)
at_set [] i y k x at = inr at
at_set (z ∷ xs) zero y zero x at = inl (refl, same_Some y x at)
at_set (z ∷ xs) zero y (suc k) x at = inr at
at_set (z ∷ xs) (suc i) y zero x at = inr at
at_set (z ∷ xs) (suc i) y (suc k) x at = step (at_set xs i y k x at)
  where
    step : ((k ≡ i) × (y ≡ x)) ⊎ (slice_get xs k ≡ Some x) → ((suc k ≡ suc i) × (y ≡ x)) ⊎ (slice_get xs k ≡ Some x)
    step (inl h) = inl (ap suc h.0, h.1)
    step (inr h) = inr h

get_set : {A : Type 0} (xs : List A) (i : ℕ) (y : A) → i < length xs → slice_get (slice_set xs i y) i ≡ Some y
get_set [] i y below = absurd (omega (arith, below))
get_set (x ∷ xs) zero y below = refl
get_set (x ∷ xs) (suc i) y below = get_set xs i y (omega (arith, below))

-- ---- sets of pairs

has_added : (pairs : List Pair) (p : Pair) → Contains (insert_key pair_cmp pairs p) p
has_added pairs p = to_contains (insert_key pair_cmp pairs p) p (in_inserted pairs p)

still_has : (pairs : List Pair) (p q : Pair) → Contains pairs q → Contains (insert_key pair_cmp pairs p) q
still_has pairs p q c = to_contains (insert_key pair_cmp pairs p) q (kept_inserted pairs p q (from_contains pairs q c))

had : (pairs : List Pair) (p q : Pair) → Contains (insert_key pair_cmp pairs p) q → Contains pairs q ⊎ (p ≡ q)
had pairs p q c = by (of_inserted pairs p q (from_contains (insert_key pair_cmp pairs p) q c))
  where
    by : Among pairs q ⊎ (p ≡ q) → Contains pairs q ⊎ (p ≡ q)
    by (inl old) = inl (to_contains pairs q old)
    by (inr same) = inr same

-- ---- a relation with one pair more

part_with : (r : Relation) (rows : List RowId) (entities : List EntId) (new : Relation) (p old : Pair)
    → IsPartSoFar r rows entities new
    → IsPairPart rows p old → Contains r.given old → IsPartSoFar r rows entities (with_given new p)
part_with r rows entities new p old is pair given = record {
  name = is.name;
  attrs = is.attrs;
  rows = is.rows;
  entities = is.entities;
  given = λ q c. by q (had new.given p q c);
}
  where
    by : (q : Pair) → Contains new.given q ⊎ (p ≡ q) → (o : Pair) × IsPairPart rows q o × Contains r.given o
    by q (inl was) = is.given q was
    by q (inr same) = (old, subst (λ x. IsPairPart rows x old) same pair, given)

module _ (whole : Spec) (n : Places) (old new : Spec) (rel : ℕ) (p o : Pair) (r q : Relation)
    (at : slice_get whole.relations rel ≡ Some r) (at_old : slice_get old.relations rel ≡ Some q) (given : Contains r.given o)
    (is : IsPairPart (rows_in n rel) p o) (are : ArePartsSoFar whole.relations n (length whole.relations) old.relations)
    (adds : AddsGiven old.relations new.relations rel p) where
  set : new.relations ≡ slice_set old.relations rel (with_given q p)
  set = adds q at_old

  found : (k : ℕ) (w : Relation) → slice_get new.relations k ≡ Some w
      → ((k ≡ rel) × (with_given q p ≡ w)) ⊎ (slice_get old.relations k ≡ Some w)
  found k w at_w = at_set old.relations rel (with_given q p) k w (ap (λ l. slice_get l k) (sym set) ∙ at_w)

  each : (k : ℕ) (s w : Relation) → slice_get whole.relations k ≡ Some s → slice_get new.relations k ≡ Some w
      → IsPartSoFar s (rows_in n k) (entities_in n k) w
  each k s w at_s at_w = by (found k w at_w)
    where
      by : ((k ≡ rel) × (with_given q p ≡ w)) ⊎ (slice_get old.relations k ≡ Some w) → IsPartSoFar s (rows_in n k)
          (entities_in n k) w
      by (inl here) =
          let same : r ≡ s = same_Some r s (sym at ∙ ap (slice_get whole.relations) (sym here.0) ∙ at_s) in
          let was = are.each rel r q at at_old in
          let made = part_with r (rows_in n rel) (entities_in n rel) q p o was is given in
          subst (λ j. IsPartSoFar s (rows_in n j) (entities_in n j) w) (sym here.0)
          (subst (λ x. IsPartSoFar x (rows_in n rel) (entities_in n rel) w) same
          (subst (IsPartSoFar r (rows_in n rel) (entities_in n rel)) here.1 made))
      by (inr there) = are.each k s w at_s there

  kept : (k : ℕ) (w : Relation) → slice_get new.relations k ≡ Some w → IsKept old.relations k w
  kept k w at_w = by (found k w at_w)
    where
      by : ((k ≡ rel) × (with_given q p ≡ w)) ⊎ (slice_get old.relations k ≡ Some w) → IsKept old.relations k w
      by (inl here) = record {
        was = q;
        is_was = ap (slice_get old.relations) here.0 ∙ at_old;
        given = λ x c. subst (λ (y : Relation). Contains y.given x) here.1 (still_has q.given p x c);
      }
      by (inr there) = record { was = w; is_was = there; given = λ x c. c }

  pub grows_one : new.rules ≡ old.rules → new.copies ≡ old.copies → Grows whole n old new
  grows_one rules copies = record {
    so_far = record { many = ap length set ∙ length-set old.relations rel (with_given q p) ∙ are.many; each = each };
    kept = kept;
    rules = rules;
    copies = copies;
  }

  pub has_one : (w : Relation) → slice_get new.relations rel ≡ Some w → Contains w.given p
  has_one w at_w = by (found rel w at_w)
    where
      by : ((rel ≡ rel) × (with_given q p ≡ w)) ⊎ (slice_get old.relations rel ≡ Some w) → Contains w.given p
      by (inl here) = subst (λ (y : Relation). Contains y.given p) here.1 (has_added q.given p)
      by (inr there) =
          let within = slice_get_within old.relations rel q at_old in
          let at_set : slice_get new.relations rel ≡ Some (with_given q p) = ap (λ l. slice_get l rel) set
          ∙ get_set old.relations rel
          (with_given q p) within in
          subst (λ (y : Relation). Contains y.given p) (same_Some (with_given q p) w (sym at_set ∙ at_w)) (has_added q.given p)

-- ---- steps

pub grows_none : (whole : Spec) (n : Places) (old : Spec) → ArePartsSoFar whole.relations n (length whole.relations) old.relations
    → Grows whole n old old
grows_none whole n old are = record {
  so_far = are;
  kept = λ rel w at. record { was = w; is_was = at; given = λ p c. c };
  rules = refl;
  copies = refl;
}

pub grows_also : (whole : Spec) (n : Places) (old mid new : Spec) → Grows whole n old mid → Grows whole n mid new
    → Grows whole n old new
grows_also whole n old mid new first next = record {
  so_far = next.so_far;
  kept = λ rel w at.
      let b = next.kept rel w at in
      let a = first.kept rel b.was b.is_was in
      record { was = a.was; is_was = a.is_was; given = λ p c. b.given p (a.given p c) };
  rules = next.rules ∙ first.rules;
  copies = next.copies ∙ first.copies;
}

pub pairs_kept : (whole : Spec) (n : Places) (old new : Spec) (rel : ℕ) (rows : List RowId) (pairs : List Pair)
    → Grows whole n old new
    → HasPairs old.relations rel rows pairs → HasPairs new.relations rel rows pairs
pairs_kept whole n old new rel rows pairs grows has w at p o is c =
    let k = grows.kept rel w at in
    k.given p (has k.was k.is_was p o is c)

pub given_kept : (whole : Spec) (n : Places) (old new : Spec) (rel : ℕ) → Grows whole n old new
    → HasGiven whole n old.relations rel → HasGiven whole n new.relations rel
given_kept whole n old new rel grows has r at = pairs_kept whole n old new rel (rows_in n rel) r.given grows (has r at)

-- what a pair of the whole is in the part is one pair
one_pair : (rows : List RowId) (p q old : Pair) → RowsAscend rows → IsPairPart rows p old → IsPairPart rows q old → p ≡ q
one_pair rows p q old ascend a b =
    let attr : p.attr ≡ q.attr = a.attr ∙ sym b.attr in
    let earlier : p.earlier ≡ q.earlier = same_number p.earlier q.earlier
    (one_row rows p.earlier.0 q.earlier.0 old.earlier ascend a.earlier b.earlier) in
    let later : p.later ≡ q.later = same_number p.later q.later (one_row rows p.later.0 q.later.0 old.later ascend
    a.later b.later) in
    let make : AttrId → RowId → RowId → Pair = λ x y z. record { attr = x; earlier = y; later = z } in
    ap (λ x. make x p.earlier p.later) attr ∙ (ap (λ y. make q.attr y p.later) earlier ∙ ap (λ z. make q.attr q.earlier z) later)

pub pairs_more : (part : List Relation) (rel : ℕ) (rows : List RowId) (pairs : List Pair) (i : ℕ) (p o : Pair) → RowsAscend rows
    → slice_get pairs i ≡ Some o → IsPairPart rows p o → HasPairs part rel rows (take i pairs)
    → ((w : Relation) → slice_get part rel ≡ Some w → Contains w.given p) → HasPairs part rel rows (take (i + 1) pairs)
pairs_more part rel rows pairs i p o ascend at is has one w at_w q old is_q c =
    by (Contains-push_cases (take i pairs) o old (subst (λ l. Contains l old) (take_next pairs i o at) c))
  where
    by : Contains (take i pairs) old ⊎ (o ≡ old) → Contains w.given q
    by (inl before) = has w at_w q old is_q before
    by (inr same) =
        let twin : p ≡ q = one_pair rows p q old ascend (subst (IsPairPart rows p) same is) is_q in
        subst (Contains w.given) twin (one w at_w)

-- the relation of the part takes the pair
pub pair_fits : (relations : List Relation) (n : Places) (part : List Relation) (rel : ℕ) (r : Relation) (p o : Pair)
    → AreCuttable relations n
    → ArePartsSoFar relations n (length relations) part → slice_get relations rel ≡ Some r → Contains r.given o
    → IsPairPart (rows_in n rel) p o
    → IfSome (slice_get part rel) (λ w. IsGivenPair w p)
pair_fits relations n part rel r p o cut are at given is =
    let new = part_at relations n (length relations) part are rel r (slice_get_within relations rel r at) at in
    let facts = (cut.each rel r at).facts in
    let place = stands r.given o given in
    let old = item_has (IsGivenPair r) r.given facts.given place.0 o place.1 in
    subst (λ x. IfSome x (λ w. IsGivenPair w p)) (sym new.1)
    (pair_is_given r (rows_in n rel) (entities_in n rel) new.0 (cut.each rel r at) new.2 p o is old)
