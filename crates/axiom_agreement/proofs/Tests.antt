-- The judge's tests of rows, and what they test.
use Rattle.std.proofs.Common.{◌≡◌, ◌∙◌, ◌==◌, ◌+◌, ◌<◌, ℕ, Bool, true, false, not, cond, List, [], ◌∷◌, All, Contains, Option, Some, None, filter, length, get_or, slice_get, refl, sym, ap, inl, inr, arith}
use Rattle.std.specs.List.{list_all}
use Rattle.std.specs.Cmp.{nat_cmp_is}
use Rattle.std.specs.Ordering.{nat_cmp, is_eq}
use Rattle.std.specs.declared.cmp.Ordering.TheVariants.{Equal}
use Rattle.std.proofs.lemmas.Bool.{and_from, and_parts, eqb-true, eqb-false, eq-eqb, ne_eqb, lt-ltb, ltb-true, not-true, not_from_false, false≢true}
use Rattle.std.proofs.lemmas.List.Elements.{All-contains}
use Rattle.std.proofs.lemmas.List.Sums.{AllPass-from_list_all}
use Rattle.std.proofs.lemmas.Option.{none-some}
use Rattle.currency_base.specs.declared.ids.AttrId.{AttrId}
use Rattle.currency_base.specs.declared.ids.RelId.{RelId}
use Rattle.currency_base.specs.declared.ids.RowId.{RowId}
use Rattle.currency_base.specs.declared.pair.Pair.{Pair}
use Rattle.currency_base.specs.declared.row.Row.{Row}
use Rattle.partial_orders.specs.Pairs.{entity_of, pair_cmp, has_pair}
use Rattle.spec_model.specs.declared.relation.Relation.{Relation}
use Rattle.spec_model.specs.Satisfies.{IsChoice}
use Rattle.entity_rows.specs.Members.{members_from, members}
use Rattle.entity_rows.proofs.Membership.{member_of_entity}
use Rattle.entity_lists.specs.Lists.{entities_of, rows_from, rows_of}
use Rattle.order_literals.proofs.Items.{IsIn, contained, in_contained, place_of}
use Rattle.order_literals.proofs.RowLaws.{row_is}
use Rattle.log_axioms.specs.Axioms as judged
use Rattle.log_axioms.specs.Axioms.{is_attr, is_one, same_entity, are_two, same_value, of_one_entity, in_relation}
use Rattle.log_axioms.specs.declared.signed.Signed.{Signed}
use Rattle.order_literals.specs.Axioms.{AreTwo, others, alike}
use Rattle.value_names.specs.Names.{are_alike}
use Rattle.axiom_agreement.proofs.Agreeing.{all_pass, one_passes}

-- ---- numbers

pub itself : (n : ℕ) → (n == n) ≡ true
itself n = eq-eqb n n refl

turned : (a b : ℕ) → (a == b) ≡ (b == a)
turned a b = by (a == b) refl
  where
    by : (t : Bool) → (a == b) ≡ t → t ≡ (b == a)
    by true e = sym (eq-eqb b a (sym (eqb-true a b e)))
    by false e = sym (ne_eqb b a (λ same. eqb-false a b e (sym same)))

-- ---- attributes and entities

pub attr_passes : (r : Relation) (attr : AttrId) → attr.0 < length r.attrs → is_attr r attr ≡ true
attr_passes r attr below = lt-ltb attr.0 (length r.attrs) below

pub passed_attr : (r : Relation) (attr : AttrId) → is_attr r attr ≡ true → attr.0 < length r.attrs
passed_attr r attr e = ltb-true attr.0 (length r.attrs) e

one_is : (a b : Option ℕ) → is_one a b ≡ true → (n : ℕ) × (a ≡ Some n) × (b ≡ Some n)
one_is (Some a) (Some b) e = (b, ap Some (eqb-true a b e), refl)
one_is (Some a) None e = absurd (false≢true e)
one_is None b e = absurd (false≢true e)

pub entity_passes : (rows : List Row) (a b : RowId) (ent : ℕ) → entity_of rows a.0 ≡ Some ent → entity_of rows b.0 ≡
    Some ent → same_entity rows a b ≡ true
entity_passes rows a b ent of_a of_b = rw (of_a, of_b) (itself ent)

pub passed_entity : (rows : List Row) (a b : RowId) → same_entity rows a b ≡ true →
    (ent : ℕ) × (entity_of rows a.0 ≡ Some ent) × (entity_of rows b.0 ≡ Some ent)
passed_entity rows a b e = one_is (entity_of rows a.0) (entity_of rows b.0) e

pub two_pass : (rows : List Row) (a b : RowId) → AreTwo rows a b → are_two rows a b ≡ true
two_pass rows a b two =
    and_from (same_entity rows a b) (not (a.0 == b.0)) (entity_passes rows a b two.ent two.a_of two.b_of)
    (not_from_false (a.0 == b.0) (ne_eqb a.0 b.0 (λ same. two.differ (row_is a b same))))

pub passed_two : (rows : List Row) (a b : RowId) → are_two rows a b ≡ true → AreTwo rows a b
passed_two rows a b e =
    let parts = and_parts (same_entity rows a b) (not (a.0 == b.0)) e in
    let one = passed_entity rows a b parts.0 in
    record {
      ent = one.0;
      a_of = one.1;
      b_of = one.2;
      differ = λ same. eqb-false a.0 b.0 (not-true (a.0 == b.0) parts.1) (ap (λ (row : RowId). row.0) same);
    }

-- ---- rows of an entity

members_from_are : (first : ℕ) (rows : List Row) (ent : ℕ) → members_from first rows ent ≡ rows_from first (entities_of rows) ent
members_from_are first [] ent = refl
members_from_are first (row ∷ rows) ent = rw (members_from_are (first + 1) rows ent) refl

members_are : (rows : List Row) (ent : ℕ) → members rows ent ≡ rows_of (entities_of rows) ent
members_are rows ent = members_from_are 0 rows ent

-- tests that agree on a list keep the same of it
kept_alike : {A : Type 0} (p q : A → Bool) (xs : List A) → ((x : A) → IsIn xs x → p x ≡ q x) → filter p xs ≡ filter q xs
kept_alike p q [] each = refl
kept_alike p q (x ∷ xs) each = rw (each x (inl refl), kept_alike p q xs (λ y at. each y (inr at))) refl

pub others_are : (rows : List Row) (ent : ℕ) (row : RowId) → judged.others rows ent row ≡ others rows ent row
others_are rows ent row =
    kept_alike (λ (other : RowId). not (row.0 == other.0)) (λ (other : RowId). not (other.0 == row.0))
    (members rows ent) (λ other at. ap not (turned row.0 other.0))
    ∙ ap (filter (λ (other : RowId). not (other.0 == row.0))) (members_are rows ent)

pub alike_are : (rows : List Row) (attr ent : ℕ) (row : RowId) → entity_of rows row.0 ≡ Some ent
    → judged.alike rows attr ent row ≡ alike rows attr ent row
alike_are rows attr ent row of =
    kept_alike (same_value rows attr row) (are_alike rows attr row) (members rows ent) one
    ∙ ap (filter (are_alike rows attr row)) (members_are rows ent)
  where
    one : (other : RowId) → IsIn (members rows ent) other → same_value rows attr row other ≡ are_alike rows attr row other
    one other at =
        let place = place_of (members rows ent) other at in
        let its = member_of_entity rows ent place.0 other place.1 in
        rw (of, its, itself ent) refl

-- ---- choices of rows

pub choice_passes : (table : List Row) (vars : ℕ) (rows : List RowId) → IsChoice table vars rows → 0 < vars
    → of_one_entity table rows ≡ true
choice_passes table vars [] choice some = absurd (omega (arith, choice.one_each, some))
choice_passes table vars (first ∷ more) choice some =
    all_pass (same_entity table first) (first ∷ more)
    (λ row at. entity_passes table first row choice.ent (of first (inl refl)) (of row at))
  where
    of : (row : RowId) → IsIn (first ∷ more) row → entity_of table row.0 ≡ Some choice.ent
    of row at = All-contains (λ (x : RowId). entity_of table x.0 ≡ Some choice.ent) (first ∷ more) row
        choice.of_entity (contained (first ∷ more) row at)

passes_each : {A : Type 0} (test : A → Bool) (P : A → Type 0) (xs : List A) → ((x : A) → test x ≡ true → P x)
    → list_all test xs ≡ true → All P xs
passes_each test P xs each e = λ k d below. each (get_or xs k d) (AllPass-from_list_all test xs e k d below)

pub passed_choice : (table : List Row) (vars : ℕ) (rows : List RowId) → length rows ≡ vars → of_one_entity table
    rows ≡ true → IsChoice table vars rows
passed_choice table vars [] long e = absurd (false≢true e)
passed_choice table vars (first ∷ more) long e =
    let parts = and_parts (same_entity table first first) (list_all (same_entity table first) more) e in
    let own = passed_entity table first first parts.0 in
    record {
      one_each = long;
      ent = own.0;
      of_entity = passes_each (same_entity table first) (λ (row : RowId). entity_of table row.0 ≡ Some own.0)
          (first ∷ more) (its own.0 own.1) e;
    }
  where
    its : (ent : ℕ) → entity_of table first.0 ≡ Some ent → (row : RowId) → same_entity table first row ≡ true
        → entity_of table row.0 ≡ Some ent
    its ent of row same =
        let both = passed_entity table first row same in
        both.2 ∙ (sym both.1 ∙ of)

-- ---- given pairs

nat_itself : (n : ℕ) → nat_cmp n n ≡ Equal
nat_itself n = sym (nat_cmp_is n n Equal refl)

pub given_passes : (pairs : List Pair) (p : Pair) → Contains pairs p → has_pair pairs p ≡ true
given_passes pairs p at = one_passes (λ q. is_eq (pair_cmp p q)) pairs p (in_contained pairs p at) same
  where
    same : is_eq (pair_cmp p p) ≡ true
    same = rw (nat_itself p.attr.0, nat_itself p.earlier.0, nat_itself p.later.0) refl

-- ---- conditions

pub given_if : {A : Type 0} (b : Bool) (x : Option A) (y : A) → cond b x None ≡ Some y → (b ≡ true) × (x ≡ Some y)
given_if true x y e = (refl, e)
given_if false x y e = absurd (none-some y e)

pub then_given : {A : Type 0} (b : Bool) (x : Option A) → b ≡ true → cond b x None ≡ x
then_given b x e = ap (λ t. cond t x None) e

-- ---- relations that are there

pub in_relation_at : (relations : List Relation) (rel : RelId) (r : Relation)
    (clause : Relation → Option (List Signed)) → slice_get relations rel.0 ≡ Some r
    → in_relation relations rel clause ≡ clause r
in_relation_at relations rel r clause at = rw at refl

pub in_relation_is : (relations : List Relation) (rel : RelId) (clause : Relation → Option (List Signed))
    (x : List Signed) → in_relation relations rel clause ≡ Some x
    → (r : Relation) × (slice_get relations rel.0 ≡ Some r) × (clause r ≡ Some x)
in_relation_is relations rel clause x e = by (slice_get relations rel.0) refl e
  where
    by : (o : Option Relation) → slice_get relations rel.0 ≡ o → in_relation relations rel clause ≡ Some x
        → (r : Relation) × (slice_get relations rel.0 ≡ Some r) × (clause r ≡ Some x)
    by None at e = let none : None ≡ Some x = rw at at e in absurd (none-some x none)
    by (Some r) at e = let here : clause r ≡ Some x = rw at at e in (r, at, here)
