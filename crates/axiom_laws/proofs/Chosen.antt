-- A clause with a statement that is true, and what conditions of labels say.
use Rattle.std.proofs.Common.{◌≡◌, ◌==◌, ◌<◌, ℕ, zero, suc, Bool, true, false, not, cond, List, [], ◌∷◌, ◌++◌, Contains, Option, Some, None, length, map, filter, slice_get, refl, sym, ap, ◌∙◌, subst, arith}
use Rattle.std.proofs.lemmas.Bool.{and_parts, eqb-true, eq-eqb, ltb-true, false≢true}
use Rattle.std.proofs.lemmas.List.Elements.{Contains-append_left, Contains-append_right}
use Rattle.std.proofs.lemmas.Option.{same_Some, none-some}
use Rattle.currency_base.specs.declared.ids.AttrId.{AttrId}
use Rattle.currency_base.specs.declared.ids.RelId.{RelId}
use Rattle.currency_base.specs.declared.ids.RowId.{RowId}
use Rattle.partial_orders.specs.Pairs.{entity_of}
use Rattle.spec_model.specs.Completion.{Rankings, IsCompletion}
use Rattle.spec_model.specs.Facts.{IsRelation, AreRelations}
use Rattle.spec_model.specs.declared.relation.Relation.{Relation}
use Rattle.log_axioms.specs.Axioms.{is_attr, same_entity, are_two, in_relation}
use Rattle.log_axioms.specs.declared.signed.Signed.{Signed}
use Rattle.log_axioms.specs.Truth.{rows_in, HoldsIn}
use Rattle.axiom_laws.proofs.SaysSame.{IsSound, one_is}
use Rattle.axiom_laws.proofs.Standing.{AreTwo, all_at, entity_in}

-- one of the statements of a clause is true
pub record HasTrue (relations : List Relation) (c : Rankings) (answers : ℕ → Type 0) (clause : List Signed) : Type 0 where
  pub member : Signed
  pub is_in : Contains clause member
  pub sound : IsSound relations member
  pub holds : HoldsIn relations c answers member

-- relations of a specification, and a completion of them
pub record IsCase (relations : List Relation) (c : Rankings) : Type 0 where
  pub facts : AreRelations relations
  pub completion : IsCompletion relations c

-- ---- lists

pub first_in : {A : Type 0} (x : A) (xs : List A) → Contains (x ∷ xs) x
first_in x xs = (0, omega arith, refl)

pub rest_in : {A : Type 0} (x y : A) (xs : List A) → Contains xs y → Contains (x ∷ xs) y
rest_in x y xs at = (suc at.0, omega (arith, at.1), at.2)

-- an item that passes stands among those that pass
pub filtered_at : {A : Type 0} (test : A → Bool) (xs : List A) (i : ℕ) (x : A) → slice_get xs i ≡ Some x → test x ≡ true
    → Contains (filter test xs) x
filtered_at test [] i x at pass = absurd (none-some x at)
filtered_at test (y ∷ xs) zero x at pass =
    let same : y ≡ x = same_Some y x at in
    let here : test y ≡ true = ap test same ∙ pass in
    subst (Contains (filter test (y ∷ xs))) same (rw here (first_in y (filter test xs)))
filtered_at {A} test (y ∷ xs) (suc i) x at pass = by (test y) (filtered_at test xs i x at pass)
  where
    by : (b : Bool) → Contains (filter test xs) x → Contains (cond b (y ∷ filter test xs) (filter test xs)) x
    by true later = rest_in y x (filter test xs) later
    by false later = later

-- what a function makes of an item stands among what it makes of all
pub mapped_in : {A B : Type 0} (f : A → B) (xs : List A) (x : A) → Contains xs x → Contains (map f xs) (f x)
mapped_in f [] x at = absurd (omega (arith, at.1))
mapped_in f (y ∷ xs) x (zero, below, e) = subst (Contains (map f (y ∷ xs))) (ap f e) (first_in (f y) (map f xs))
mapped_in f (y ∷ xs) x (suc i, below, e) = rest_in (f y) (f x) (map f xs) (mapped_in f xs x (i, omega arith, e))

-- ---- clauses

pub true_first : {relations : List Relation} {c : Rankings} {answers : ℕ → Type 0} {s : Signed} {rest : List Signed}
    → IsSound relations s
    → HoldsIn relations c answers s → HasTrue relations c answers (s ∷ rest)
true_first {relations} {c} {answers} {s} {rest} sound holds = record {
  member = s;
  is_in = first_in s rest;
  sound =
      sound;
  holds = holds;
}

pub true_later : {relations : List Relation} {c : Rankings} {answers : ℕ → Type 0} {s : Signed} {rest : List Signed}
    → HasTrue relations c answers rest
    → HasTrue relations c answers (s ∷ rest)
true_later {relations} {c} {answers} {s} {rest} t =
    record { member = t.member; is_in = rest_in s t.member rest t.is_in; sound = t.sound; holds = t.holds }

pub true_mapped : {A : Type 0} (relations : List Relation) (c : Rankings) (answers : ℕ → Type 0) (f : A → Signed)
    (xs : List A) (x : A) → Contains xs x
    → IsSound relations (f x) → HoldsIn relations c answers (f x) → HasTrue relations c answers (map f xs)
true_mapped relations c answers f xs x is_in sound holds =
    record { member = f x; is_in = mapped_in f xs x is_in; sound = sound; holds = holds }

pub true_in_front : (relations : List Relation) (c : Rankings) (answers : ℕ → Type 0) (front back : List Signed)
    → HasTrue relations c answers front
    → HasTrue relations c answers (front ++ back)
true_in_front relations c answers front back t =
    record { member = t.member; is_in = Contains-append_left front back t.member t.is_in; sound = t.sound; holds = t.holds }

pub true_behind : (relations : List Relation) (c : Rankings) (answers : ℕ → Type 0) (front back : List Signed)
    → HasTrue relations c answers back
    → HasTrue relations c answers (front ++ back)
true_behind relations c answers front back t =
    record { member = t.member; is_in = Contains-append_right front back t.member t.is_in; sound = t.sound; holds = t.holds }

-- ---- conditions

pub given_if : {A : Type 0} (b : Bool) (x : Option A) (y : A) → cond b x None ≡ Some y → (b ≡ true) × (x ≡ Some y)
given_if true x y e = (refl, e)
given_if false x y e = absurd (none-some y e)

pub some_if : {A : Type 0} (b : Bool) (x y : A) → cond b (Some x) None ≡ Some y → (b ≡ true) × (x ≡ y)
some_if b x y e = let parts = given_if b (Some x) y e in (parts.0, same_Some x y parts.1)

pub in_relation_is : (relations : List Relation) (rel : RelId) (clause : Relation → Option (List Signed)) (x : List Signed)
    → in_relation relations rel clause ≡ Some x
    → (r : Relation) × (slice_get relations rel.0 ≡ Some r) × (clause r ≡ Some x)
in_relation_is relations rel clause x e = by (slice_get relations rel.0) refl e
  where
    by : (o : Option Relation) → slice_get relations rel.0 ≡ o → in_relation relations rel clause ≡ Some x
        → (r : Relation) × (slice_get relations rel.0 ≡ Some r) × (clause r ≡ Some x)
    by None at e = let none : None ≡ Some x = rw at at e in absurd (none-some x none)
    by (Some r) at e = let here : clause r ≡ Some x = rw at at e in (r, at, here)

pub attr_in : (r : Relation) (attr : AttrId) → is_attr r attr ≡ true → attr.0 < length r.attrs
attr_in r attr e = ltb-true attr.0 (length r.attrs) e

pub relation_facts : (relations : List Relation) (rel : ℕ) (r : Relation) → AreRelations relations
    → slice_get relations rel ≡ Some r → IsRelation r
relation_facts relations rel r are at = all_at IsRelation relations rel r are.each at

-- the rows of a relation that is there
pub rows_are : (relations : List Relation) (rel : ℕ) (r : Relation) → slice_get relations rel ≡ Some r
    → rows_in (slice_get relations rel) ≡ r.rows
rows_are relations rel r at = ap rows_in at

pub differ_if : (a b : ℕ) → not (a == b) ≡ true → a ≡ b → ⊥
differ_if a b e same = false≢true (sym (ap not (eq-eqb a b same)) ∙ e)

pub differ_not : (a b : ℕ) → (a ≡ b → ⊥) → not (a == b) ≡ true
differ_not a b differ = by (a == b) refl
  where
    by : (t : Bool) → (a == b) ≡ t → not t ≡ true
    by true e = absurd (differ (eqb-true a b e))
    by false e = refl

-- two different rows of one entity, of which the tests say so
pub two_are : (relations : List Relation) (rel : ℕ) (r : Relation) (attr : ℕ) (a b : RowId) → AreRelations relations
    → slice_get relations rel ≡ Some r
    → attr < length r.attrs → are_two r.rows a b ≡ true → AreTwo relations rel attr a b
two_are relations rel r attr a b are at inside e =
    let parts = and_parts (same_entity r.rows a b) (not (a.0 == b.0)) e in
    let one = one_is (entity_of r.rows a.0) (entity_of r.rows b.0) parts.0 in
    record {
      relation = r;
      is_relation = at;
      attr_in = inside;
      ent = one.0;
      ent_in = entity_in r.rows (length r.entities) a.0 one.0 (relation_facts relations rel r are at).entities one.1;
      first_of = one.1;
      second_of = one.2;
      differ = differ_if a.0 b.0 parts.1;
    }
