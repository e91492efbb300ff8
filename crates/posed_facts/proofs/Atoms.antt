-- A claim's atom holds exactly where its term fits the current value.
use Rattle.std.proofs.Common.{◌≡◌, ◌∙◌, ℕ, zero, suc, List, [], ◌∷◌, Some, length, slice_get, slice_index_or, refl, sym, ap, ap₂, subst, arith}
use Rattle.std.proofs.lemmas.Option.{same_Some, slice_get_within}
use Rattle.currency_base.specs.declared.value.Value.{Value}
use Rattle.currency_base.specs.declared.value.Value.TheVariants.{Int, Text}
use Rattle.match_premises.specs.declared.premise.Premise.{Premise}
use Rattle.query_model.specs.Answers.{AtomHolds, Fits, FitsTuple}
use Rattle.query_model.specs.declared.query.Term.{Term}
use Rattle.query_model.specs.declared.query.Term.TheVariants as term
use Rattle.spec_model.specs.Completion.{Rankings}
use Rattle.spec_model.specs.Current.{IsCurrentInstance, IsCurrentTuple}
use Rattle.spec_model.specs.declared.relation.Relation.{Relation}
use Rattle.posed_facts.specs.Questions.{claim_atom, claim_attrs, claim_name, name_term, term_places}
use Rattle.posed_facts.proofs.Lists.{is_in, item_at, stands_at}
use Rattle.posed_facts.proofs.Places.{each_place, own_place, places_length}
use Rattle.posed_facts.proofs.Reading.{IsRead, current_of}

-- the atom's terms, as they are where all can be read
abbrev pub read_terms : (relations : List Relation) (p : Premise) → IsRead relations p → Term → List Term
read_terms relations p read t = term.Constant (Text read.name) ∷ term_places (length read.relation.attrs) p.attr.0 t

-- they are those of the atom
pub terms_are : (relations : List Relation) (p : Premise) → (read : IsRead relations p) → (t : Term)
    → name_term (claim_name relations p) ∷ term_places (claim_attrs relations p) p.attr.0 t ≡ read_terms relations p read t
terms_are relations p read t =
    ap₂ (λ name attrs. name_term name ∷ term_places attrs p.attr.0 t) read.reads_name read.reads_attrs

-- a current value which a term fits
pub record HasFitting (relations : List Relation) (p : Premise) (read : IsRead relations p) (c : Rankings) (values : List Value)
    (t : Term)
    : Type 0 where
  pub value : Value
  pub current : current_of relations p read c value
  pub fits : Fits values t value

-- the bytes of a text
abbrev text_of : Value → List ℕ
text_of (Text bytes) = bytes
text_of (Int n) = []

-- an entity's current tuple has a current value
pub tuple_value : (relations : List Relation) (p : Premise) → (read : IsRead relations p) → (c : Rankings) (tuple : List Value)
    → (own : IsCurrentTuple c p.rel.0 read.relation read.row.entity.0 tuple)
    → (x : Value) × (slice_get own.values p.attr.0 ≡ Some x) × current_of relations p read c x
tuple_value relations p read c tuple own =
    let x = item_at own.values p.attr.0 (omega (arith, read.below, own.per_attr)) in
    (x.0, x.1, sym (own.current p.attr.0 read.below) ∙ x.1)

-- a tuple that the terms fit is the entity's, with a current value that the term fits
fitting : (relations : List Relation) (p : Premise) → (read : IsRead relations p) → (c : Rankings) (values : List Value)
    (t : Term)
    → (here : ℕ) (tuple : List Value) → IsCurrentTuple c p.rel.0 read.relation here tuple
    → FitsTuple values (read_terms relations p read t) tuple → HasFitting relations p read c values t
fitting relations p read c values t here tuple own fits =
    let named : Text read.name ≡ Text own.name =
    fits.each 0 (term.Constant (Text read.name)) (Text own.name) refl (ap (λ l. slice_get l 0) own.tuple_is) in
    let entity : here ≡ read.row.entity.0 =
    read.fits.entity_names here read.row.entity.0 read.name (own.is_name ∙ ap (λ v. Some (text_of v)) (sym named)) read.is_name in
    let its : IsCurrentTuple c p.rel.0 read.relation read.row.entity.0 tuple =
    subst (λ e. IsCurrentTuple c p.rel.0 read.relation e tuple) entity own in
    let x = tuple_value relations p read c tuple its in
    record {
      value = x.0;
      current = x.2;
      fits = fits.each (suc p.attr.0) t x.0 (own_place (length read.relation.attrs) p.attr.0 t read.below)
          (ap (λ l. slice_get l (suc p.attr.0)) its.tuple_is ∙ x.1);
    }

-- and the other way
fits_tuple : (relations : List Relation) (p : Premise) → (read : IsRead relations p) → (c : Rankings) (values : List Value)
    (t : Term) (tuple : List Value) → IsCurrentTuple c p.rel.0 read.relation read.row.entity.0 tuple
    → HasFitting relations p read c values t → FitsTuple values (read_terms relations p read t) tuple
fits_tuple relations p read c values t tuple own has =
    let n = length read.relation.attrs in
    record {
      as_many = omega (arith, places_length n p.attr.0 t, own.per_attr, ap (λ l. length l) own.tuple_is);
      each = λ k u x at here. each k u x at (ap (λ l. slice_get l k) (sym own.tuple_is) ∙ here);
    }
  where
    each : (k : ℕ) (u : Term) (x : Value) → slice_get (read_terms relations p read t) k ≡ Some u
        → slice_get (Text own.name ∷ own.values) k ≡ Some x → Fits values u x
    each zero u x at here =
        subst (λ v. Fits values v x) (same_Some (term.Constant (Text read.name)) u at)
        (ap Text (same_Some read.name own.name (sym read.is_name ∙ own.is_name)) ∙ same_Some (Text own.name) x here)
    each (suc k) u x at here =
        each_place (length read.relation.attrs) p.attr.0 t
        (λ j v. (y : Value) → slice_get own.values j ≡ Some y → Fits values v y)
        (λ j y is. tt)
        (λ y is.
        subst (Fits values t) (same_Some has.value y (sym has.current ∙ sym (own.current p.attr.0 read.below) ∙ is)) has.fits)
        k u at x here

-- ---- over a current instance

-- the current tuple of the claim's entity
tuple_at : (relations : List Relation) (p : Premise) → (read : IsRead relations p) → (c : Rankings)
    (instance : List (List (List Value))) → IsCurrentInstance relations c instance
    → (tuple : List Value) × (slice_get (slice_index_or instance p.rel.0 []) read.row.entity.0 ≡ Some tuple)
    × IsCurrentTuple c p.rel.0 read.relation read.row.entity.0 tuple
tuple_at relations p read c instance current =
    let tables = current.each p.rel.0 read.relation read.is_relation in
    let tuple = item_at (slice_index_or instance p.rel.0 []) read.row.entity.0
    (omega (arith, slice_get_within read.relation.entities read.row.entity.0 read.name read.is_name, tables.per_entity)) in
    (tuple.0, tuple.1, tables.each read.row.entity.0 tuple.0 tuple.1)

-- there is a current value
pub some_current : (relations : List Relation) (p : Premise) → (read : IsRead relations p) → (c : Rankings)
    (instance : List (List (List Value))) → IsCurrentInstance relations c instance
    → (x : Value) × current_of relations p read c x
some_current relations p read c instance current =
    let tuple = tuple_at relations p read c instance current in
    let x = tuple_value relations p read c tuple.0 tuple.2 in
    (x.0, x.2)

-- where the atom holds its term fits the current value
pub atom_fits : (relations : List Relation) (p : Premise) → (read : IsRead relations p) → (c : Rankings)
    (instance : List (List (List Value))) → IsCurrentInstance relations c instance → (values : List Value) (t : Term)
    → AtomHolds instance values (claim_atom relations p t) → HasFitting relations p read c values t
atom_fits relations p read c instance current values t holds =
    let here = stands_at (slice_index_or instance p.rel.0 []) holds.tuple holds.is_there in
    let own = (current.each p.rel.0 read.relation read.is_relation).each here.0 holds.tuple here.1 in
    fitting relations p read c values t here.0 holds.tuple own
    (subst (λ terms. FitsTuple values terms holds.tuple) (terms_are relations p read t) holds.fits)

-- and the other way
pub fits_atom : (relations : List Relation) (p : Premise) → (read : IsRead relations p) → (c : Rankings)
    (instance : List (List (List Value))) → IsCurrentInstance relations c instance → (values : List Value) (t : Term)
    → HasFitting relations p read c values t → AtomHolds instance values (claim_atom relations p t)
fits_atom relations p read c instance current values t has =
    let tuple = tuple_at relations p read c instance current in
    record {
      tuple = tuple.0;
      is_there = is_in (slice_index_or instance p.rel.0 []) read.row.entity.0 tuple.0 tuple.1;
      fits = subst (λ terms. FitsTuple values terms tuple.0) (sym (terms_are relations p read t))
          (fits_tuple relations p read c values t tuple.0 tuple.2 has);
    }
