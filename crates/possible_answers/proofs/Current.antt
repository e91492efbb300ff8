-- What a match over the current instance of a completion claims is current, and a match whose claims are current makes its tuple
-- an answer.
use Rattle.std.proofs.Common.{◌≡◌, ◌∙◌, ◌==◌, ◌&&◌, ◌+◌, ◌<◌, ℕ, suc, Bool, true, false, cond, if◌then◌else◌, List, [], ◌∷◌, ◌++◌}
use Rattle.std.proofs.Common.{All, Option, Some, None, ap, arith, append_assoc, length, option_and_then, option_map, refl}
use Rattle.std.proofs.Common.{slice_get, subst, sym}
use Rattle.std.proofs.lemmas.Bool.{and_from, eq-eqb}
use Rattle.std.proofs.lemmas.List.{append-nil}
use Rattle.std.proofs.lemmas.List.Elements.{All-append, All-cons, All-head, All-nil, All-tail}
use Rattle.std.proofs.lemmas.Option.{none-some, same_Some, slice_get_within}
use Rattle.currency_base.specs.declared.ids.AttrId.{AttrId}
use Rattle.currency_base.specs.declared.ids.EntId.{EntId}
use Rattle.currency_base.specs.declared.ids.RelId.{RelId}
use Rattle.currency_base.specs.declared.ids.RowId.{RowId}
use Rattle.currency_base.specs.declared.row.Row.{Row}
use Rattle.currency_base.specs.declared.value.Value.{Value}
use Rattle.currency_base.specs.declared.value.Value.TheVariants.{Text}
use Rattle.denial_rules.specs.Instances.{field_value, value_in}
use Rattle.entity_rows.specs.Members.{members}
use Rattle.log_axioms.specs.Matches.{atom_claims, both_claims, match_claims}
use Rattle.log_axioms.specs.Truth.{IsLast, rows_in}
use Rattle.current_tuples.specs.Places.{IsPlaceOf}
use Rattle.current_tuples.proofs.Readable.{last_of_entity}
use Rattle.entity_rows.proofs.Membership.{entity_member, member_of_entity}
use Rattle.match_premises.specs.Premises.{claim_of, claims_from, entity_premises, fits_name, has_value, place_claim, with_claim}
use Rattle.match_premises.specs.declared.premise.Premise.{Premise}
use Rattle.partial_orders.specs.Pairs.{entity_of}
use Rattle.posed_facts.specs.Facts.{IsCurrent}
use Rattle.query_model.specs.Answers.{Fits, FitsTuple}
use Rattle.query_model.specs.declared.query.Atom.{Atom}
use Rattle.query_model.specs.declared.query.Term.{Term}
use Rattle.query_model.specs.declared.query.Term.TheVariants as term
use Rattle.spec_model.specs.Completion.{IsCompletion, Rankings, ranking_of}
use Rattle.spec_model.specs.Current.{IsCurrentTuple, current_value, last_row}
use Rattle.spec_model.specs.Facts.{AreRelations}
use Rattle.spec_model.specs.declared.relation.Relation.{Relation}
use Rattle.possible_answers.proofs.Fitting.{equal_passes, fits_passes, found_one, passed_equal}

-- ---- one claim

-- a row that has a value
record HasValue (rows : List Row) (row : RowId) (attr : ℕ) (x : Value) : Type 0 where
  one : Row
  is_row : slice_get rows row.0 ≡ Some one
  is_value : slice_get one.values attr ≡ Some x

has_one : (rows : List Row) (row : RowId) (attr : ℕ) (x : Value) → field_value rows (Some row) attr ≡ Some x
    → HasValue rows row attr x
has_one rows row attr x has = by (slice_get rows row.0) refl has
  where
    by : (o : Option Row) → slice_get rows row.0 ≡ o → value_in o attr ≡ Some x → HasValue rows row attr x
    by None is e = absurd (none-some x e)
    by (Some one) is e = record { one = one; is_row = is; is_value = e }

-- the row that stands last has the current value
record IsLastRow (c : Rankings) (rel : RelId) (r : Relation) (attr : AttrId) (ent : EntId) (x : Value) : Type 0 where
  row : RowId
  is_last : last_row (ranking_of c rel.0 attr.0 ent.0) ≡ Some row
  has : field_value r.rows (Some row) attr.0 ≡ Some x

last_has : (c : Rankings) (rel : RelId) (r : Relation) (attr : AttrId) (ent : EntId) (x : Value)
    → current_value c rel.0 r.rows attr.0 ent.0 ≡ Some x → IsLastRow c rel r attr ent x
last_has c rel r attr ent x now = go (last_row (ranking_of c rel.0 attr.0 ent.0)) refl now
  where
    go : (o : Option RowId) → last_row (ranking_of c rel.0 attr.0 ent.0) ≡ o → field_value r.rows o attr.0 ≡ Some x
        → IsLastRow c rel r attr ent x
    go None is e = absurd (none-some x e)
    go (Some row) is e = record { row = row; is_last = is; has = e }

-- a row of an entity stands for it
stands_for : (rows : List Row) (row : RowId) (ent : ℕ) (one : Row) → entity_of rows row.0 ≡ Some ent
    → slice_get rows row.0 ≡ Some one → ent ≡ one.entity.0
stands_for rows row ent one of is = by (slice_get rows row.0) refl is
  where
    by : (o : Option Row) → slice_get rows row.0 ≡ o → o ≡ Some one → ent ≡ one.entity.0
    by None at e = absurd (none-some one e)
    by (Some other) at e =
        let here : Some other.entity.0 ≡ Some ent = rw at at of in
        let same : other ≡ one = same_Some other one e in
        same_Some ent one.entity.0 (sym here ∙ ap (λ (r : Row). Some r.entity.0) same)

module _ (relations : List Relation) (c : Rankings) where
  -- a row's value is the current one of its entity
  current_claim : (p : Premise) (r : Relation) (ent : ℕ) (x : Value) → slice_get relations p.rel.0 ≡ Some r
      → entity_of r.rows p.row.0 ≡ Some ent → field_value r.rows (Some p.row) p.attr.0 ≡ Some x
      → current_value c p.rel.0 r.rows p.attr.0 ent ≡ Some x → IsCurrent relations p c
  current_claim p r ent x at of has now =
      let one = has_one r.rows p.row p.attr.0 x has in
      record {
        relation = r;
        is_relation = at;
        row = one.one;
        is_row = one.is_row;
        value = x;
        is_value = one.is_value;
        current = subst (λ (n : ℕ). current_value c p.rel.0 r.rows p.attr.0 n ≡ Some x)
            (stands_for r.rows p.row ent one.one of one.is_row) now;
      }

  -- and the other way round
  is_last : (p : Premise) → IsCurrent relations p c → IsLast c p.rel.0 p.attr.0 (rows_in (slice_get relations p.rel.0)) p.row
  is_last p h =
      subst (λ (rows : List Row). IsLast c p.rel.0 p.attr.0 rows p.row) (sym (ap rows_in h.is_relation)) (record {
        ent = h.row.entity.0;
        of_entity = entity h.is_row;
        value = h.value;
        of_row = ap (λ (o : Option Row). value_in o p.attr.0) h.is_row ∙ h.is_value;
        current = h.current;
      })
    where
      entity : slice_get h.relation.rows p.row.0 ≡ Some h.row → entity_of h.relation.rows p.row.0 ≡ Some h.row.entity.0
      entity is = rw is refl

  pub all_last : (premises : List Premise) → All (λ p. IsCurrent relations p c) premises
      → All (λ p. IsLast c p.rel.0 p.attr.0 (rows_in (slice_get relations p.rel.0)) p.row) premises
  all_last [] all = All-nil (λ (p : Premise). IsLast c p.rel.0 p.attr.0 (rows_in (slice_get relations p.rel.0)) p.row)
  all_last (p ∷ premises) all =
      All-cons (λ (q : Premise). IsLast c q.rel.0 q.attr.0 (rows_in (slice_get relations q.rel.0)) q.row) p premises
      (is_last p (All-head (λ (q : Premise). IsCurrent relations q c) p premises all))
      (all_last premises (All-tail (λ (q : Premise). IsCurrent relations q c) p premises all))

-- ---- all claims

-- an atom fits the current tuple of an entity
pub record IsOfCurrent (relations : List Relation) (c : Rankings) (values : List Value) (atom : Atom) (ent : EntId) : Type 0 where
  pub relation : Relation
  pub is_relation : slice_get relations atom.relation.0 ≡ Some relation
  pub tuple : List Value
  pub is_current : IsCurrentTuple c atom.relation.0 relation ent.0 tuple
  pub fits : FitsTuple values atom.terms tuple

-- claims that are current, after those so far
pub record AreCurrentClaims (relations : List Relation) (c : Rankings) (claims : Option (List Premise))
    (so_far : List Premise) : Type 0 where
  pub premises : List Premise
  pub is : claims ≡ Some (so_far ++ premises)
  pub current : All (λ p. IsCurrent relations p c) premises

module _ (relations : List Relation) (c : Rankings) (are : AreRelations relations) (completion : IsCompletion relations c) where
  module _ (rel : RelId) (r : Relation) (at : slice_get relations rel.0 ≡ Some r) (ent : EntId)
      (ent_in : ent.0 < length r.entities) (values : List Value) where
    -- the claim of a place at which the current value is asked for
    record IsCurrentClaim (attr : AttrId) (x : Value) : Type 0 where
      premise : Premise
      is_claim : claim_of rel r.rows (members r.rows ent.0) attr (Some x) ≡ Some (Some premise)
      current : IsCurrent relations premise c

    place_claimed : (attr : AttrId) (x : Value) → attr.0 < length r.attrs
        → current_value c rel.0 r.rows attr.0 ent.0 ≡ Some x → IsCurrentClaim attr x
    place_claimed attr x attr_in now =
        let last = last_has c rel r attr ent x now in
        let place : IsPlaceOf relations rel.0 attr.0 ent.0 = record {
          relation = r;
          is_relation = at;
          attr_within = attr_in;
          ent_within = ent_in;
        } in
        let row_of = last_of_entity relations c rel.0 attr.0 ent.0 completion place last.row last.is_last r at in
        let there = entity_member r.rows ent.0 last.row row_of in
        let found = found_one (has_value r.rows attr x) (members r.rows ent.0) there.0 last.row there.1
        (equal_passes (field_value r.rows (Some last.row) attr.0) x last.has) in
        let p : Premise = record { rel = rel; attr = attr; row = found.found } in
        let of = member_of_entity r.rows ent.0 found.place found.found found.is_there in
        record {
          premise = p;
          is_claim = ap (option_map (λ (row : RowId). let q : Premise = record { rel = rel; attr = attr; row = row } in Some
              q)) found.is_found;
          current = current_claim relations c p r ent.0 x at of
              (passed_equal (field_value r.rows (Some found.found) attr.0) x found.passes) now;
        }

    -- the claim of a term that asks for a value
    place_is : (attr : AttrId) (o : Option Value) (x : Value) → o ≡ Some x
        → claim_of rel r.rows (members r.rows ent.0) attr o ≡ claim_of rel r.rows (members r.rows ent.0) attr (Some x)
    place_is attr o x e = ap (claim_of rel r.rows (members r.rows ent.0) attr) e

    abbrev claims_of : List Premise → ℕ → List Term → Option (List Premise)
    claims_of so_far attr terms = claims_from rel r.rows (members r.rows ent.0) values (Some so_far) attr terms

    abbrev Rest : List Premise → ℕ → List Term → Type 0
    Rest so_far attr terms = AreCurrentClaims relations c (claims_of so_far attr terms) so_far

    -- a term that asks for a value, before others
    asked : (so_far : List Premise) (attr : ℕ) (t : Term) (terms : List Term) (x : Value) → attr < length r.attrs
        → current_value c rel.0 r.rows attr ent.0 ≡ Some x
        → place_claim rel r.rows (members r.rows ent.0) values (record { 0 = attr }) t
        ≡ claim_of rel r.rows (members r.rows ent.0) (record { 0 = attr }) (Some x)
        → ((p : Premise) → Rest (so_far ++ p ∷ []) (attr + 1) terms) → Rest so_far attr (t ∷ terms)
    asked so_far attr t terms x attr_in now claim later =
        let here = place_claimed (record { 0 = attr }) x attr_in now in
        let rest = later here.premise in
        record {
          premises = here.premise ∷ rest.premises;
          is = ap (λ o. claims_from rel r.rows (members r.rows ent.0) values (with_claim (Some so_far) o) (attr + 1)
              terms) (claim ∙ here.is_claim)
              ∙ rest.is ∙ ap Some (append_assoc so_far (here.premise ∷ []) rest.premises);
          current = All-cons (λ (p : Premise). IsCurrent relations p c) here.premise rest.premises here.current rest.current;
        }

    terms_claimed : (so_far : List Premise) (attr : ℕ) (terms : List Term) (current : List Value) → length terms ≡ length current
        → ((k : ℕ) (t : Term) (x : Value) → slice_get terms k ≡ Some t → slice_get current k ≡ Some x → Fits values t x)
        → ((k : ℕ) (x : Value) → slice_get current k ≡ Some x → (attr + k < length r.attrs) ×
        (current_value c rel.0 r.rows (attr + k) ent.0 ≡ Some x))
        → Rest so_far attr terms
    terms_claimed so_far attr [] current many fit now =
        record {
          premises = [];
          is = ap Some (sym (append-nil so_far));
          current = All-nil (λ (p : Premise). IsCurrent relations p c);
        }
    terms_claimed so_far attr (t ∷ terms) [] many fit now = absurd (omega (arith, many))
    terms_claimed so_far attr (t ∷ terms) (x ∷ current) many fit now =
        go t (fit 0 t x refl refl)
        (λ front. terms_claimed front (attr + 1) terms current (omega (arith, many))
        (λ k u y at_u at_y. fit (suc k) u y at_u at_y)
        (λ k y at_y. subst (λ n. (n < length r.attrs) × (current_value c rel.0 r.rows n ent.0 ≡ Some y)) (next k)
        (now (suc k) y at_y)))
      where
        next : (k : ℕ) → attr + suc k ≡ attr + 1 + k
        next k = omega arith

        none : attr + 0 ≡ attr
        none = omega arith

        first : (attr < length r.attrs) × (current_value c rel.0 r.rows attr ent.0 ≡ Some x)
        first = subst (λ n. (n < length r.attrs) × (current_value c rel.0 r.rows n ent.0 ≡ Some x)) none (now 0 x refl)

        go : (u : Term) → Fits values u x → ((front : List Premise) → Rest front (attr + 1) terms) → Rest so_far attr (u ∷ terms)
        go (term.Var v) fits_it later =
            asked so_far attr (term.Var v) terms x first.0 first.1 (place_is (record { 0 = attr }) (slice_get values v) x fits_it)
            (λ p. later (so_far ++ p ∷ []))
        go term.Any fits_it later = later so_far
        go (term.Constant k) fits_it later =
            asked so_far attr (term.Constant k) terms x first.0 first.1
            (place_is (record { 0 = attr }) (Some k) x (ap Some fits_it))
            (λ p. later (so_far ++ p ∷ []))

    -- the entity's current tuple, which the terms fit, has the claims
    tuple_claimed : (terms : List Term) (tuple : List Value) → IsCurrentTuple c rel.0 r ent.0 tuple
        → FitsTuple values terms tuple → AreCurrentClaims relations c (entity_premises rel values terms r ent) []
    tuple_claimed [] tuple is fit =
        let a = fit.as_many in
        let b = ap (λ (xs : List Value). length xs) is.tuple_is in
        absurd (omega (arith, a, b))
    tuple_claimed (first ∷ more) tuple is fit =
        let shape : FitsTuple values (first ∷ more) (Text is.name ∷ is.values) =
        subst (FitsTuple values (first ∷ more)) is.tuple_is fit in
        let long : length more ≡ length is.values = let a = shape.as_many in omega (arith, a) in
        let rest =
        terms_claimed [] 0 more is.values long (λ k t x at_t at_x. shape.each (suc k) t x at_t at_x)
        (λ k x at_x.
        let below : k < length r.attrs = let a = slice_get_within is.values k x at_x in let b = is.per_attr in omega
        (arith, a, b) in
        let same : k ≡ 0 + k = omega arith in
        subst (λ n. (n < length r.attrs) × (current_value c rel.0 r.rows n ent.0 ≡ Some x)) same
        (below, sym (is.current k below) ∙ at_x)) in
        let many : length more ≡ length r.attrs = let b = is.per_attr in omega (arith, long, b) in
        let named : fits_name values first (slice_get r.entities ent.0) ≡ true =
        ap (fits_name values first) is.is_name ∙ fits_passes values first (Text is.name)
        (shape.each 0 first (Text is.name) refl refl) in
        let passes : ((length more == length r.attrs) && fits_name values first (slice_get r.entities ent.0)) ≡ true =
        and_from (length more == length r.attrs) (fits_name values first (slice_get r.entities ent.0))
        (eq-eqb (length more) (length r.attrs) many) named in
        record {
          premises = rest.premises;
          is = ap (λ (b : Bool). if b then claims_from rel r.rows (members r.rows ent.0) values (Some []) 0 more else
              None) passes ∙ rest.is;
          current = rest.current;
        }

  atom_claimed : (values : List Value) (atom : Atom) (ent : EntId) → IsOfCurrent relations c values atom ent
      → AreCurrentClaims relations c (atom_claims relations values atom ent) []
  atom_claimed values atom ent of =
      let its =
      tuple_claimed atom.relation of.relation of.is_relation ent
      (slice_get_within of.relation.entities ent.0 of.is_current.name of.is_current.is_name) values
      atom.terms of.tuple of.is_current of.fits in
      record {
        premises = its.premises;
        is = ap (option_and_then (λ (r : Relation). entity_premises atom.relation values atom.terms r ent))
            of.is_relation ∙ its.is;
        current = its.current;
      }

  -- atoms that fit current tuples, each of an entity, have claims, which are current
  pub atoms_current : (values : List Value) (atoms : List Atom) (entities : List EntId) → length entities ≡ length atoms
      → ((k : ℕ) (atom : Atom) (ent : EntId) → slice_get atoms k ≡ Some atom → slice_get entities k ≡ Some ent
      → IsOfCurrent relations c values atom ent)
      → AreCurrentClaims relations c (match_claims relations values atoms entities) []
  atoms_current values [] [] many each =
      record { premises = []; is = refl; current = All-nil (λ (p : Premise). IsCurrent relations p c) }
  atoms_current values [] (ent ∷ entities) many each = absurd (omega (arith, many))
  atoms_current values (atom ∷ atoms) [] many each = absurd (omega (arith, many))
  atoms_current values (atom ∷ atoms) (ent ∷ entities) many each =
      let here = atom_claimed values atom ent (each 0 atom ent refl refl) in
      let rest = atoms_current values atoms entities (omega (arith, many)) (λ k a e at_a at_e. each (suc k) a e at_a at_e) in
      record {
        premises = here.premises ++ rest.premises;
        is = ap (λ o. both_claims o (match_claims relations values atoms entities)) here.is
            ∙ ap (both_claims (Some here.premises)) rest.is;
        current = All-append (λ (p : Premise). IsCurrent relations p c) here.premises rest.premises here.current rest.current;
      }
