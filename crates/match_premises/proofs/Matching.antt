-- Where what an atom claims of an entity holds in a completion, the entity's current tuple is one that the atom's terms fit.
use Rattle.std.proofs.Common.{◌≡◌, ◌∙◌, ◌<◌, ◌==◌, ◌&&◌, ℕ, zero, suc, Bool, true, false, if◌then◌else◌, cond, List, [], ◌∷◌, All, Option, Some, None, option_map, length, slice_get, slice_index_or, ⊎_elim, refl, sym, ap, subst, arith}
use Rattle.std.specs.List.{find}
use Rattle.std.specs.Ordering.{nat_cmp, int_cmp}
use Rattle.std.specs.Cmp.Lexicographic.{slice_cmp}
use Rattle.std.specs.declared.cmp.Ordering.{Ordering}
use Rattle.std.specs.declared.cmp.Ordering.TheVariants.{Less, Equal, Greater}
use Rattle.std.proofs.lemmas.Bool.{false≢true}
use Rattle.std.proofs.lemmas.Bool.Decides.{eqb_tells}
use Rattle.std.proofs.lemmas.Map.Lookups.{exact_signed, exact_bytes}
use Rattle.std.proofs.lemmas.Option.{same_Some, none-some, slice_get_within}
use Rattle.currency_base.specs.Values.{holds_at, value_test}
use Rattle.currency_base.specs.declared.ids.AttrId.{AttrId}
use Rattle.currency_base.specs.declared.ids.EntId.{EntId}
use Rattle.currency_base.specs.declared.ids.RelId.{RelId}
use Rattle.currency_base.specs.declared.ids.RowId.{RowId}
use Rattle.currency_base.specs.declared.value.Cmp.TheVariants.{Eq}
use Rattle.currency_base.specs.declared.value.Value.{Value}
use Rattle.currency_base.specs.declared.value.Value.TheVariants.{Int, Text}
use Rattle.denial_rules.specs.Instances.{field_value}
use Rattle.entity_rows.specs.Members.{members}
use Rattle.query_model.specs.Answers.{AtomMatches, Fits, FitsTuple, is_compared}
use Rattle.query_model.specs.declared.query.Term.{Term}
use Rattle.query_model.specs.declared.query.Term.TheVariants as term
use Rattle.spec_model.specs.Completion.{Rankings}
use Rattle.spec_model.specs.Current.{AreCurrentTuples, IsCurrentTuple, current_value}
use Rattle.spec_model.specs.declared.relation.Relation.{Relation}
use Rattle.match_premises.specs.Borne.{HoldsOf, PremisesMakeMatches}
use Rattle.match_premises.specs.Premises.{claim_of, claims_from, entity_premises, fits, fits_name, has_value, place_claim}
use Rattle.match_premises.specs.declared.premise.Premise.{Premise}
use Rattle.match_premises.proofs.Folds.{IsClaimed, all_claimed}

-- ---- values

are_equal : (order : Ordering) → holds_at Eq order ≡ true → order ≡ Equal
are_equal Less e = absurd (false≢true e)
are_equal Equal e = refl
are_equal Greater e = absurd (false≢true e)

one_value : (a b : Value) → value_test Eq a b ≡ true → a ≡ b
one_value (Int a) (Int b) e = ap Int (exact_signed a b (are_equal (int_cmp a b) e))
one_value (Int a) (Text b) e = absurd (false≢true e)
one_value (Text a) (Int b) e = absurd (false≢true e)
one_value (Text a) (Text b) e = ap Text (exact_bytes a b (are_equal (slice_cmp nat_cmp a b) e))

-- two values that are there, and compared to be equal, are one
compared : (o : Option Value) (v : Value) → is_compared o Eq (Some v) ≡ true → o ≡ Some v
compared None v e = absurd (false≢true e)
compared (Some a) v e = ap Some (one_value a v e)

fits_is : (values : List Value) (t : Term) (x : Value) → fits values t x ≡ true → Fits values t x
fits_is values (term.Var v) x e = compared (slice_get values v) x e
fits_is values term.Any x e = tt
fits_is values (term.Constant c) x e = one_value c x e

-- ---- lists

found_passes : {A : Type 0} (p : A → Bool) (xs : List A) (x : A) → find p xs ≡ Some x → p x ≡ true
found_passes p [] x e = absurd (none-some x e)
found_passes p (y ∷ ys) x e = go (p y) refl e (found_passes p ys x)
  where
    go : (b : Bool) → p y ≡ b → cond b (Some y) (find p ys) ≡ Some x → (find p ys ≡ Some x → p x ≡ true) → p x ≡ true
    go true passes e on = ap p (sym (same_Some y x e)) ∙ passes
    go false fails e on = on e

item_at : {A : Type 0} (xs : List A) (i : ℕ) → i < length xs → (x : A) × (slice_get xs i ≡ Some x)
item_at [] i below = absurd (omega (arith, below))
item_at (x ∷ xs) zero below = (x, refl)
item_at (x ∷ xs) (suc i) below = item_at xs i (omega (arith, below))

both_true : (a b : Bool) → (a && b) ≡ true → (a ≡ true) × (b ≡ true)
both_true true b e = (refl, e)
both_true false b e = absurd (false≢true e)

one_number : (a b : ℕ) → (a == b) ≡ true → a ≡ b
one_number a b e = ⊎_elim (λ p. p.1) (λ p. absurd (false≢true (sym p.0 ∙ e))) (eqb_tells a b)

-- ---- one place

module _ (c : Rankings) (rel : RelId) (r : Relation) (ent : EntId) (values : List Value) (attr : AttrId) (x : Value)
    (now : current_value c rel.0 r.rows attr.0 ent.0 ≡ Some x) where
  -- a claimed value is the current one
  claimed_is : (v : Value) → IsClaimed (HoldsOf c r ent) (claim_of rel r.rows (members r.rows ent.0) attr (Some v)) → v ≡ x
  claimed_is v claimed = go (find (has_value r.rows attr v) (members r.rows ent.0)) refl claimed
    where
      go : (o : Option RowId) → find (has_value r.rows attr v) (members r.rows ent.0) ≡ o
          → IsClaimed (HoldsOf c r ent) (option_map (λ (row : RowId). let p : Premise =
          record { rel = rel; attr = attr; row = row } in Some p) o) → v ≡ x
      go None is claimed = absurd claimed
      go (Some row) is claimed =
          let there : field_value r.rows (Some row) attr.0 ≡ Some v =
          compared (field_value r.rows (Some row) attr.0) v
          (found_passes (has_value r.rows attr v) (members r.rows ent.0) row is) in
          same_Some v x (sym there ∙ sym claimed ∙ now)

  of_variable : (o : Option Value) → IsClaimed (HoldsOf c r ent) (claim_of rel r.rows (members r.rows ent.0) attr o) → o ≡ Some x
  of_variable None claimed = absurd claimed
  of_variable (Some v) claimed = ap Some (claimed_is v claimed)

  place_fits : (t : Term) → IsClaimed (HoldsOf c r ent) (place_claim rel r.rows (members r.rows ent.0) values attr t)
      → Fits values t x
  place_fits (term.Var v) claimed = of_variable (slice_get values v) claimed
  place_fits term.Any claimed = tt
  place_fits (term.Constant k) claimed = claimed_is k claimed

-- ---- an atom

record IsOfEntity (atom_rel : RelId) (values : List Value) (first : Term) (more : List Term) (r : Relation)
    (ent : EntId) (ps : List Premise) : Type 0 where
  as_many : length more ≡ length r.attrs
  name : List ℕ
  is_name : slice_get r.entities ent.0 ≡ Some name
  fits_it : fits values first (Text name) ≡ true
  claims : claims_from atom_rel r.rows (members r.rows ent.0) values (Some []) 0 more ≡ Some ps

of_entity : (rel : RelId) (values : List Value) (first : Term) (more : List Term) (r : Relation) (ent : EntId) (ps : List Premise)
    → entity_premises rel values (first ∷ more) r ent ≡ Some ps → IsOfEntity rel values first more r ent ps
of_entity rel values first more r ent ps e = go (length more == length r.attrs) refl (slice_get r.entities ent.0) refl e
  where
    with_name : (length more == length r.attrs) ≡ true → (name : List ℕ) → slice_get r.entities ent.0 ≡ Some name → (b : Bool)
        → fits values first (Text name) ≡ b
        → (if b then claims_from rel r.rows (members r.rows ent.0) values (Some []) 0 more else None) ≡ Some ps
        → IsOfEntity rel values first more r ent ps
    with_name many name at true fit e = record {
      as_many = one_number (length more) (length r.attrs) many;
      name =
          name;
      is_name = at;
      fits_it = fit;
      claims = e;
    }
    with_name many name at false fit e = absurd (none-some ps e)

    go : (b : Bool) → (length more == length r.attrs) ≡ b → (o : Option (List ℕ)) → slice_get r.entities ent.0 ≡ o
        → (if b && fits_name values first o then claims_from rel r.rows (members r.rows ent.0) values (Some []) 0
        more else None) ≡ Some ps
        → IsOfEntity rel values first more r ent ps
    go false many o at e = absurd (none-some ps e)
    go true many None at e = absurd (none-some ps e)
    go true many (Some name) at e = with_name many name at (fits values first (Text name)) refl e

tuple_fits : (c : Rankings) (rel : RelId) (r : Relation) (ent : EntId) (values : List Value) (first : Term)
    (more : List Term) (ps : List Premise) (tuple : List Value)
    → IsOfEntity rel values first more r ent ps → All (HoldsOf c r ent) ps → IsCurrentTuple c rel.0 r ent.0 tuple
    → FitsTuple values (first ∷ more) tuple
tuple_fits c rel r ent values first more ps tuple of all is =
    subst (FitsTuple values (first ∷ more)) (sym is.tuple_is) (record {
      as_many = let a = of.as_many in let b = is.per_attr in omega (arith, a, b);
      each = each;
    })
  where
    same_name : is.name ≡ of.name
    same_name = same_Some is.name of.name (sym is.is_name ∙ of.is_name)

    each : (k : ℕ) (t : Term) (x : Value) → slice_get (first ∷ more) k ≡ Some t
        → slice_get (Text is.name ∷ is.values) k ≡ Some x → Fits values t x
    each zero t x at at_x =
        let value : Text of.name ≡ x = ap Text (sym same_name) ∙ same_Some (Text is.name) x at_x in
        subst (λ (u : Term). Fits values u x) (same_Some first t at)
        (subst (Fits values first) value (fits_is values first (Text of.name) of.fits_it))
    each (suc k) t x at at_x =
        let below = slice_get_within is.values k x at_x in
        let within : k < length r.attrs = let b = is.per_attr in omega (arith, below, b) in
        place_fits c rel r ent values (record { 0 = k }) x (sym (is.current k within) ∙ at_x) t
        (all_claimed rel r.rows (members r.rows ent.0) values (HoldsOf c r ent) ps all more of.claims k t at)

pub premises_make_matches : PremisesMakeMatches
premises_make_matches relations c instance inst atom r ent values ps at e all = go atom.terms refl e
  where
    go : (terms : List Term) → atom.terms ≡ terms → entity_premises atom.relation values terms r ent ≡ Some ps
        → AtomMatches instance values atom ent.0
    go [] is e = absurd (none-some ps e)
    go (first ∷ more) is e =
        let of = of_entity atom.relation values first more r ent ps e in
        let tuples : AreCurrentTuples c atom.relation.0 r (slice_index_or instance atom.relation.0 []) =
        inst.each atom.relation.0 r at in
        let below : ent.0 < length (slice_index_or instance atom.relation.0 []) =
        let a = slice_get_within r.entities ent.0 of.name of.is_name in let b = tuples.per_entity in omega (arith, a, b) in
        let tuple = item_at (slice_index_or instance atom.relation.0 []) ent.0 below in
        record {
          tuple = tuple.0;
          is_tuple = tuple.1;
          fits = subst (λ (terms : List Term). FitsTuple values terms tuple.0) (sym is)
              (tuple_fits c atom.relation r ent values first more ps tuple.0 of all (tuples.each ent.0 tuple.0 tuple.1));
        }
