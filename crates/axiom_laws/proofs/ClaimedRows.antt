-- What an atom claims is of rows of its entity.
use Rattle.std.proofs.Common.{◌≡◌, ◌==◌, ◌&&◌, ◌+◌, ◌∙◌, ◌++◌, ℕ, Bool, true, false, cond, List, [], ◌∷◌, All, Contains, Option, Some, None, option_map, length, slice_get, refl, sym, subst}
use Rattle.std.specs.List.{find}
use Rattle.std.proofs.lemmas.List.Elements.{All-nil, All-push}
use Rattle.std.proofs.lemmas.Option.{same_Some, none-some}
use Rattle.currency_base.specs.declared.ids.AttrId.{AttrId}
use Rattle.currency_base.specs.declared.ids.EntId.{EntId}
use Rattle.currency_base.specs.declared.ids.RelId.{RelId}
use Rattle.currency_base.specs.declared.ids.RowId.{RowId}
use Rattle.currency_base.specs.declared.row.Row.{Row}
use Rattle.currency_base.specs.declared.value.Value.{Value}
use Rattle.entity_rows.specs.Members.{members}
use Rattle.entity_rows.proofs.Membership.{member_of_entity}
use Rattle.match_premises.specs.Premises.{claim_of, claims_from, entity_premises, fits_name, has_value, place_claim, with_claim}
use Rattle.match_premises.specs.declared.premise.Premise.{Premise}
use Rattle.match_premises.proofs.Folds.{no_claims}
use Rattle.partial_orders.specs.Pairs.{entity_of}
use Rattle.query_model.specs.declared.query.Term.{Term}
use Rattle.query_model.specs.declared.query.Term.TheVariants as term
use Rattle.spec_model.specs.declared.relation.Relation.{Relation}
use Rattle.axiom_laws.proofs.Chosen.{first_in, given_if, rest_in}
use Rattle.axiom_laws.proofs.Standing.{at_contains}

-- a claim is of a row of an entity of a relation
pub record IsOfEntity (rel : RelId) (rows : List Row) (ent : ℕ) (p : Premise) : Type 0 where
  pub of_relation : p.rel ≡ rel
  pub of_entity : entity_of rows p.row.0 ≡ Some ent

found_in : {A : Type 0} (test : A → Bool) (xs : List A) (x : A) → find test xs ≡ Some x → Contains xs x
found_in test [] x e = absurd (none-some x e)
found_in {A} test (y ∷ ys) x e = by (test y) e (found_in test ys x)
  where
    by : (t : Bool) → cond t (Some y) (find test ys) ≡ Some x → (find test ys ≡ Some x → Contains ys x) → Contains (y ∷ ys) x
    by true e on = subst (Contains (y ∷ ys)) (same_Some y x e) (first_in y ys)
    by false e on = rest_in y x ys (on e)

module _ (rel : RelId) (rows : List Row) (ent : ℕ) (values : List Value) where
  claim_is : (attr : AttrId) (o : Option Value) (p : Premise) → claim_of rel rows (members rows ent) attr o ≡ Some
      (Some p) → IsOfEntity rel rows ent p
  claim_is attr None p e = absurd (none-some (Some p) e)
  claim_is attr (Some v) p e = by (find (has_value rows attr v) (members rows ent)) refl e
    where
      by : (o : Option RowId) → find (has_value rows attr v) (members rows ent) ≡ o
          → option_map (λ (row : RowId). let q : Premise = record { rel = rel; attr = attr; row = row } in Some q)
          o ≡ Some (Some p)
          → IsOfEntity rel rows ent p
      by None is e = absurd (none-some (Some p) e)
      by (Some row) is e =
          let q : Premise = record { rel = rel; attr = attr; row = row } in
          let same : q ≡ p = same_Some q p (same_Some (Some q) (Some p) e) in
          let place = at_contains (members rows ent) row (found_in (has_value rows attr v) (members rows ent) row is) in
          subst (IsOfEntity rel rows ent) same
          (record { of_relation = refl; of_entity = member_of_entity rows ent place.0 row place.1 })

  place_is : (attr : AttrId) (t : Term) (p : Premise) → place_claim rel rows (members rows ent) values attr t ≡ Some
      (Some p) → IsOfEntity rel rows ent p
  place_is attr (term.Var v) p e = claim_is attr (slice_get values v) p e
  place_is attr term.Any p e = absurd (none-some p (same_Some None (Some p) e))
  place_is attr (term.Constant k) p e = claim_is attr (Some k) p e

  claims_are : (so_far premises : List Premise) (attr : ℕ) (terms : List Term) → All (IsOfEntity rel rows ent) so_far
      → claims_from rel rows (members rows ent) values (Some so_far) attr terms ≡ Some premises
      → All (IsOfEntity rel rows ent) premises
  claims_are so_far premises attr [] all e = subst (All (IsOfEntity rel rows ent)) (same_Some so_far premises e) all
  claims_are so_far premises attr (t ∷ more) all e =
      by (place_claim rel rows (members rows ent) values (record { 0 = attr }) t) refl e
      (λ front. claims_are front premises (attr + 1) more)
    where
      by : (o : Option (Option Premise)) → place_claim rel rows (members rows ent) values (record { 0 = attr }) t ≡ o
          → claims_from rel rows (members rows ent) values (with_claim (Some so_far) o) (attr + 1) more ≡ Some premises
          → ((front : List Premise) → All (IsOfEntity rel rows ent) front
          → claims_from rel rows (members rows ent) values (Some front) (attr + 1) more ≡ Some premises
          → All (IsOfEntity rel rows ent) premises)
          → All (IsOfEntity rel rows ent) premises
      by None is e on = absurd (none-some premises (sym (no_claims rel rows (members rows ent) values (attr + 1) more) ∙ e))
      by (Some None) is e on = on so_far all e
      by (Some (Some p)) is e on =
          on (so_far ++ p ∷ []) (All-push (IsOfEntity rel rows ent) so_far p all (place_is (record { 0 = attr }) t p is)) e

pub entity_premises_are : (rel : RelId) (values : List Value) (terms : List Term) (r : Relation) (ent : EntId)
    (premises : List Premise)
    → entity_premises rel values terms r ent ≡ Some premises → All (IsOfEntity rel r.rows ent.0) premises
entity_premises_are rel values [] r ent premises e = absurd (none-some premises e)
entity_premises_are rel values (first ∷ more) r ent premises e =
    let parts = given_if ((length more == length r.attrs) && fits_name values first (slice_get r.entities ent.0))
    (claims_from rel r.rows (members r.rows ent.0) values (Some []) 0 more) premises e in
    claims_are rel r.rows ent.0 values [] premises 0 more (All-nil (IsOfEntity rel r.rows ent.0)) parts.1
