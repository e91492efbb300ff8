-- The claims of terms, of an atom and of atoms: the judge has them, and the maker says the same, one by one.
use Rattle.std.proofs.Common.{◌≡◌, ◌∙◌, ◌==◌, ◌&&◌, ◌+◌, ◌<◌, ℕ, suc, Bool, true, if◌then◌else◌, List, [], ◌∷◌, ◌++◌, Option, Some, None, option_and_then, drop, length, map, slice_get, append_assoc, refl, sym, ap, subst, arith, ⊎_elim}
use Rattle.std.proofs.lemmas.Bool.{and_from, eq-eqb}
use Rattle.std.proofs.lemmas.List.{append-nil, map-append}
use Rattle.std.proofs.lemmas.Option.{slice_get_within}
use Rattle.currency_base.specs.declared.ids.AttrId.{AttrId}
use Rattle.currency_base.specs.declared.ids.EntId.{EntId}
use Rattle.currency_base.specs.declared.ids.RelId.{RelId}
use Rattle.currency_base.specs.declared.value.Value.{Value}
use Rattle.currency_base.specs.declared.value.Value.TheVariants.{Text}
use Rattle.entity_rows.specs.Members.{members}
use Rattle.log_axioms.specs.Axioms as judged
use Rattle.log_axioms.specs.Matches.{atom_claims, both_claims, match_claims}
use Rattle.log_axioms.specs.declared.signed.Signed.{Signed}
use Rattle.match_premises.specs.Premises.{claim_of, claims_from, entity_premises, fits_name, place_claim, with_claim}
use Rattle.match_premises.specs.declared.premise.Premise.{Premise}
use Rattle.query_model.specs.Answers.{Fits, FitsTuple}
use Rattle.query_model.specs.declared.query.Atom.{Atom}
use Rattle.query_model.specs.declared.query.Term.{Term}
use Rattle.query_model.specs.declared.query.Term.TheVariants as term
use Rattle.spec_model.specs.Completion.{IsCompletion, Rankings}
use Rattle.spec_model.specs.Current.{IsCurrentTuple, current_value}
use Rattle.spec_model.specs.Facts.{AreRelations}
use Rattle.spec_model.specs.declared.relation.Relation.{Relation}
use Rattle.axiom_agreement.proofs.Agreeing.{AllAgree, all_agree_both}
use Rattle.order_literals.proofs.Items.{IsIn, in_either}
use Rattle.order_literals.specs.Said.{Said}
use Rattle.match_clauses.specs.Claimed.{atom_said, atoms_said, not_current, term_said, terms_said}
use Rattle.match_clauses.proofs.Places.{IsDenied, claimed, place_is}
use Rattle.match_clauses.proofs.Values.{fits_passes}

-- what the judge denies of a claim
abbrev pub denials : List Premise → List Signed
denials premises = map (λ p. judged.not_last p.rel p.attr p.row) premises

-- the judge's claims, one by one what is said, which denies current values
pub record AreClaimed (relations : List Relation) (c : Rankings) (said : List Said) (claims : Option (List Premise))
    (so_far : List Premise) : Type 0 where
  pub premises : List Premise
  pub is : claims ≡ Some (so_far ++ premises)
  pub agree : AllAgree relations said (denials premises)
  pub denied : (x : Said) → IsIn said x → IsDenied relations c x

-- an atom fits the current tuple of an entity
pub record IsOfCurrent (relations : List Relation) (c : Rankings) (values : List Value) (atom : Atom) (ent : EntId) : Type 0 where
  pub relation : Relation
  pub is_relation : slice_get relations atom.relation.0 ≡ Some relation
  pub tuple : List Value
  pub is_current : IsCurrentTuple c atom.relation.0 relation ent.0 tuple
  pub fits : FitsTuple values atom.terms tuple

module _ (relations : List Relation) (c : Rankings) (are : AreRelations relations) (completion : IsCompletion relations c) where
  -- ---- terms of one entity

  module _ (rel : RelId) (r : Relation) (at : slice_get relations rel.0 ≡ Some r) (ent : EntId)
      (ent_in : ent.0 < length r.entities)
      (values : List Value) where
    -- what is claimed from an attribute on
    abbrev claims_of : List Premise → ℕ → List Term → Option (List Premise)
    claims_of so_far attr terms = claims_from rel r.rows (members r.rows ent.0) values (Some so_far) attr terms

    abbrev Rest : List Premise → ℕ → List Term → Type 0
    Rest so_far attr terms = AreClaimed relations c (terms_said relations c rel ent attr terms)
        (claims_of so_far attr terms) so_far

    -- a term that asks for a value, before others
    asked : (so_far : List Premise) (attr : ℕ) (t : Term) (terms : List Term) (x : Value) → attr < length r.attrs
        → current_value c rel.0 r.rows attr ent.0 ≡ Some x
        → place_claim rel r.rows (members r.rows ent.0) values (record { 0 = attr }) t
        ≡ claim_of rel r.rows (members r.rows ent.0) (record { 0 = attr }) (Some x)
        → term_said relations c rel ent (record { 0 = attr }) t ≡ not_current relations c rel (record { 0 = attr }) ent ∷ []
        → ((p : Premise) → Rest (so_far ++ p ∷ []) (attr + 1) terms) → Rest so_far attr (t ∷ terms)
    asked so_far attr t terms x attr_in now claim says later =
        let a : AttrId = record { 0 = attr } in
        let here = claimed relations c are completion rel r at a ent attr_in ent_in x now in
        let p : Premise = record { rel = rel; attr = a; row = here.row } in
        let rest = later p in
        let more = terms_said relations c rel ent (attr + 1) terms in
        let mine : terms_said relations c rel ent attr (t ∷ terms) ≡ not_current relations c rel a ent ∷ more =
        ap (λ (xs : List Said). xs ++ more) says in
        record {
          premises = p ∷ rest.premises;
          is = ap (λ o. claims_from rel r.rows (members r.rows ent.0) values (with_claim (Some so_far) o) (attr + 1)
              terms) (claim ∙ here.is_claim)
              ∙ rest.is ∙ ap Some (append_assoc so_far (p ∷ []) rest.premises);
          agree = subst (λ (xs : List Said). AllAgree relations xs (denials (p ∷ rest.premises))) (sym mine)
              (here.agrees, rest.agree);
          denied = λ y is_in. ⊎_elim
              (λ (e : not_current relations c rel a ent ≡ y). subst (IsDenied relations c) e here.denied)
              (λ (there : IsIn more y). rest.denied y there)
              (subst (λ (xs : List Said). IsIn xs y) mine is_in);
        }

    terms_claimed : (so_far : List Premise) (attr : ℕ) (terms : List Term) (current : List Value) → length terms ≡ length current
        → ((k : ℕ) (t : Term) (x : Value) → slice_get terms k ≡ Some t → slice_get current k ≡ Some x → Fits values t x)
        → ((k : ℕ) (x : Value) → slice_get current k ≡ Some x → (attr + k < length r.attrs) ×
        (current_value c rel.0 r.rows (attr + k) ent.0 ≡ Some x))
        → Rest so_far attr terms
    terms_claimed so_far attr [] current many fit now =
        record { premises = []; is = ap Some (sym (append-nil so_far)); agree = tt; denied = λ y is_in. absurd is_in }
    terms_claimed so_far attr (t ∷ terms) [] many fit now = absurd (omega (arith, many))
    terms_claimed so_far attr (t ∷ terms) (x ∷ current) many fit now =
        go t (fit 0 t x refl refl)
        (λ front. terms_claimed front (attr + 1) terms current (omega (arith, many))
        (λ k u y at_u at_y. fit (suc k) u y at_u at_y)
        (λ k y at_y. subst (λ n. (n < length r.attrs) × (current_value c rel.0 r.rows n ent.0 ≡ Some y)) (next k)
        (now (suc k) y at_y)))
      where
        next : (k : ℕ) → attr + suc k ≡ attr + 1 + k
        next k = omega arith

        none : attr + 0 ≡ attr
        none = omega arith

        first : (attr < length r.attrs) × (current_value c rel.0 r.rows attr ent.0 ≡ Some x)
        first = subst (λ n. (n < length r.attrs) × (current_value c rel.0 r.rows n ent.0 ≡ Some x)) none (now 0 x refl)

        go : (u : Term) → Fits values u x → ((front : List Premise) → Rest front (attr + 1) terms) → Rest so_far attr (u ∷ terms)
        go (term.Var v) fits_it later =
            asked so_far attr (term.Var v) terms x first.0 first.1 (place_is rel r ent values (record { 0 = attr })
            (slice_get values v) x fits_it) refl
            (λ p. later (so_far ++ p ∷ []))
        go term.Any fits_it later = later so_far
        go (term.Constant k) fits_it later =
            asked so_far attr (term.Constant k) terms x first.0 first.1
            (place_is rel r ent values (record { 0 = attr }) (Some k) x (ap Some fits_it)) refl
            (λ p. later (so_far ++ p ∷ []))

    -- ---- an atom

    -- the entity's current tuple, which the terms fit, has the claims
    pub atom_claimed : (terms : List Term) (tuple : List Value) → IsCurrentTuple c rel.0 r ent.0 tuple
        → FitsTuple values terms tuple
        → AreClaimed relations c (terms_said relations c rel ent 0 (drop 1 terms)) (entity_premises rel values terms r ent) []
    atom_claimed [] tuple is fit =
        let a = fit.as_many in
        let b = ap (λ (xs : List Value). length xs) is.tuple_is in
        absurd (omega (arith, a, b))
    atom_claimed (first ∷ more) tuple is fit =
        let shape : FitsTuple values (first ∷ more) (Text is.name ∷ is.values) =
        subst (FitsTuple values (first ∷ more)) is.tuple_is fit in
        let long : length more ≡ length is.values = let a = shape.as_many in omega (arith, a) in
        let rest =
        terms_claimed [] 0 more is.values long (λ k t x at_t at_x. shape.each (suc k) t x at_t at_x)
        (λ k x at_x.
        let below : k < length r.attrs = let a = slice_get_within is.values k x at_x in let b = is.per_attr in omega
        (arith, a, b) in
        let same : k ≡ 0 + k = omega arith in
        subst (λ n. (n < length r.attrs) × (current_value c rel.0 r.rows n ent.0 ≡ Some x)) same
        (below, sym (is.current k below) ∙ at_x)) in
        let many : length more ≡ length r.attrs = let b = is.per_attr in omega (arith, long, b) in
        let named : fits_name values first (slice_get r.entities ent.0) ≡ true =
        ap (fits_name values first) is.is_name ∙ fits_passes values first (Text is.name)
        (shape.each 0 first (Text is.name) refl refl) in
        let passes : ((length more == length r.attrs) && fits_name values first (slice_get r.entities ent.0)) ≡ true =
        and_from (length more == length r.attrs) (fits_name values first (slice_get r.entities ent.0))
        (eq-eqb (length more) (length r.attrs) many) named in
        record {
          premises = rest.premises;
          is = ap (λ (b : Bool). if b then claims_from rel r.rows (members r.rows ent.0) values (Some []) 0 more else
              None) passes ∙ rest.is;
          agree = rest.agree;
          denied = rest.denied;
        }

  -- ---- atoms

  one_claimed : (values : List Value) (atom : Atom) (ent : EntId) → IsOfCurrent relations c values atom ent
      → AreClaimed relations c (atom_said relations c atom ent) (atom_claims relations values atom ent) []
  one_claimed values atom ent of =
      let its =
      atom_claimed atom.relation of.relation of.is_relation ent
      (slice_get_within of.relation.entities ent.0 of.is_current.name of.is_current.is_name) values
      atom.terms of.tuple of.is_current of.fits in
      record {
        premises = its.premises;
        is = ap (option_and_then (λ (r : Relation). entity_premises atom.relation values atom.terms r ent))
            of.is_relation ∙ its.is;
        agree = its.agree;
        denied = its.denied;
      }

  pub atoms_claimed : (values : List Value) (atoms : List Atom) (entities : List EntId) → length entities ≡ length atoms
      → ((k : ℕ) (atom : Atom) (ent : EntId) → slice_get atoms k ≡ Some atom → slice_get entities k ≡ Some ent
      → IsOfCurrent relations c values atom ent)
      → AreClaimed relations c (atoms_said relations c atoms entities) (match_claims relations values atoms entities) []
  atoms_claimed values [] [] many each = record { premises = []; is = refl; agree = tt; denied = λ y is_in. absurd is_in }
  atoms_claimed values [] (ent ∷ entities) many each = absurd (omega (arith, many))
  atoms_claimed values (atom ∷ atoms) [] many each = absurd (omega (arith, many))
  atoms_claimed values (atom ∷ atoms) (ent ∷ entities) many each =
      let here = one_claimed values atom ent (each 0 atom ent refl refl) in
      let rest = atoms_claimed values atoms entities (omega (arith, many)) (λ k a e at_a at_e. each (suc k) a e at_a at_e) in
      let mine = atom_said relations c atom ent in
      let more = atoms_said relations c atoms entities in
      record {
        premises = here.premises ++ rest.premises;
        is = ap (λ o. both_claims o (match_claims relations values atoms entities)) here.is
            ∙ ap (both_claims (Some here.premises)) rest.is;
        agree = subst (AllAgree relations (mine ++ more))
            (sym (map-append (λ (p : Premise). judged.not_last p.rel p.attr p.row) here.premises rest.premises))
            (all_agree_both relations mine more (denials here.premises) (denials rest.premises) here.agree rest.agree);
        denied = λ y is_in. ⊎_elim (λ (l : IsIn mine y). here.denied y l) (λ (l : IsIn more y). rest.denied y l)
            (in_either mine more y is_in);
      }
