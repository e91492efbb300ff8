-- Which atoms have claims: just those that fit their entities.
use Rattle.std.proofs.Common.{◌≡◌, ◌==◌, ◌&&◌, ◌-◌, ◌+◌, ◌<◌, ℕ, zero, suc, Bool, true, false, cond, List, [], ◌∷◌, ◌++◌, length, Option, None, Some, option_map, option_and_then, slice_get, refl, sym, ap, subst, ◌∙◌, arith}
use Rattle.std.specs.List.{All, find}
use Rattle.std.specs.Option.{is_some}
use Rattle.std.proofs.lemmas.Bool.{eq-eqb, false≢true, ne_eqb}
use Rattle.std.proofs.lemmas.List.Elements.{All-head, All-tail}
use Rattle.std.proofs.lemmas.Option.{none-some, same_Some, slice_get-get_or, slice_get_within}
use Rattle.currency_base.specs.declared.ids.EntId.{EntId}
use Rattle.currency_base.specs.declared.ids.RelId.{RelId}
use Rattle.currency_base.specs.declared.ids.RowId.{RowId}
use Rattle.currency_base.specs.declared.row.Row.{Row}
use Rattle.currency_base.specs.declared.value.Value.{Value}
use Rattle.currency_base.specs.declared.value.Value.TheVariants.{Text}
use Rattle.entity_rows.specs.Members.{members}
use Rattle.log_axioms.specs.Matches.{atom_claims, both_claims, match_claims}
use Rattle.match_premises.specs.Premises.{claim_of, claims_from, entity_premises, fits, fits_name, has_value, place_claim, with_claim}
use Rattle.match_premises.specs.declared.premise.Premise.{Premise}
use Rattle.query_model.specs.declared.query.Atom.{Atom}
use Rattle.query_model.specs.declared.query.Term.{Term}
use Rattle.query_model.specs.declared.query.Term.TheVariants as term
use Rattle.spec_model.specs.declared.relation.Relation.{Relation}
use Rattle.match_candidates.specs.Places.{AtomFits, AtomsFit, TermsFit, has_at, has_in, has_there, term_fits}
use Rattle.match_candidates.specs.declared.at.At.{At}
use Rattle.match_premises.proofs.Folds.{no_claims}

abbrev HasClaims : Option (List Premise) → Type 0
HasClaims o = (claims : List Premise) × (o ≡ Some claims)

-- ---- the terms for attributes

mapped_some : {A B : Type 0} (f : A → B) (o : Option A) → is_some (option_map f o) ≡ is_some o
mapped_some f None = refl
mapped_some f (Some x) = refl

module _ (rel : RelId) (rows : List Row) (list : List RowId) (values : List Value) where
  abbrev Claimed : ℕ → Term → Type 0
  Claimed k t = is_some (place_claim rel rows list values (record { 0 = k }) t) ≡ true

  shifted : (k j : ℕ) (t : Term) → Claimed (k + 1 + j) t → Claimed (k + suc j) t
  shifted k j t is = let same : k + 1 + j ≡ k + suc j = omega arith in subst (λ n. Claimed n t) same is

  unshifted : (k j : ℕ) (t : Term) → Claimed (k + suc j) t → Claimed (k + 1 + j) t
  unshifted k j t is = let same : k + suc j ≡ k + 1 + j = omega arith in subst (λ n. Claimed n t) same is

  first_of : (k : ℕ) (t : Term) → Claimed (k + 0) t → Claimed k t
  first_of k t is = let same : k + 0 ≡ k = omega arith in subst (λ n. Claimed n t) same is

  to_first : (k : ℕ) (t : Term) → Claimed k t → Claimed (k + 0) t
  to_first k t is = let same : k ≡ k + 0 = omega arith in subst (λ n. Claimed n t) same is

  -- where each place has its claim, or asks for none, there are claims
  pub claims_some : (so_far : List Premise) (k : ℕ) (terms : List Term)
      → ((j : ℕ) (t : Term) → slice_get terms j ≡ Some t → Claimed (k + j) t)
      → HasClaims (claims_from rel rows list values (Some so_far) k terms)
  claims_some so_far k [] each = (so_far, refl)
  claims_some so_far k (t ∷ terms) each =
      by (place_claim rel rows list values (record { 0 = k }) t) (first_of k t (each 0 t refl))
      (λ more. claims_some more (k + 1) terms (λ j u at. unshifted k j u (each (suc j) u at)))
    where
      by : (o : Option (Option Premise)) → is_some o ≡ true
          → ((more : List Premise) → HasClaims (claims_from rel rows list values (Some more) (k + 1) terms))
          → HasClaims (claims_from rel rows list values (with_claim (Some so_far) o) (k + 1) terms)
      by None is rest = absurd (false≢true is)
      by (Some None) is rest = rest so_far
      by (Some (Some p)) is rest = rest (so_far ++ p ∷ [])

  -- and where there are claims, each place has its own
  pub some_claims : (so_far claims : List Premise) (k : ℕ) (terms : List Term)
      → claims_from rel rows list values (Some so_far) k terms ≡ Some claims
      → (j : ℕ) (t : Term) → slice_get terms j ≡ Some t → Claimed (k + j) t
  some_claims so_far claims k [] is j t at = absurd (none-some t at)
  some_claims so_far claims k (u ∷ terms) is j t at =
      by (place_claim rel rows list values (record { 0 = k }) u) refl is
      (λ more rest i v there. some_claims more claims (k + 1) terms rest i v there) j at
    where
      by : (o : Option (Option Premise)) → place_claim rel rows list values (record { 0 = k }) u ≡ o
          → claims_from rel rows list values (with_claim (Some so_far) o) (k + 1) terms ≡ Some claims
          → ((more : List Premise) → claims_from rel rows list values (Some more) (k + 1) terms ≡ Some claims
          → (i : ℕ) (v : Term) → slice_get terms i ≡ Some v → Claimed (k + 1 + i) v)
          → (j : ℕ) → slice_get (u ∷ terms) j ≡ Some t → Claimed (k + j) t
      by None own is more j at = absurd (none-some claims (sym (no_claims rel rows list values (k + 1) terms) ∙ is))
      by (Some None) own is more zero at =
          to_first k t (subst (Claimed k) (same_Some u t at) (ap is_some own))
      by (Some (Some p)) own is more zero at =
          to_first k t (subst (Claimed k) (same_Some u t at) (ap is_some own))
      by (Some None) own is more (suc j) at = shifted k j t (more so_far is j t at)
      by (Some (Some p)) own is more (suc j) at = shifted k j t (more (so_far ++ p ∷ []) is j t at)

-- ---- places

module _ (relations : List Relation) (rel : RelId) (r : Relation) (ent : EntId) (values : List Value)
    (there : slice_get relations rel.0 ≡ Some r) where
  abbrev here : ℕ → At
  here k = record { rel = rel; ent = ent; place = k }

  at_place : (k : ℕ) (x : Value) → has_at relations (here k) x ≡ has_in r ent k x
  at_place k x = ap (λ o. has_there o ent k x) there

  in_rows : (k : ℕ) (x : Value) → has_in r ent (suc k) x ≡ is_some (find (has_value r.rows (record {
    0 =
        k;
  }) x) (members r.rows ent.0))
  in_rows k x =
      let later : (suc k == 0) ≡ false = ne_eqb (suc k) 0 (λ same. absurd (omega (arith, same))) in
      let less : suc k - 1 ≡ k = omega arith in
      rw (later, less) refl

  had_claimed : (k : ℕ) (x : Value)
      → has_at relations (here (suc k)) x ≡ is_some (claim_of rel r.rows (members r.rows ent.0) (record { 0 = k }) (Some x))
  had_claimed k x = at_place (suc k) x ∙ in_rows k x
      ∙ sym (mapped_some _ (find (has_value r.rows (record { 0 = k }) x) (members r.rows ent.0)))

  -- a term fits a place just where it has its claim there, or asks for none
  pub place_fits : (k : ℕ) (t : Term)
      → term_fits relations (here (suc k)) values t ≡ is_some (place_claim rel r.rows (members r.rows ent.0) values
      (record { 0 = k }) t)
  place_fits k (term.Var v) = by (slice_get values v) refl
    where
      by : (o : Option Value) → slice_get values v ≡ o
          → term_fits relations (here (suc k)) values (term.Var v) ≡ is_some (place_claim rel r.rows
          (members r.rows ent.0) values (record { 0 = k }) (term.Var v))
      by None own = rw own refl
      by (Some x) own = rw own (had_claimed k x)
  place_fits k term.Any = refl
  place_fits k (term.Constant c) = had_claimed k c

  -- and the name just where it fits
  pub name_fits : (name : List ℕ) (t : Term) → slice_get r.entities ent.0 ≡ Some name
      → term_fits relations (here 0) values t ≡ fits values t (Text name)
  name_fits name (term.Var v) at = by (slice_get values v) refl
    where
      by : (o : Option Value) → slice_get values v ≡ o
          → term_fits relations (here 0) values (term.Var v) ≡ fits values (term.Var v) (Text name)
      by None own = rw own refl
      by (Some x) own = rw own (at_place 0 x ∙ rw at refl)
  name_fits name term.Any at = refl
  name_fits name (term.Constant c) at = at_place 0 c ∙ rw at refl

-- ---- atoms

chosen : {A : Type 0} (b : Bool) (x : Option A) (y : A) → cond b x None ≡ Some y → (b ≡ true) × (x ≡ Some y)
chosen true x y is = (refl, is)
chosen false x y is = absurd (none-some y is)

both_true : (a b : Bool) → a && b ≡ true → (a ≡ true) × (b ≡ true)
both_true true b is = (refl, is)
both_true false b is = absurd (false≢true is)

module _ (relations : List Relation) (values : List Value) (atom : Atom) (r : Relation)
    (there : slice_get relations atom.relation.0 ≡ Some r)
    (many : length atom.terms ≡ length r.attrs + 1) (ent : EntId) where
  abbrev start : At
  start = record { rel = atom.relation; ent = ent; place = 0 }

  claims_are : atom_claims relations values atom ent ≡ entity_premises atom.relation values atom.terms r ent
  claims_are = ap (option_and_then (λ r. entity_premises atom.relation values atom.terms r ent)) there

  each_claimed : (first : Term) (more : List Term) → atom.terms ≡ first ∷ more → TermsFit relations start values atom.terms
      → (j : ℕ) (t : Term) → slice_get more j ≡ Some t
      → is_some (place_claim atom.relation r.rows (members r.rows ent.0) values (record { 0 = 0 + j }) t) ≡ true
  each_claimed first more all fit j t at =
      let none_more : 0 + j ≡ j = omega arith in
      let one : term_fits relations (record start { place = suc j }) values t ≡ true =
      fit (suc j) t (omega arith) (ap (λ l. slice_get l (suc j)) all ∙ at) in
      rw none_more (sym (place_fits relations atom.relation r ent values there j t) ∙ one)

  some_if_fit : (terms : List Term) (o : Option (List ℕ)) → atom.terms ≡ terms → slice_get r.entities ent.0 ≡ o
      → ent.0 < length r.entities
      → TermsFit relations start values atom.terms → HasClaims (entity_premises atom.relation values terms r ent)
  some_if_fit [] o all named within fit = absurd (let none = ap (λ (l : List Term). length l) all in omega (arith, many, none))
  some_if_fit (first ∷ more) None all named within fit = absurd (none-some _ (sym named
      ∙ slice_get-get_or r.entities ent.0 [] within))
  some_if_fit (first ∷ more) (Some name) all named within fit =
      let count : (length more == length r.attrs) ≡ true = eq-eqb (length more) (length r.attrs)
      (let long = ap (λ (l : List Term). length l) all in omega (arith, many, long)) in
      let begins : fits_name values first (slice_get r.entities ent.0) ≡ true = ap (fits_name values first) named
      ∙ (sym (name_fits relations atom.relation r ent values there name first named)
      ∙ fit 0 first (omega arith) (ap (λ l. slice_get l 0) all)) in
      rw (count, begins) (claims_some atom.relation r.rows (members r.rows ent.0) values [] 0 more
      (each_claimed first more all fit))

  -- an atom that fits an entity has claims
  pub fit_claims : AtomFits relations values atom ent → HasClaims (atom_claims relations values atom ent)
  fit_claims fits =
      let same : fits.relation ≡ r = same_Some fits.relation r (sym fits.is_relation ∙ there) in
      let within : ent.0 < length r.entities = subst (λ (q : Relation). ent.0 < length q.entities) same fits.within in
      subst HasClaims (sym claims_are) (some_if_fit atom.terms (slice_get r.entities ent.0) refl refl within fits.terms)

  fit_if_some : (terms : List Term) (o : Option (List ℕ)) (claims : List Premise) → atom.terms ≡ terms
      → slice_get r.entities ent.0 ≡ o
      → entity_premises atom.relation values terms r ent ≡ Some claims → AtomFits relations values atom ent
  fit_if_some [] o claims all named is = absurd (none-some claims is)
  fit_if_some (first ∷ more) None claims all named is =
      let parts = chosen _ _ claims is in
      let begins = both_true _ (fits_name values first (slice_get r.entities ent.0)) parts.0 in
      absurd (false≢true (sym (ap (fits_name values first) named) ∙ begins.1))
  fit_if_some (first ∷ more) (Some name) claims all named is =
      let parts = chosen _ _ claims is in
      let begins = both_true _ (fits_name values first (slice_get r.entities ent.0)) parts.0 in
      record {
        relation = r;
        is_relation = there;
        within = slice_get_within r.entities ent.0 name named;
        terms = λ k t from at. by k t (ap (λ l. slice_get l k) (sym all) ∙ at) (sym (ap (fits_name values first) named)
            ∙ begins.1) parts.1;
      }
    where
      by : (k : ℕ) (t : Term) → slice_get (first ∷ more) k ≡ Some t → fits values first (Text name) ≡ true
          → claims_from atom.relation r.rows (members r.rows ent.0) values (Some []) 0 more ≡ Some claims
          → term_fits relations (record start { place = k }) values t ≡ true
      by zero t at begins rest =
          name_fits relations atom.relation r ent values there name t named
          ∙ ap (λ u. fits values u (Text name)) (sym (same_Some first t at)) ∙ begins
      by (suc j) t at begins rest =
          let none_more : 0 + j ≡ j = omega arith in
          place_fits relations atom.relation r ent values there j t
          ∙ (rw none_more at (some_claims atom.relation r.rows (members r.rows ent.0) values [] claims 0 more rest j t at))

  -- and one that has claims fits
  pub claims_fit : (claims : List Premise) → atom_claims relations values atom ent ≡ Some claims
      → AtomFits relations values atom ent
  claims_fit claims is = fit_if_some atom.terms (slice_get r.entities ent.0) claims refl refl (sym claims_are ∙ is)

-- ---- all atoms

-- atoms of relations that are there, with one term for the name and one for each attribute
pub record IsAtomThere (relations : List Relation) (atom : Atom) : Type 0 where
  pub relation : Relation
  pub is_relation : slice_get relations atom.relation.0 ≡ Some relation
  pub many : length atom.terms ≡ length relation.attrs + 1

pub all_claims : (relations : List Relation) (values : List Value) (atoms : List Atom) (ents : List EntId)
    → All (IsAtomThere relations) atoms
    → AtomsFit relations values atoms ents → HasClaims (match_claims relations values atoms ents)
all_claims relations values [] [] there fit = ([], refl)
all_claims relations values [] (ent ∷ ents) there fit = absurd fit
all_claims relations values (atom ∷ atoms) [] there fit = absurd fit
all_claims relations values (atom ∷ atoms) (ent ∷ ents) there fit =
    let own = All-head (IsAtomThere relations) atom atoms there in
    let first = fit_claims relations values atom own.relation own.is_relation own.many ent fit.0 in
    let rest = all_claims relations values atoms ents (All-tail (IsAtomThere relations) atom atoms there) fit.1 in (
      first.0 ++ rest.0,
      ap (λ o. both_claims o (match_claims relations values atoms ents)) first.1
          ∙ ap (both_claims (Some first.0)) rest.1,
    )

both_some : (o p : Option (List Premise)) (claims : List Premise) → both_claims o p ≡ Some claims → HasClaims o × HasClaims p
both_some None p claims is = absurd (none-some claims is)
both_some (Some first) None claims is = absurd (none-some claims is)
both_some (Some first) (Some more) claims is = ((first, refl), (more, refl))

pub all_fit : (relations : List Relation) (values : List Value) (atoms : List Atom) (ents : List EntId) (claims : List Premise)
    → All (IsAtomThere relations) atoms → match_claims relations values atoms ents ≡ Some claims
    → AtomsFit relations values atoms ents
all_fit relations values [] [] claims there is = tt
all_fit relations values [] (ent ∷ ents) claims there is = absurd (none-some claims is)
all_fit relations values (atom ∷ atoms) [] claims there is = absurd (none-some claims is)
all_fit relations values (atom ∷ atoms) (ent ∷ ents) claims there is =
    let own = All-head (IsAtomThere relations) atom atoms there in
    let both = both_some (atom_claims relations values atom ent) (match_claims relations values atoms ents) claims is in (
      claims_fit relations values atom own.relation own.is_relation own.many ent both.0.0 both.0.1,
      all_fit relations values atoms ents both.1.0 (All-tail (IsAtomThere relations) atom atoms there) both.1.1,
    )
