-- Claims and values that are gathered term by term and variable by variable.
use Rattle.std.proofs.Common.{◌≡◌, ◌∙◌, ◌+◌, ℕ, zero, suc, List, [], ◌∷◌, ◌++◌, All, Option, Some, None, drop, map, slice_get, refl, sym, ap, subst, arith}
use Rattle.std.proofs.lemmas.List.{append_assoc, append-nil}
use Rattle.std.proofs.lemmas.List.Elements.{All-cons, All-head, All-nil, All-tail}
use Rattle.std.proofs.Math.Seq.{drop-cons}
use Rattle.std.proofs.lemmas.Option.{get_or_from_slice_get, same_Some, none-some, slice_get_within}
use Rattle.currency_base.specs.declared.ids.RelId.{RelId}
use Rattle.currency_base.specs.declared.ids.RowId.{RowId}
use Rattle.currency_base.specs.declared.row.Row.{Row}
use Rattle.currency_base.specs.declared.value.Value.{Value}
use Rattle.query_model.specs.Answers.{IsHead}
use Rattle.query_model.specs.declared.query.Term.{Term}
use Rattle.match_premises.specs.Premises.{claims_from, place_claim, tuple_from, with_claim, with_value}
use Rattle.match_premises.specs.declared.premise.Premise.{Premise}

-- ---- lists

pub front_all : {A : Type 0} (P : A → Type 0) (xs ys : List A) → All P (xs ++ ys) → All P xs
front_all P [] ys all = All-nil P
front_all P (x ∷ xs) ys all = All-cons P x xs (All-head P x (xs ++ ys) all) (front_all P xs ys (All-tail P x (xs ++ ys) all))

pub last_one : {A : Type 0} (P : A → Type 0) (xs : List A) (y : A) → All P (xs ++ y ∷ []) → P y
last_one P [] y all = All-head P y [] all
last_one P (x ∷ xs) y all = last_one P xs y (All-tail P x (xs ++ y ∷ []) all)

-- ---- what has no claims has none later

pub no_claims : (rel : RelId) (rows : List Row) (list : List RowId) (values : List Value) (attr : ℕ) (terms : List Term)
    → claims_from rel rows list values None attr terms ≡ None
no_claims rel rows list values attr [] = refl
no_claims rel rows list values attr (t ∷ more) = no_claims rel rows list values (attr + 1) more

pub no_values : (values : List Value) (vars : List ℕ) → tuple_from values None vars ≡ None
no_values values [] = refl
no_values values (v ∷ vars) = no_values values vars

-- ---- where one of them is missing

pub missing_value : (values so_far : List Value) (vars : List ℕ) (k v : ℕ) (whole : Option (List Value))
    → tuple_from values (Some so_far) (drop k vars) ≡ whole → slice_get vars k ≡ Some v → slice_get values v ≡ None → None ≡ whole
missing_value values so_far vars k v whole e at none =
    let rest = drop-cons vars k v (slice_get_within vars k v at) ∙ ap (λ (w : ℕ). w ∷ drop (suc k) vars)
    (get_or_from_slice_get vars k v v at) in
    sym (no_values values (drop (suc k) vars))
    ∙ ap (λ (o : Option Value). tuple_from values (with_value (Some so_far) o) (drop (suc k) vars)) (sym none)
    ∙ ap (tuple_from values (Some so_far)) (sym rest) ∙ e

pub one_value_more : (values so_far pushed : List Value) (vars : List ℕ) (k v : ℕ) (x : Value) (whole : Option (List Value))
    → tuple_from values (Some so_far) (drop k vars) ≡ whole → slice_get vars k ≡ Some v → slice_get values v ≡ Some x
    → pushed ≡ so_far ++ x ∷ []
    → tuple_from values (Some pushed) (drop (k + 1) vars) ≡ whole
one_value_more values so_far pushed vars k v x whole e at some push =
    let rest = drop-cons vars k v (slice_get_within vars k v at) ∙ ap (λ (w : ℕ). w ∷ drop (suc k) vars)
    (get_or_from_slice_get vars k v v at) in
    let one_more : suc k ≡ k + 1 = omega arith in
    subst (λ (n : ℕ). tuple_from values (Some pushed) (drop n vars) ≡ whole) one_more
    (ap (λ (xs : List Value). tuple_from values (Some xs) (drop (suc k) vars)) push
    ∙ ap (λ (o : Option Value). tuple_from values (with_value (Some so_far) o) (drop (suc k) vars)) (sym some)
    ∙ ap (tuple_from values (Some so_far)) (sym rest) ∙ e)

pub missing_claim : (rel : RelId) (rows : List Row) (list : List RowId) (values : List Value) (so_far : List Premise)
    (terms : List Term) (k : ℕ) (t : Term)
    (whole : Option (List Premise)) → claims_from rel rows list values (Some so_far) k (drop k terms) ≡ whole
    → slice_get terms k ≡ Some t
    → place_claim rel rows list values (record { 0 = k }) t ≡ None → None ≡ whole
missing_claim rel rows list values so_far terms k t whole e at none =
    let rest = drop-cons terms k t (slice_get_within terms k t at) ∙ ap (λ (u : Term). u ∷ drop (suc k) terms)
    (get_or_from_slice_get terms k t t at) in
    sym (no_claims rel rows list values (k + 1) (drop (suc k) terms))
    ∙ ap (λ (o : Option (Option Premise)). claims_from rel rows list values (with_claim (Some so_far) o) (k + 1)
    (drop (suc k) terms)) (sym none)
    ∙ ap (claims_from rel rows list values (Some so_far) k) (sym rest) ∙ e

-- ---- heads

record IsGathered (values so_far tuple : List Value) (vars : List ℕ) : Type 0 where
  rest : List Value
  tuple_is : tuple ≡ so_far ++ rest
  head : IsHead values vars rest

gathered : (values so_far tuple : List Value) (vars : List ℕ) → tuple_from values (Some so_far) vars ≡ Some tuple
    → IsGathered values so_far tuple vars
gathered values so_far tuple [] e = record {
  rest = [];
  tuple_is = sym (same_Some so_far tuple e)
      ∙ sym (append-nil so_far);
  head = refl;
}
gathered values so_far tuple (v ∷ vars) e = go (slice_get values v) refl e (λ x. gathered values (so_far ++ x ∷ []) tuple vars)
  where
    go : (o : Option Value) → slice_get values v ≡ o → tuple_from values (with_value (Some so_far) o) vars ≡ Some tuple
        → ((x : Value) → tuple_from values (Some (so_far ++ x ∷ [])) vars ≡ Some tuple → IsGathered values
        (so_far ++ x ∷ []) tuple vars)
        → IsGathered values so_far tuple (v ∷ vars)
    go None at e on = absurd (none-some tuple (sym (no_values values vars) ∙ e))
    go (Some x) at e on =
        let more = on x e in
        record {
          rest = x ∷ more.rest;
          tuple_is = more.tuple_is ∙ append_assoc so_far (x ∷ []) more.rest;
          head = ap (λ (o : Option Value). o ∷ map (λ w. slice_get values w) vars) at
              ∙ ap (λ (os : List (Option Value)). Some x ∷ os) more.head;
        }

pub heads_are : (values tuple : List Value) (head : List ℕ) → tuple_from values (Some []) head ≡ Some tuple
    → IsHead values head tuple
heads_are values tuple head e =
    let all = gathered values [] tuple head e in subst (IsHead values head) (sym all.tuple_is) all.head

-- ---- claims

-- there is a claim or none is needed, and what is claimed has a property
abbrev pub IsClaimed : (Premise → Type 0) → Option (Option Premise) → Type 0
IsClaimed P None = ⊥
IsClaimed P (Some None) = Unit {0}
IsClaimed P (Some (Some p)) = P p

module _ (rel : RelId) (rows : List Row) (list : List RowId) (values : List Value) (P : Premise → Type 0)
    (ps : List Premise) (all : All P ps) where
  abbrev claim_at : ℕ → Term → Option (Option Premise)
  claim_at attr t = place_claim rel rows list values (record { 0 = attr }) t

  record AreClaimed (so_far : List Premise) (attr : ℕ) (terms : List Term) : Type 0 where
    before : All P so_far
    each : (k : ℕ) (t : Term) → slice_get terms k ≡ Some t → IsClaimed P (claim_at (attr + k) t)

  claimed : (so_far : List Premise) (attr : ℕ) (terms : List Term) → claims_from rel rows list values (Some so_far)
      attr terms ≡ Some ps
      → AreClaimed so_far attr terms
  claimed so_far attr [] e = record {
    before = subst (All P) (sym (same_Some so_far ps e)) all;
    each = λ k t at. let no : ⊥ = cc in absurd no;
  }
  claimed so_far attr (t ∷ more) e = go (claim_at attr t) refl e (λ so_far. claimed so_far (attr + 1) more)
    where
      later : (k : ℕ) (u : Term) → IsClaimed P (claim_at (attr + 1 + k) u) → IsClaimed P (claim_at (attr + suc k) u)
      later k u h = subst (λ (n : ℕ). IsClaimed P (claim_at n u)) (omega arith) h

      each_of : (c : Option (Option Premise)) → claim_at attr t ≡ c → IsClaimed P c
          → ((k : ℕ) (u : Term) → slice_get more k ≡ Some u → IsClaimed P (claim_at (attr + 1 + k) u))
          → (k : ℕ) (u : Term) → slice_get (t ∷ more) k ≡ Some u → IsClaimed P (claim_at (attr + k) u)
      each_of c is first rest zero u at =
          subst (λ (n : ℕ). IsClaimed P (claim_at n u)) (omega arith)
          (subst (λ (x : Term). IsClaimed P (claim_at attr x)) (same_Some t u at) (subst (IsClaimed P) (sym is) first))
      each_of c is first rest (suc k) u at = later k u (rest k u at)

      go : (c : Option (Option Premise)) → claim_at attr t ≡ c → claims_from rel rows list values
          (with_claim (Some so_far) c) (attr + 1) more ≡ Some ps
          → ((so_far : List Premise) → claims_from rel rows list values (Some so_far) (attr + 1) more ≡ Some ps
          → AreClaimed so_far (attr + 1) more)
          → AreClaimed so_far attr (t ∷ more)
      go None is e on = absurd (none-some ps (sym (no_claims rel rows list values (attr + 1) more) ∙ e))
      go (Some None) is e on =
          let rest = on so_far e in record { before = rest.before; each = each_of (Some None) is tt rest.each }
      go (Some (Some p)) is e on =
          let rest = on (so_far ++ p ∷ []) e in
          record {
            before = front_all P so_far (p ∷ []) rest.before;
            each = each_of (Some (Some p)) is (last_one P so_far p rest.before) rest.each;
          }

  pub all_claimed : (terms : List Term) → claims_from rel rows list values (Some []) 0 terms ≡ Some ps →
      (k : ℕ) (t : Term) → slice_get terms k ≡ Some t
      → IsClaimed P (claim_at k t)
  all_claimed terms e k t at =
      let same : 0 + k ≡ k = omega arith in subst (λ (n : ℕ). IsClaimed P (claim_at n t)) same
      ((claimed [] 0 terms e).each k t at)
