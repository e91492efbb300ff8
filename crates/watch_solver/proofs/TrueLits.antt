-- What the literals of a trail tell of its variables, and how many entries it has.
use Rattle.std.proofs.Common.{◌≡◌, ◌⊎◌, ◌<◌, ◌≤◌, ◌≢◌, ◌∙◌, ℕ, zero, suc, Bool, true, not, List, [], ◌∷◌, Some, None, All, Contains, eqb, length, map, slice_get, get_or, refl, sym, ap, subst, inl, inr, arith}
use Rattle.std.specs.List.{AllPairs, list_any}
use Rattle.std.proofs.lemmas.Bool.{cases_eq, ne_eqb, eq-eqb, eqb-true, or_cases}
use Rattle.std.proofs.lemmas.Bool.Decides.{Decides-eqb}
use Rattle.std.proofs.lemmas.List.{length-map}
use Rattle.std.proofs.lemmas.List.Elements.{All-head, All-map, All-tail}
use Rattle.std.proofs.lemmas.Map.Made.{IsDistinct-from_AllPairs}
use Rattle.std.proofs.lemmas.Map.Steps.{length-le_from_distinct_below}
use Rattle.std.proofs.lemmas.Option.{slice_get-get_or, same_Some}
use Rattle.currency_base.specs.Lists.{OnlyOnce}
use Rattle.currency_base.specs.Literals.{is_negative, negation, var_of}
use Rattle.currency_base.specs.declared.lit.Lit.{Lit}
use Rattle.search_trail.specs.Trails.{AreEntries, Entry, Trail, value_in}
use Rattle.watch_propagate.proofs.KeptLists.{contains_at}
use Rattle.watch_solver.proofs.LitParts.{is_other, not_twice, same_parts}

-- ---- values

value_here : (x : Lit) (xs : List Lit) (var : ℕ) → var_of x ≡ var → value_in (x ∷ xs) var ≡ Some (not (is_negative x))
value_here x xs var e = rw (eq-eqb (var_of x) var e) refl

value_past : (x : Lit) (xs : List Lit) (var : ℕ) → (var_of x ≡ var → ⊥) → value_in (x ∷ xs) var ≡ value_in xs var
value_past x xs var d = rw (ne_eqb (var_of x) var d) refl

-- the variable of a literal that is true has a value
pub not_free : (lits : List Lit) (place : ℕ) (lit : Lit) → slice_get lits place ≡ Some lit → value_in lits (var_of lit) ≡ None → ⊥
not_free [] place lit is none = absurd (cc)
not_free (x ∷ xs) zero lit is none =
    let some = value_here x xs (var_of lit) (ap var_of (same_Some x lit is)) in
    absurd (cc)
not_free (x ∷ xs) (suc place) lit is none = go (cases_eq (var_of x) (var_of lit)) (λ h. not_free xs place lit is h)
  where
    go : (var_of x ≡ var_of lit) ⊎ (var_of x ≡ var_of lit → ⊥) → (value_in xs (var_of lit) ≡ None → ⊥) → ⊥
    go (inl e) more = let some = value_here x xs (var_of lit) e in absurd (cc)
    go (inr d) more = more (sym (value_past x xs (var_of lit) d) ∙ none)

-- the literal that gives a variable its value
pub record HasValue (lits : List Lit) (var : ℕ) (value : Bool) : Type 0 where
  pub lit : Lit
  pub place : ℕ
  pub is_there : slice_get lits place ≡ Some lit
  pub is_of : var_of lit ≡ var
  pub sign : is_negative lit ≡ not value

pub has_value : (lits : List Lit) (var : ℕ) (value : Bool) → value_in lits var ≡ Some value → HasValue lits var value
has_value [] var value is = absurd (cc)
has_value (x ∷ xs) var value is = go (λ h. has_value xs var value h) (cases_eq (var_of x) var)
  where
    go : (value_in xs var ≡ Some value → HasValue xs var value) → (var_of x ≡ var) ⊎ (var_of x ≡ var → ⊥)
        → HasValue (x ∷ xs) var value
    go more (inl e) =
        let same : not (is_negative x) ≡ value = same_Some (not (is_negative x)) value (sym (value_here x xs var e) ∙ is) in
        record { lit = x; place = 0; is_there = refl; is_of = e; sign = sym (not_twice (is_negative x)) ∙ ap not same }
    go more (inr d) =
        let later = more (sym (value_past x xs var d) ∙ is) in
        record { lit = later.lit; place = suc later.place; is_there = later.is_there; is_of = later.is_of; sign = later.sign }

-- the literal of a variable is true by the value that is not its sign, and false by its sign
pub true_by : (lits : List Lit) (lit : Lit) (value : Bool) → value_in lits (var_of lit) ≡ Some value → value ≡ not
    (is_negative lit) → Contains lits lit
true_by lits lit value is other =
    let h = has_value lits (var_of lit) value is in
    let same : h.lit ≡ lit = same_parts h.lit lit h.is_of (h.sign ∙ ap not other ∙ not_twice (is_negative lit)) in
    subst (Contains lits) same (contains_at lits h.place h.lit h.is_there)

pub false_by : (lits : List Lit) (lit : Lit) (value : Bool) → value_in lits (var_of lit) ≡ Some value
    → value ≡ is_negative lit → Contains lits (negation lit)
false_by lits lit value is sign =
    let h = has_value lits (var_of lit) value is in
    let same : h.lit ≡ negation lit = is_other lit h.lit h.is_of (h.sign ∙ ap not sign) in
    subst (Contains lits) same (contains_at lits h.place h.lit h.is_there)

-- ---- entries

all_below : (n q : ℕ) (xs : List ℕ) → All (λ x. x < n) xs → list_any (eqb q) xs ≡ true → q < n
all_below n q [] all is = absurd (cc)
all_below n q (x ∷ xs) all is =
    go (λ h. all_below n q xs (All-tail (λ y. y < n) x xs all) h) (or_cases (eqb q x) (list_any (eqb q) xs) is)
  where
    go : (list_any (eqb q) xs ≡ true → q < n) → (eqb q x ≡ true) ⊎ (list_any (eqb q) xs ≡ true) → q < n
    go more (inl h) = subst (λ v. v < n) (sym (eqb-true q x h)) (All-head (λ y. y < n) x xs all)
    go more (inr h) = more h

all_vars : (n : ℕ) (es : List Entry) → All (λ e. var_of e.lit < n) es → All (λ x. x < n) (map (λ (e : Entry). var_of e.lit) es)
all_vars n es all = All-map (λ x. x < n) (λ (e : Entry). var_of e.lit) es all

apart : (xs : List ℕ) → OnlyOnce xs → AllPairs (λ x y. x ≢ y) xs
apart xs once i j d before within same =
    let no : i ≡ j = once i j (get_or xs j d) (slice_get-get_or xs i d (omega (arith, before, within))
    ∙ ap Some same) (slice_get-get_or xs j d within) in
    omega (arith, no, before)

-- there are at most as many entries as variables
pub few_entries : (t : Trail) → AreEntries t → length t.entries ≤ t.vars
few_entries t are =
    let vars = map (λ (e : Entry). var_of e.lit) t.entries in
    let few : length vars ≤ t.vars =
    length-le_from_distinct_below vars t.vars (IsDistinct-from_AllPairs Decides-eqb vars (apart vars are.once))
    (λ q any. all_below t.vars q vars (all_vars t.vars t.entries are.within) any) in
    omega (arith, few, length-map t.entries (λ (e : Entry). var_of e.lit))
