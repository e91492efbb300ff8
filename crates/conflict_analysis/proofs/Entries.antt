-- Entries of a trail: where they stand, their literals and their reasons.
use Rattle.std.proofs.lemmas.List.Elements.{All-contains}
use Rattle.std.proofs.Common.{All, get_or, ◌≡◌, ◌≢◌, ◌⊎◌, ◌<◌, ◌∙◌, ◌+◌, ◌*◌, ◌%◌, ◌/◌, if◌then◌else◌, ℕ, zero, suc, Bool, true, false, List, [], ◌∷◌, Contains, Option, Some, None, length, map, take, option_map, slice_get, refl, sym, ap, subst, inl, inr, arith}
use Rattle.std.proofs.lemmas.Bool.{both_ways, cases_eq, eq-eqb, ne_eqb, eqb-true, eqb-false}
use Rattle.std.proofs.lemmas.Option.{slice_get-map, get_or_from_slice_get, same_Some}
use Rattle.currency_base.specs.Lists.{OnlyOnce}
use Rattle.currency_base.specs.Literals.{var_of, is_negative, negation}
use Rattle.currency_base.specs.declared.lit.Lit.{Lit}
use Rattle.search_trail.specs.Trails.{Entry, reason_in}
use Rattle.watch_propagate.specs.WatchRule.{AreReasons, lits_before}
use Rattle.clause_arena.specs.Arenas.{Arena}
use Rattle.conflict_analysis.specs.Steps.{AreSeen, HasSeen, reason_of}
use Rattle.conflict_analysis.proofs.Members.{contains_at, place_in}

-- ---- literals

abbrev flipped : ℕ → Bool → Lit
flipped var negative = if negative then record { 0 = 2 * var } else record { 0 = 2 * var + 1 }

flipped_var : (var : ℕ) (negative : Bool) → var_of (flipped var negative) ≡ var
flipped_var var true = omega arith
flipped_var var false = omega arith

flipped_sign : (var : ℕ) (negative : Bool) → is_negative (flipped var negative) ≡ (if negative then false else true)
flipped_sign var true = ne_eqb (2 * var % 2) 1 (λ e. omega (arith, e))
flipped_sign var false = eq-eqb ((2 * var + 1) % 2) 1 (omega arith)

pub negation_var : (lit : Lit) → var_of (negation lit) ≡ var_of lit
negation_var lit = flipped_var (var_of lit) (is_negative lit)

pub negation_twice : (lit : Lit) → negation (negation lit) ≡ lit
negation_twice lit = by (is_negative lit) refl
  where
    again : (b : Bool) → is_negative lit ≡ b → flipped (var_of lit) (if b then false else true) ≡ lit
    again true is = let odd : lit.0 % 2 ≡ 1 = eqb-true _ _ is in let n : 2 * (lit.0 / 2) + 1 ≡ lit.0 =
        omega (arith, odd) in ap (λ (m : ℕ). record { 0 = m }) n
    again false is = let even : lit.0 % 2 ≡ 1 → ⊥ = eqb-false _ _ is in let n : 2 * (lit.0 / 2) ≡ lit.0 =
        omega (arith, even) in ap (λ (m : ℕ). record { 0 = m }) n

    by : (b : Bool) → is_negative lit ≡ b → negation (negation lit) ≡ lit
    by b is =
        ap (λ (v : ℕ). flipped v (is_negative (negation lit))) (negation_var lit)
        ∙ ap (λ (c : Bool). flipped (var_of lit) c) (flipped_sign (var_of lit) (is_negative lit)
        ∙ ap (λ (c : Bool). if c then false else true) is)
        ∙ again b is

pub negation_differs : (lit : Lit) → negation lit ≡ lit → ⊥
negation_differs lit same = by (is_negative lit) refl
  where
    by : (b : Bool) → is_negative lit ≡ b → ⊥
    by true is =
        let other : is_negative (negation lit) ≡ false = flipped_sign (var_of lit) (is_negative lit)
        ∙ ap (λ (c : Bool). if c then false else true) is in
        let this : is_negative (negation lit) ≡ true = ap is_negative same ∙ is in
        both_ways (is_negative (negation lit)) other this
    by false is =
        let other : is_negative (negation lit) ≡ true = flipped_sign (var_of lit) (is_negative lit)
        ∙ ap (λ (c : Bool). if c then false else true) is in
        let this : is_negative (negation lit) ≡ false = ap is_negative same ∙ is in
        both_ways (is_negative (negation lit)) this other

-- ---- places

pub get_take : {A : Type 0} (n i : ℕ) (xs : List A) (x : A) → slice_get (take n xs) i ≡ Some x →
    (i < n) × (slice_get xs i ≡ Some x)
get_take zero i xs x is = absurd (cc)
get_take (suc n) i [] x is = absurd (cc)
get_take (suc n) zero (y ∷ ys) x is = (omega arith, is)
get_take (suc n) (suc i) (y ∷ ys) x is = let more = get_take n i ys x is in (omega (arith, more.0), more.1)

pub take_get : {A : Type 0} (n i : ℕ) (xs : List A) (x : A) → i < n → slice_get xs i ≡ Some x → slice_get (take n xs) i ≡ Some x
take_get zero i xs x less is = absurd (omega (arith, less))
take_get (suc n) i [] x less is = absurd (cc)
take_get (suc n) zero (y ∷ ys) x less is = is
take_get (suc n) (suc i) (y ∷ ys) x less is = take_get n i ys x (omega (arith, less)) is

-- an item of a mapped list is that of an item
pub mapped : {A B : Type 0} (f : A → B) (xs : List A) (i : ℕ) (y : B) → slice_get (map f xs) i ≡ Some y →
    (x : A) × (slice_get xs i ≡ Some x) × (f x ≡ y)
mapped {A} {B} f xs i y is = by (slice_get xs i) refl
  where
    by : (o : Option A) → slice_get xs i ≡ o → (x : A) × (slice_get xs i ≡ Some x) × (f x ≡ y)
    by (Some x) at = let there : slice_get (map f xs) i ≡ Some (f x) = slice_get-map f xs i
        ∙ ap (λ o. option_map f o) at in (x, at, cc)
    by None at = let there : slice_get (map f xs) i ≡ None = slice_get-map f xs i ∙ ap (λ o. option_map f o) at in absurd (cc)

pub map_at : {A B : Type 0} (f : A → B) (xs : List A) (i : ℕ) (x : A) → slice_get xs i ≡ Some x
    → slice_get (map f xs) i ≡ Some (f x)
map_at f xs i x is = slice_get-map f xs i ∙ ap (λ o. option_map f o) is

pub entry_there : (es : List Entry) (place : ℕ) → place < length es → (e : Entry) × (slice_get es place ≡ Some e)
entry_there [] place within = absurd (omega (arith, within))
entry_there (e ∷ es) zero within = (e, refl)
entry_there (e ∷ es) (suc place) within = entry_there es place (omega (arith, within))

-- ---- entries of different variables

abbrev pub VarsOnce : List Entry → Type 0
VarsOnce es = OnlyOnce (map (λ (e : Entry). var_of e.lit) es)

pub same_place : (es : List Entry) → VarsOnce es → (i j : ℕ) (d e : Entry) → slice_get es i ≡ Some d
    → slice_get es j ≡ Some e → var_of d.lit ≡ var_of e.lit → i ≡ j
same_place es once i j d e at_i at_j same =
    once i j (var_of e.lit) (map_at (λ (e : Entry). var_of e.lit) es i d at_i ∙ ap (λ v. Some v) same)
    (map_at (λ (e : Entry). var_of e.lit) es j e at_j)

-- ---- reasons

pub reason_found : (es : List Entry) → VarsOnce es → (place : ℕ) (e : Entry) → slice_get es place ≡ Some e
    → reason_in es (var_of e.lit) ≡ e.reason
reason_found [] once place e at = absurd (cc)
reason_found (x ∷ xs) once zero e at = first (same at)
  where
    same : Some x ≡ Some e → x ≡ e
    same is = cc

    first : x ≡ e → reason_in (x ∷ xs) (var_of e.lit) ≡ e.reason
    first is = rw (eq-eqb (var_of x.lit) (var_of e.lit) (ap (λ (d : Entry). var_of d.lit) is)) (ap (λ (d : Entry). d.reason) is)
reason_found (x ∷ xs) once (suc place) e at =
    rw (ne_eqb (var_of x.lit) (var_of e.lit) apart) (reason_found xs later place e at)
  where
    later : VarsOnce xs
    later i j v a b = let same : suc i ≡ suc j = once (suc i) (suc j) v a b in omega (arith, same)

    apart : var_of x.lit ≡ var_of e.lit → ⊥
    apart is = let same : zero ≡ suc place = same_place (x ∷ xs) once zero (suc place) x e refl at is in omega (arith, same)

pub reason_here : (es : List Entry) (place : ℕ) (e : Entry) → slice_get es place ≡ Some e → reason_of es place ≡ e.reason
reason_here es place e at = rw at refl

-- a literal before a place is that of an earlier entry
pub before : (es : List Entry) (place : ℕ) (l : Lit) → Contains (lits_before es place) l → (q : ℕ) × (q < place) ×
    (d : Entry) × (slice_get es q ≡ Some d) × (d.lit ≡ l)
before es place l there =
    let at = place_in (lits_before es place) l there in
    let entry = mapped (λ (e : Entry). e.lit) (take place es) at.0 l at.1 in
    let taken = get_take place at.0 es entry.0 entry.1 in
    (at.0, taken.0, entry.0, taken.1, entry.2)

-- the reason of an entry has only variables of entries up to it
pub lits_below : (a : Arena) (es : List Entry) → VarsOnce es → AreReasons a es → (seen : List Bool) (below place : ℕ)
    (e : Entry) (clause : ℕ)
    → slice_get es place ≡ Some e → e.reason ≡ Some clause → place < below → (lits : List Lit) → slice_get a.clauses
    clause ≡ Some lits → AreSeen es seen below lits
lits_below a es once reasons seen below place e clause at is less lits is_clause o there q d at_q var =
    inr (by (cases_eq q place))
  where
    by : (q ≡ place) ⊎ (q ≡ place → ⊥) → q < below
    by (inl same) = omega (arith, same, less)
    by (inr differs) =
        let r = reasons place e clause at is in
        let other : o ≢ e.lit = λ same. differs (same_place es once q place d e at_q at (var ∙ ap var_of same)) in
        let there' = subst (λ ls. Contains ls o) (same_Some _ _ (sym is_clause ∙ r.is_clause)) there in
        let b = before es place (negation o) (r.is_reason.others o there' other) in
        let same : q ≡ b.0 = same_place es once q b.0 d b.2 at_q b.3 (var ∙ sym (negation_var o) ∙ ap var_of (sym b.4)) in
        omega (arith, same, b.1, less)

pub reason_seen : (a : Arena) (es : List Entry) → VarsOnce es → AreReasons a es → (seen : List Bool)
    (below place : ℕ) (e : Entry) (clause : ℕ)
    → slice_get es place ≡ Some e → e.reason ≡ Some clause → place < below → HasSeen a es seen below place
reason_seen a es once reasons seen below place e clause at is less =
    let r = reasons place e clause at is in
    record {
      entry = e;
      is_entry = at;
      clause = clause;
      is_reason = is;
      lits = r.lits;
      is_clause = r.is_clause;
      are_seen = lits_below a es once reasons seen below place e clause at is less r.lits r.is_clause;
    }

-- ---- what is read at a place

pub lit_read : (es : List Entry) (place : ℕ) (e : Entry) (d : Lit) → slice_get es place ≡ Some e
    → get_or (map (λ (e : Entry). e.lit) es) place d ≡ e.lit
lit_read es place e d at = get_or_from_slice_get (map (λ (e : Entry). e.lit) es) place e.lit d
    (map_at (λ (e : Entry). e.lit) es place e at)

pub var_within : (es : List Entry) (vars place : ℕ) (d : Lit) → All (λ (e : Entry). var_of e.lit < vars) es → place < length es
    → var_of (get_or (map (λ (e : Entry). e.lit) es) place d) < vars
var_within es vars place d all within =
    let e = entry_there es place within in
    subst (λ (l : Lit). var_of l < vars) (sym (lit_read es place e.0 d e.1))
    (All-contains (λ (e : Entry). var_of e.lit < vars) es e.0 all (contains_at es place e.0 e.1))

pub reason_read : (es : List Entry) (place : ℕ) (d : Lit) → VarsOnce es → place < length es
    → reason_in es (var_of (get_or (map (λ (e : Entry). e.lit) es) place d)) ≡ reason_of es place
reason_read es place d once within =
    let e = entry_there es place within in
    ap (λ (l : Lit). reason_in es (var_of l)) (lit_read es place e.0 d e.1) ∙ reason_found es once place e.0 e.1
    ∙ sym (reason_here es place e.0 e.1)
