-- Literals that are true: what the value of a variable tells of them, and that none is beside its negation.
use Rattle.std.proofs.Common.{◌≡◌, ◌⊎◌, ◌+◌, ◌*◌, ◌%◌, ◌<◌, ℕ, zero, suc, Bool, true, false, not, if◌then◌else◌, List, [], ◌∷◌, Option, Some, None, Contains, map, slice_get, option_map, refl, sym, ap, ◌∙◌, inl, inr, arith}
use Rattle.std.proofs.lemmas.Bool.{cases_eq, eqb-true, eqb-false, eq-eqb, ne_eqb, false≢true}
use Rattle.std.proofs.lemmas.Option.{same_Some, none-some, slice_get-map, slice_get-get_or, slice_get_within, get_or_from_slice_get}
use Rattle.currency_base.specs.Literals.{var_of, is_negative, negation}
use Rattle.currency_base.specs.declared.lit.Lit.{Lit}
use Rattle.clause_arena.specs.Arenas.{place_of}
use Rattle.search_trail.specs.Trails.{AreEntries, Entry, Trail, lits_of, value_in}

-- ---- members of a list

pub contains_at : {A : Type 0} (xs : List A) (k : ℕ) (x : A) → slice_get xs k ≡ Some x → Contains xs x
contains_at xs k x is = (k, slice_get_within xs k x is, get_or_from_slice_get xs k x x is)

pub place_in : {A : Type 0} (xs : List A) (x : A) → Contains xs x → (k : ℕ) × (slice_get xs k ≡ Some x)
place_in xs x c = (c.0, slice_get-get_or xs c.0 x c.1 ∙ ap Some c.2)

-- ---- literals and their negations

-- a literal is its variable and its sign
pub lit_is : (a b : Lit) → var_of a ≡ var_of b → is_negative a ≡ is_negative b → a ≡ b
lit_is a b var sign = by (is_negative a) refl
  where
    numbered : a.0 ≡ b.0 → a ≡ b
    numbered e = ap (λ (n : ℕ). let x : Lit = record { 0 = n } in x) e

    by : (negative : Bool) → is_negative a ≡ negative → a ≡ b
    by true e =
        let odd = eqb-true (a.0 % 2) 1 e in
        let odd' = eqb-true (b.0 % 2) 1 (sym sign ∙ e) in
        numbered (omega arith)
    by false e =
        let even = eqb-false (a.0 % 2) 1 e in
        let even' = eqb-false (b.0 % 2) 1 (sym sign ∙ e) in
        numbered (omega arith)

abbrev flipped : ℕ → Bool → Lit
flipped var negative = if negative then record { 0 = 2 * var } else record { 0 = 2 * var + 1 }

flipped_var : (var : ℕ) (negative : Bool) → var_of (flipped var negative) ≡ var
flipped_var var true = omega arith
flipped_var var false = omega arith

flipped_sign : (var : ℕ) (negative : Bool) → is_negative (flipped var negative) ≡ not negative
flipped_sign var true = ne_eqb (2 * var % 2) 1 (λ e. omega (arith, e))
flipped_sign var false = eq-eqb ((2 * var + 1) % 2) 1 (omega arith)

pub negation_var : (lit : Lit) → var_of (negation lit) ≡ var_of lit
negation_var lit = flipped_var (var_of lit) (is_negative lit)

pub negation_sign : (lit : Lit) → is_negative (negation lit) ≡ not (is_negative lit)
negation_sign lit = flipped_sign (var_of lit) (is_negative lit)

not_not : (b : Bool) → not (not b) ≡ b
not_not true = refl
not_not false = refl

pub negation_twice : (lit : Lit) → negation (negation lit) ≡ lit
negation_twice lit =
    lit_is (negation (negation lit)) lit (negation_var (negation lit) ∙ negation_var lit)
    (negation_sign (negation lit) ∙ ap not (negation_sign lit) ∙ not_not (is_negative lit))

pub same_negation : (a b : Lit) → negation a ≡ negation b → a ≡ b
same_negation a b e = sym (negation_twice a) ∙ ap negation e ∙ negation_twice b

not_itself : (b : Bool) → not b ≡ b → ⊥
not_itself true e = false≢true e
not_itself false e = false≢true (sym e)

pub negation_differs : (lit : Lit) → negation lit ≡ lit → ⊥
negation_differs lit e = not_itself (is_negative lit) (sym (negation_sign lit) ∙ ap is_negative e)

place_var : (var : ℕ) (negative : Bool) (n : ℕ) → 2 * var + (if negative then 1 else 0) < 2 * n → var < n
place_var var true n h = omega arith
place_var var false n h = omega arith

-- a literal whose place is among twice so many is of one of so many variables
pub var_within : (lit : Lit) (n : ℕ) → place_of lit < 2 * n → var_of lit < n
var_within lit n h = place_var (var_of lit) (is_negative lit) n h

place_below : (var : ℕ) (negative : Bool) (n : ℕ) → var < n → 2 * var + (if negative then 1 else 0) < 2 * n
place_below var true n h = omega arith
place_below var false n h = omega arith

pub place_within : (lit : Lit) (n : ℕ) → var_of lit < n → place_of lit < 2 * n
place_within lit n h = place_below (var_of lit) (is_negative lit) n h

-- a literal's place is its own
place_parts : (var var' : ℕ) (negative negative' : Bool) → 2 * var + (if negative then 1 else 0) ≡ 2 * var' +
    (if negative' then 1 else 0)
    → (var ≡ var') × (negative ≡ negative')
place_parts var var' true true e = (omega arith, refl)
place_parts var var' true false e = absurd (omega arith)
place_parts var var' false true e = absurd (omega arith)
place_parts var var' false false e = (omega arith, refl)

pub same_lit_place : (a b : Lit) → place_of a ≡ place_of b → a ≡ b
same_lit_place a b e = let parts = place_parts (var_of a) (var_of b) (is_negative a) (is_negative b) e in lit_is a b
    parts.0 parts.1

-- ---- values

-- a value stands for a literal that is true
pub value_some : (lits : List Lit) (var : ℕ) (b : Bool) → value_in lits var ≡ Some b → (k : ℕ) × (x : Lit) ×
    (slice_get lits k ≡ Some x) × (var_of x ≡ var) × (not (is_negative x) ≡ b)
value_some [] var b is = absurd (cc)
value_some (x ∷ xs) var b is = go (λ h. value_some xs var b h) (cases_eq (var_of x) var)
  where
    go : (value_in xs var ≡ Some b → (k : ℕ) × (y : Lit) × (slice_get xs k ≡ Some y) × (var_of y ≡ var) ×
        (not (is_negative y) ≡ b))
        → (var_of x ≡ var) ⊎ (var_of x ≡ var → ⊥)
        → (k : ℕ) × (y : Lit) × (slice_get (x ∷ xs) k ≡ Some y) × (var_of y ≡ var) × (not (is_negative y) ≡ b)
    go more (inl e) =
        let here : Some (not (is_negative x)) ≡ Some b = rw (eq-eqb (var_of x) var e) at is in
        (zero, x, refl, e, same_Some (not (is_negative x)) b here)
    go more (inr d) =
        let later = more (rw (ne_eqb (var_of x) var d) at is) in
        (suc later.0, later.1, later.2, later.3, later.4)

none_here : (x : Lit) (xs : List Lit) (var : ℕ) → value_in (x ∷ xs) var ≡ None → var_of x ≡ var → ⊥
none_here x xs var none e =
    let here : Some (not (is_negative x)) ≡ None = rw (eq-eqb (var_of x) var e) at none in
    absurd (cc)

none_past : (x : Lit) (xs : List Lit) (var : ℕ) → value_in (x ∷ xs) var ≡ None → value_in xs var ≡ None
none_past x xs var none = rw (ne_eqb (var_of x) var (none_here x xs var none)) at none

-- and where there is none, no literal of the variable is true
pub value_none : (lits : List Lit) (var k : ℕ) (x : Lit) → value_in lits var ≡ None → slice_get lits k ≡ Some x
    → var_of x ≡ var → ⊥
value_none [] var k x none at e = absurd (cc)
value_none (y ∷ ys) var zero x none at e = none_here y ys var none (ap var_of (same_Some y x at) ∙ e)
value_none (y ∷ ys) var (suc k) x none at e = value_none ys var k x (none_past y ys var none) at e

-- the literal is true, or false, or neither
pub value_true : (lits : List Lit) (lit : Lit) (b : Bool) → value_in lits (var_of lit) ≡ Some b
    → not (is_negative lit) ≡ b → Contains lits lit
value_true lits lit b is sign =
    let v = value_some lits (var_of lit) b is in
    let same = lit_is v.1 lit v.3 (sym (not_not (is_negative v.1)) ∙ ap not (v.4 ∙ sym sign) ∙ not_not (is_negative lit)) in
    contains_at lits v.0 lit (v.2 ∙ ap Some same)

pub value_false : (lits : List Lit) (lit : Lit) (b : Bool) → value_in lits (var_of lit) ≡ Some b
    → is_negative lit ≡ b → Contains lits (negation lit)
value_false lits lit b is sign =
    value_true lits (negation lit) b (ap (value_in lits) (negation_var lit) ∙ is)
    (ap not (negation_sign lit) ∙ not_not (is_negative lit) ∙ sign)

pub value_open : (lits : List Lit) (lit x : Lit) → value_in lits (var_of lit) ≡ None → var_of x ≡ var_of lit → Contains lits x → ⊥
value_open lits lit x none same c = let at = place_in lits x c in value_none lits (var_of lit) at.0 x none at.1 same

-- ---- the literals of a trail

-- the literal of an entry is of one of the variables
pub lit_vars : (t : Trail) (k : ℕ) (x : Lit) → slice_get (lits_of t) k ≡ Some x
    → slice_get (map (λ (e : Entry). var_of e.lit) t.entries) k ≡ Some (var_of x)
lit_vars t k x is = by (slice_get t.entries k) refl
  where
    at : slice_get (lits_of t) k ≡ option_map (λ (e : Entry). e.lit) (slice_get t.entries k)
    at = slice_get-map (λ (e : Entry). e.lit) t.entries k

    at_var : slice_get (map (λ (e : Entry). var_of e.lit) t.entries) k ≡ option_map (λ (e : Entry). var_of e.lit)
        (slice_get t.entries k)
    at_var = slice_get-map (λ (e : Entry). var_of e.lit) t.entries k

    by : (o : Option Entry) → slice_get t.entries k ≡ o → slice_get (map (λ (e : Entry). var_of e.lit) t.entries) k ≡
        Some (var_of x)
    by None none =
        let there : slice_get (lits_of t) k ≡ None = at ∙ ap (option_map (λ (e : Entry). e.lit)) none in
        absurd (none-some x (sym there ∙ is))
    by (Some e) some =
        let there : slice_get (lits_of t) k ≡ Some e.lit = at ∙ ap (option_map (λ (e : Entry). e.lit)) some in
        let same : e.lit ≡ x = same_Some e.lit x (sym there ∙ is) in
        at_var ∙ ap (option_map (λ (e : Entry). var_of e.lit)) some ∙ ap (λ (l : Lit). Some (var_of l)) same

-- no literal is true beside its negation
pub never_both : (t : Trail) → AreEntries t → (lit : Lit) → Contains (lits_of t) lit → Contains (lits_of t) (negation lit) → ⊥
never_both t are lit c n =
    let at = place_in (lits_of t) lit c in
    let at' = place_in (lits_of t) (negation lit) n in
    let there : slice_get (map (λ (e : Entry). var_of e.lit) t.entries) at'.0 ≡ Some (var_of lit) = lit_vars t at'.0
    (negation lit) at'.1 ∙ ap Some (negation_var lit) in
    let same : at.0 ≡ at'.0 = are.once at.0 at'.0 (var_of lit) (lit_vars t at.0 lit at.1) there in
    negation_differs lit (same_Some (negation lit) lit (sym at'.1 ∙ ap (slice_get (lits_of t)) (sym same) ∙ at.1))
