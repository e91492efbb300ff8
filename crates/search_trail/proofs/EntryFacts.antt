-- Entries that are made of literals and the reasons of their variables.
use Rattle.std.proofs.Common.{◌≡◌, ◌⊎◌, ◌<◌, ◌∙◌, ℕ, zero, suc, Bool, List, [], ◌∷◌, ◌++◌, Option, Some, None, All, length, map, take, slice_get, slice_set, slice_index_or, option_map, refl, sym, ap, subst, inl, inr}
use Rattle.std.proofs.lemmas.Bool.{cases_eq, ne_eqb, eq-eqb}
use Rattle.std.proofs.lemmas.List.{get_or-set_other, get_or-set_same}
use Rattle.std.proofs.lemmas.List.Elements.{All-nil, All-cons, All-head, All-tail}
use Rattle.std.proofs.lemmas.Option.{slice_get-map}
use Rattle.currency_base.specs.Lists.{OnlyOnce}
use Rattle.currency_base.specs.Literals.{var_of}
use Rattle.currency_base.specs.declared.lit.Lit.{Lit}
use Rattle.search_trail.specs.Trails.{Entry, value_in, reason_in, with_reason}
use Rattle.search_trail.specs.Kept.{Once, entries_of, reason_at}
use Rattle.search_trail.proofs.LitFacts.{none_here, none_past, same_place}

-- the entry of a literal
abbrev pub entry_of : List ℕ → Lit → Entry
entry_of reasons lit = record { lit = lit; reason = reason_at (slice_index_or reasons (var_of lit) 4294967295) }

pub lits_of_entries : (reasons : List ℕ) (lits : List Lit) → map (λ (e : Entry). e.lit) (entries_of reasons lits) ≡ lits
lits_of_entries reasons [] = refl
lits_of_entries reasons (x ∷ xs) = ap (λ (ls : List Lit). x ∷ ls) (lits_of_entries reasons xs)

pub as_many : (reasons : List ℕ) (lits : List Lit) → length (entries_of reasons lits) ≡ length lits
as_many reasons [] = refl
as_many reasons (x ∷ xs) = ap suc (as_many reasons xs)

-- the reason of another variable makes no difference
pub entries_set : (reasons : List ℕ) (var n : ℕ) (lits : List Lit) → value_in lits var ≡ None → entries_of
    (slice_set reasons var n) lits ≡ entries_of reasons lits
entries_set reasons var n [] none = refl
entries_set reasons var n (x ∷ xs) none =
    let same : slice_index_or (slice_set reasons var n) (var_of x) 4294967295 ≡ slice_index_or reasons (var_of x) 4294967295 =
    get_or-set_other reasons var (var_of x) n 4294967295 (none_here x xs var none) in
    let more : entries_of (slice_set reasons var n) xs ≡ entries_of reasons xs = entries_set reasons var n xs
    (none_past x xs var none) in
    rw (same, more) refl

pub entries_push : (reasons : List ℕ) (lits : List Lit) (lit : Lit) → entries_of reasons (lits ++ lit ∷ []) ≡
    entries_of reasons lits ++ entry_of reasons lit ∷ []
entries_push reasons [] lit = refl
entries_push reasons (x ∷ xs) lit = ap (λ (es : List Entry). entry_of reasons x ∷ es) (entries_push reasons xs lit)

pub entries_take : (reasons : List ℕ) (n : ℕ) (lits : List Lit) → entries_of reasons (take n lits) ≡ take n
    (entries_of reasons lits)
entries_take reasons zero lits = refl
entries_take reasons (suc n) [] = refl
entries_take reasons (suc n) (x ∷ xs) = ap (λ (es : List Entry). entry_of reasons x ∷ es) (entries_take reasons n xs)

-- one more entry, with a reason of its own
pub entries_more : (reasons : List ℕ) (lits : List Lit) (lit : Lit) (n : ℕ) (reason : Option ℕ) → value_in lits
    (var_of lit) ≡ None → var_of lit < length reasons
    → reason_at n ≡ reason
    → entries_of (slice_set reasons (var_of lit) n) (lits ++ lit ∷ []) ≡ entries_of reasons lits
    ++ record { lit = lit; reason = reason } ∷ []
entries_more reasons lits lit n reason fresh h is =
    let there : slice_index_or (slice_set reasons (var_of lit) n) (var_of lit) 4294967295 ≡ n = get_or-set_same
    reasons (var_of lit) n 4294967295 h in
    let last : entry_of (slice_set reasons (var_of lit) n) lit ≡ record { lit = lit; reason = reason } =
    ap (λ (r : Option ℕ). record { lit = lit; reason = r }) (ap reason_at there ∙ is) in
    entries_push (slice_set reasons (var_of lit) n) lits lit
    ∙ ap (λ (e : Entry). entries_of (slice_set reasons (var_of lit) n) lits ++ e ∷ []) last
    ∙ ap (λ (es : List Entry). es ++ record { lit = lit; reason = reason } ∷ []) (entries_set reasons (var_of lit) n lits fresh)

-- another reason for the literal of a variable
pub entries_rebased : (reasons : List ℕ) (lits : List Lit) (var n : ℕ) → var < length reasons → reason_at n ≡ Some n
    → entries_of (slice_set reasons var n) lits ≡ map (with_reason var n) (entries_of reasons lits)
entries_rebased reasons [] var n within is = refl
entries_rebased reasons (x ∷ xs) var n within is =
    ap (λ (e : Entry). e ∷ entries_of (slice_set reasons var n) xs) (here (cases_eq (var_of x) var))
    ∙ ap (λ (es : List Entry). with_reason var n (entry_of reasons x) ∷ es) (entries_rebased reasons xs var n within is)
  where
    here : (var_of x ≡ var) ⊎ (var_of x ≡ var → ⊥) → entry_of (slice_set reasons var n) x ≡ with_reason var n (entry_of reasons x)
    here (inl e) =
        let read : slice_index_or (slice_set reasons var n) (var_of x) 4294967295 ≡ n =
        ap (λ (v : ℕ). slice_index_or (slice_set reasons var n) v 4294967295) e
        ∙ get_or-set_same reasons var n 4294967295 within in
        let now : entry_of (slice_set reasons var n) x ≡ record { lit = x; reason = Some n } =
        ap (λ (r : Option ℕ). let d : Entry = record { lit = x; reason = r } in d) (ap reason_at read ∙ is) in
        let other : with_reason var n (entry_of reasons x) ≡ record { lit = x; reason = Some n } =
        rw (eq-eqb (var_of x) var e) refl in
        now ∙ sym other
    here (inr d) =
        let read : slice_index_or (slice_set reasons var n) (var_of x) 4294967295 ≡ slice_index_or reasons (var_of x) 4294967295 =
        get_or-set_other reasons var (var_of x) n 4294967295 d in
        let now : entry_of (slice_set reasons var n) x ≡ entry_of reasons x =
        ap (λ (m : ℕ). let e : Entry = record { lit = x; reason = reason_at m } in e) read in
        let other : with_reason var n (entry_of reasons x) ≡ entry_of reasons x = rw (ne_eqb (var_of x) var d) refl in
        now ∙ sym other

-- the literal at a place is that of the entry there
pub lit_at : (reasons : List ℕ) (lits : List Lit) (place : ℕ) (e : Entry) → slice_get (entries_of reasons lits)
    place ≡ Some e → slice_get lits place ≡ Some e.lit
lit_at reasons [] place e is = absurd (cc)
lit_at reasons (x ∷ xs) zero e is = go is
  where
    go : Some (entry_of reasons x) ≡ Some e → Some x ≡ Some e.lit
    go is = let same : entry_of reasons x ≡ e = cc in ap (λ (d : Entry). Some d.lit) same
lit_at reasons (x ∷ xs) (suc place) e is = lit_at reasons xs place e is

-- and so is its reason
pub reason_of_entry : (reasons : List ℕ) (lits : List Lit) (place : ℕ) (e : Entry)
    → slice_get (entries_of reasons lits) place ≡ Some e
    → e.reason ≡ reason_at (slice_index_or reasons (var_of e.lit) 4294967295)
reason_of_entry reasons [] place e is = absurd (cc)
reason_of_entry reasons (x ∷ xs) zero e is = go is
  where
    go : Some (entry_of reasons x) ≡ Some e → e.reason ≡ reason_at (slice_index_or reasons (var_of e.lit) 4294967295)
    go is = let same : entry_of reasons x ≡ e = cc in subst
        (λ (d : Entry). d.reason ≡ reason_at (slice_index_or reasons (var_of d.lit) 4294967295)) same refl
reason_of_entry reasons (x ∷ xs) (suc place) e is = reason_of_entry reasons xs place e is

-- the entry at a place is that of the literal there
pub entry_at : (reasons : List ℕ) (lits : List Lit) (place : ℕ) (l : Lit) → slice_get lits place ≡ Some l
    → slice_get (entries_of reasons lits) place ≡ Some (entry_of reasons l)
entry_at reasons [] place l is = absurd (cc)
entry_at reasons (x ∷ xs) zero l is = go is
  where
    go : Some x ≡ Some l → Some (entry_of reasons x) ≡ Some (entry_of reasons l)
    go is = let same : x ≡ l = cc in ap (λ (m : Lit). Some (entry_of reasons m)) same
entry_at reasons (x ∷ xs) (suc place) l is = entry_at reasons xs place l is

-- the number of no reason is the greatest
pub no_reason : (n : ℕ) → reason_at n ≡ None → n ≡ 4294967295
no_reason n none = go (cases_eq n 4294967295)
  where
    go : (n ≡ 4294967295) ⊎ (n ≡ 4294967295 → ⊥) → n ≡ 4294967295
    go (inl e) = e
    go (inr d) = let some : reason_at n ≡ Some n = rw (ne_eqb n 4294967295 d) refl in absurd (cc)

-- the reason of a variable that has a value, and of one that has none
pub reason_there : (reasons : List ℕ) (lits : List Lit) (var : ℕ) (b : Bool) → value_in lits var ≡ Some b
    → reason_in (entries_of reasons lits) var ≡ reason_at (slice_index_or reasons var 4294967295)
reason_there reasons [] var b some = absurd (cc)
reason_there reasons (x ∷ xs) var b some = go (λ h. reason_there reasons xs var b h) (cases_eq (var_of x) var)
  where
    go : (value_in xs var ≡ Some b → reason_in (entries_of reasons xs) var ≡ reason_at (slice_index_or reasons var 4294967295))
        → (var_of x ≡ var) ⊎ (var_of x ≡ var → ⊥) → reason_in (entries_of reasons (x ∷ xs)) var ≡ reason_at
        (slice_index_or reasons var 4294967295)
    go more (inl e) = rw (eq-eqb (var_of x) var e) (ap (λ (v : ℕ). reason_at (slice_index_or reasons v 4294967295)) e)
    go more (inr d) = rw (ne_eqb (var_of x) var d) (more (rw (ne_eqb (var_of x) var d) at some))

pub reason_none : (reasons : List ℕ) (lits : List Lit) (var : ℕ) → value_in lits var ≡ None
    → reason_in (entries_of reasons lits) var ≡ None
reason_none reasons [] var none = refl
reason_none reasons (x ∷ xs) var none = rw (ne_eqb (var_of x) var (none_here x xs var none))
    (reason_none reasons xs var (none_past x xs var none))

-- what is known of literals is known of entries
pub all_within : (reasons : List ℕ) (n : ℕ) (lits : List Lit) → All (λ lit. var_of lit < n) lits
    → All (λ (e : Entry). var_of e.lit < n) (entries_of reasons lits)
all_within reasons n [] all = All-nil (λ (e : Entry). var_of e.lit < n)
all_within reasons n (x ∷ xs) all =
    All-cons (λ (e : Entry). var_of e.lit < n) (entry_of reasons x) (entries_of reasons xs)
    (All-head (λ lit. var_of lit < n) x xs all)
    (all_within reasons n xs (All-tail (λ lit. var_of lit < n) x xs all))

pub entries_once : (reasons : List ℕ) (lits : List Lit) → Once lits
    → OnlyOnce (map (λ (e : Entry). var_of e.lit) (entries_of reasons lits))
entries_once reasons lits once i j x a b =
    let first = stands i x a in
    let second = stands j x b in
    same_place lits i j first.0 second.0 once first.1 second.1 (first.2 ∙ sym second.2)
  where
    stands : (k v : ℕ) → slice_get (map (λ (e : Entry). var_of e.lit) (entries_of reasons lits)) k ≡ Some v →
        (l : Lit) × (slice_get lits k ≡ Some l) × (var_of l ≡ v)
    stands k v is = by (slice_get (entries_of reasons lits) k) refl
      where
        by : (o : Option Entry) → slice_get (entries_of reasons lits) k ≡ o → (l : Lit) × (slice_get lits k ≡ Some l)
            × (var_of l ≡ v)
        by (Some e) at =
            let there : slice_get (map (λ (e : Entry). var_of e.lit) (entries_of reasons lits)) k ≡ Some (var_of e.lit) =
            slice_get-map (λ (e : Entry). var_of e.lit) (entries_of reasons lits) k
            ∙ ap (λ (o : Option Entry). option_map (λ (e : Entry). var_of e.lit) o) at in
            (e.lit, lit_at reasons lits k e at, cc)
        by None at =
            let there : slice_get (map (λ (e : Entry). var_of e.lit) (entries_of reasons lits)) k ≡ None =
            slice_get-map (λ (e : Entry). var_of e.lit) (entries_of reasons lits) k
            ∙ ap (λ (o : Option Entry). option_map (λ (e : Entry). var_of e.lit) o) at in
            absurd (cc)
