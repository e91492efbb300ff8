-- Literals that are written from places: those there, none twice.
use Rattle.std.proofs.Common.{◌≡◌, ◌⊎◌, ◌<◌, ◌∙◌, All, not, eqb, ℕ, zero, suc, Bool, true, false, get_or, List, [], ◌∷◌, Contains, Some, length, map, take, slice_get, refl, sym, ap, subst, inl, inr, arith}
use Rattle.std.specs.List.{filter}
use Rattle.std.proofs.lemmas.Bool.{cond_both, eq-eqb, ne_eqb, not-true, not_from_false}
use Rattle.std.proofs.lemmas.List.Elements.{Contains-append_left, Contains-append_right, Contains-get_or, Contains-push}
use Rattle.std.proofs.lemmas.Option.{same_Some}
use Rattle.currency_base.specs.Lists.{OnlyOnce}
use Rattle.currency_base.specs.Literals.{var_of, negation}
use Rattle.currency_base.specs.declared.lit.Lit.{Lit}
use Rattle.search_trail.specs.Trails.{AreEntries, Entry, Trail, lits_of}
use Rattle.conflict_analysis.specs.Steps.{lit_at, negated, without}
use Rattle.conflict_analysis.proofs.Entries.{entry_there, lit_read, map_at, mapped, negation_differs, negation_twice, negation_var, same_place}
use Rattle.conflict_analysis.proofs.Literals.{var_inside}
use Rattle.conflict_analysis.proofs.Members.{cons_cases, contains_at, in_none, place_in}

-- ---- lists

pub here_in : {A : Type 0} (x : A) (xs : List A) → Contains (x ∷ xs) x
here_in x xs = Contains-append_left (x ∷ []) xs x (Contains-push [] x)

pub later_in : {A : Type 0} (x : A) (xs : List A) (y : A) → Contains xs y → Contains (x ∷ xs) y
later_in x xs y there = Contains-append_right (x ∷ []) xs y there

pub once_cons : {A : Type 0} (x : A) (xs : List A) → OnlyOnce xs → (Contains xs x → ⊥) → OnlyOnce (x ∷ xs)
once_cons x xs once new zero zero y a b = refl
once_cons x xs once new zero (suc j) y a b =
    absurd (new (subst (λ z. Contains xs z) (sym (same_Some _ _ a)) (contains_at xs j y b)))
once_cons x xs once new (suc i) zero y a b =
    absurd (new (subst (λ z. Contains xs z) (sym (same_Some _ _ b)) (contains_at xs i y a)))
once_cons x xs once new (suc i) (suc j) y a b = ap suc (once i j y a b)

once_behind : {A : Type 0} (x : A) (xs : List A) → OnlyOnce (x ∷ xs) → OnlyOnce xs
once_behind x xs once i j y a b = let same : suc i ≡ suc j = once (suc i) (suc j) y a b in omega (arith, same)

first_apart : {A : Type 0} (x : A) (xs : List A) → OnlyOnce (x ∷ xs) → Contains xs x → ⊥
first_apart x xs once there =
    let at = place_in xs x there in
    let same : zero ≡ suc at.0 = once zero (suc at.0) x refl at.1 in
    omega (arith, same)

pub in_filter : (p : ℕ → Bool) (xs : List ℕ) (q : ℕ) → Contains (filter p xs) q → Contains xs q × (p q ≡ true)
in_filter p [] q there = absurd (in_none q there)
in_filter p (x ∷ xs) q there = by (λ h. in_filter p xs q h) (p x) refl
  where
    by : (Contains (filter p xs) q → Contains xs q × (p q ≡ true)) → (b : Bool) → p x ≡ b → Contains (x ∷ xs) q × (p q ≡ true)
    by more true is = which (cons_cases x (filter p xs) q (let same : filter p (x ∷ xs) ≡ x ∷ filter p xs =
        rw is refl in subst (λ ys. Contains ys q) same there))
      where
        which : (x ≡ q) ⊎ Contains (filter p xs) q → Contains (x ∷ xs) q × (p q ≡ true)
        which (inl same) = (subst (λ y. Contains (x ∷ xs) y) same (here_in x xs), ap p (sym same) ∙ is)
        which (inr later) = let m = more later in (later_in x xs q m.0, m.1)
    by more false is = let m = more (let same : filter p (x ∷ xs) ≡ filter p xs = rw is refl in subst
        (λ ys. Contains ys q) same there) in (later_in x xs q m.0, m.1)

pub filter_in : (p : ℕ → Bool) (xs : List ℕ) (q : ℕ) → Contains xs q → p q ≡ true → Contains (filter p xs) q
filter_in p [] q there is = absurd (in_none q there)
filter_in p (x ∷ xs) q there is = by (λ h. filter_in p xs q h is) (cons_cases x xs q there)
  where
    by : (Contains xs q → Contains (filter p xs) q) → (x ≡ q) ⊎ Contains xs q → Contains (filter p (x ∷ xs)) q
    by more (inl same) =
        let h : filter p (x ∷ xs) ≡ x ∷ filter p xs = rw (ap p same ∙ is) refl in
        subst (λ ys. Contains ys q) (sym h) (subst (λ y. Contains (x ∷ filter p xs) y) same (here_in x (filter p xs)))
    by more (inr later) =
        cond_both (p x) (x ∷ filter p xs) (filter p xs) (λ ys. Contains ys q)
        (λ h. later_in x (filter p xs) q (more later)) (λ h. more later)

pub filter_once : (p : ℕ → Bool) (xs : List ℕ) → OnlyOnce xs → OnlyOnce (filter p xs)
filter_once p [] once = once
filter_once p (x ∷ xs) once = by (filter_once p xs (once_behind x xs once))
  where
    by : OnlyOnce (filter p xs) → OnlyOnce (filter p (x ∷ xs))
    by more =
        cond_both (p x) (x ∷ filter p xs) (filter p xs) OnlyOnce
        (λ h. once_cons x (filter p xs) more (λ there. first_apart x xs once (in_filter p xs x there).0)) (λ h. more)

pub in_map : {A B : Type 0} (f : A → B) (xs : List A) (y : B) → Contains (map f xs) y → (x : A) × Contains xs x × (f x ≡ y)
in_map f xs y there =
    let at = place_in (map f xs) y there in
    let x = mapped f xs at.0 y at.1 in
    (x.0, contains_at xs at.0 x.0 x.1, x.2)

pub map_in : {A B : Type 0} (f : A → B) (xs : List A) (x : A) → Contains xs x → Contains (map f xs) (f x)
map_in f xs x there = let at = place_in xs x there in contains_at (map f xs) at.0 (f x) (map_at f xs at.0 x at.1)

pub map_once : {A B : Type 0} (f : A → B) (xs : List A) → OnlyOnce xs →
    ((x y : A) → Contains xs x → Contains xs y → f x ≡ f y → x ≡ y) → OnlyOnce (map f xs)
map_once f xs once apart i j z a b =
    let x = mapped f xs i z a in
    let y = mapped f xs j z b in
    let same = apart x.0 y.0 (contains_at xs i x.0 x.1) (contains_at xs j y.0 y.1) (x.2 ∙ sym y.2) in
    once i j y.0 (x.1 ∙ ap (λ n. Some n) same) y.1

pub map_take : {A B : Type 0} (f : A → B) (n : ℕ) (xs : List A) → map f (take n xs) ≡ take n (map f xs)
map_take f zero xs = refl
map_take f (suc n) [] = refl
map_take f (suc n) (x ∷ xs) = ap (λ ys. f x ∷ ys) (map_take f n xs)

-- another place is not taken out
pub not_out : (except : ℕ) (places : List ℕ) (q : ℕ) → Contains places q → (q ≡ except → ⊥) → Contains (without except places) q
not_out except places q there differs = filter_in (λ place. not (eqb place except)) places q there
    (not_from_false (eqb q except) (ne_eqb q except differs))

pub is_out : (except : ℕ) (places : List ℕ) → Contains (without except places) except → ⊥
is_out except places there =
    let h = (in_filter (λ place. not (eqb place except)) places except there).1 in
    let same = eq-eqb except except refl in
    let no = not-true (eqb except except) h in
    absurd (cc)

-- ---- the literals at places of a trail

module _ (t : Trail) (are : AreEntries t) where
  pub lit_there : (place : ℕ) (e : Entry) → slice_get t.entries place ≡ Some e → lit_at t.entries place ≡ e.lit
  lit_there place e at = lit_read t.entries place e (record { 0 = 0 }) at

  pub get_lit : (place : ℕ) → place < length t.entries → slice_get (lits_of t) place ≡ Some (lit_at t.entries place)
  get_lit place within =
      let e = entry_there t.entries place within in
      map_at (λ (e : Entry). e.lit) t.entries place e.0 e.1 ∙ ap (λ l. Some l) (sym (lit_there place e.0 e.1))

  -- where a literal's variable stands
  pub one_place : (place q : ℕ) (l : Lit) → place < length t.entries → slice_get (lits_of t) q ≡ Some l
      → var_of l ≡ var_of (lit_at t.entries place) → q ≡ place
  one_place place q l within at same =
      let e = entry_there t.entries place within in
      let d = mapped (λ (e : Entry). e.lit) t.entries q l at in
      same_place t.entries are.once q place d.0 e.0 d.1 e.1 (ap var_of d.2 ∙ same ∙ ap var_of (lit_there place e.0 e.1))

  pub same_lits : (p q : ℕ) → p < length t.entries → q < length t.entries → var_of (lit_at t.entries p) ≡ var_of
      (lit_at t.entries q) → p ≡ q
  same_lits p q within_p within_q same = one_place q p (lit_at t.entries p) within_q (get_lit p within_p) same

  pub negated_var : (p : ℕ) → var_of (negated t.entries p) ≡ var_of (lit_at t.entries p)
  negated_var p = negation_var (lit_at t.entries p)

  -- no literal is true beside its negation
  pub consistent : (l : Lit) → Contains (lits_of t) l → Contains (lits_of t) (negation l) → ⊥
  consistent l is is_not =
      let a = place_in (lits_of t) l is in
      let b = place_in (lits_of t) (negation l) is_not in
      let d = mapped (λ (e : Entry). e.lit) t.entries a.0 l a.1 in
      let e = mapped (λ (e : Entry). e.lit) t.entries b.0 (negation l) b.1 in
      let same : a.0 ≡ b.0 = same_place t.entries are.once a.0 b.0 d.0 e.0 d.1 e.1
      (ap var_of d.2 ∙ sym (negation_var l) ∙ ap var_of (sym e.2)) in
      negation_differs l (same_Some _ _ (sym b.1 ∙ ap (slice_get (lits_of t)) (sym same) ∙ a.1))

  module _ (lits : List Lit) (places : List ℕ) (is : lits ≡ map (negated t.entries) places)
      (inside : (q : ℕ) → Contains places q → q < length t.entries) where
    pub says_has : (q : ℕ) → Contains places q → Contains lits (negated t.entries q)
    says_has q there = subst (λ ls. Contains ls (negated t.entries q)) (sym is) (map_in (negated t.entries) places q there)

    pub says_from : (o : Lit) → Contains lits o → (q : ℕ) × Contains places q × (negated t.entries q ≡ o)
    says_from o there = in_map (negated t.entries) places o (subst (λ ls. Contains ls o) is there)

    pub says_false : (o : Lit) → Contains lits o → Contains (lits_of t) (negation o)
    says_false o there =
        let q = says_from o there in
        subst (λ l. Contains (lits_of t) l) (sym (negation_twice (lit_at t.entries q.0)) ∙ ap negation q.2)
        (contains_at (lits_of t) q.0 (lit_at t.entries q.0) (get_lit q.0 (inside q.0 q.1)))

    pub says_once : OnlyOnce places → OnlyOnce lits
    says_once once =
        subst OnlyOnce (sym is)
        (map_once (negated t.entries) places once
        (λ x y in_x in_y same. same_lits x y (inside x in_x) (inside y in_y) (sym (negated_var x) ∙ ap var_of same
        ∙ negated_var y)))

    pub says_within : All (λ l. var_of l < t.vars) lits
    says_within k d within =
        let q = says_from (get_or lits k d) (Contains-get_or lits k d within) in
        let e = entry_there t.entries q.0 (inside q.0 q.1) in
        let low = var_inside t (var_of e.0.lit) q.0 are (record { entry = e.0; is_entry = e.1; is_of = refl }) in
        subst (λ v. v < t.vars) (ap var_of (sym (lit_there q.0 e.0 e.1)) ∙ sym (negated_var q.0) ∙ ap var_of q.2) low
