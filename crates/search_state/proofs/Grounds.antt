-- The literals that are true where nothing is assumed, and where levels begin.
use Rattle.std.proofs.Common.{◌≡◌, ◌⊎◌, ◌<◌, ◌≤◌, ◌-◌, ◌∙◌, min, ℕ, zero, suc, List, [], ◌∷◌, ◌++◌, Some, None, Contains, length, map, take, slice_get, slice_index_or, refl, sym, ap, subst, inl, inr, arith}
use Rattle.std.proofs.lemmas.Bool.{cases_eq, cases_lt}
use Rattle.std.proofs.lemmas.List.{get_or_past, length-map, map-append, take_all, take-append-le, take-map, take-take}
use Rattle.std.proofs.lemmas.List.Elements.{Contains-append_left}
use Rattle.std.proofs.lemmas.Option.{slice_get-get_or}
use Rattle.currency_base.specs.declared.lit.Lit.{Lit}
use Rattle.search_trail.specs.Trails.{AreEntries, Entry, Trail, assumed, entries_up_to, lits_of, undone}
use Rattle.conflict_analysis.specs.Analyses.{lits_below}
use Rattle.watch_propagate.proofs.KeptLists.{from_front}
use Rattle.search_state.specs.Held.{ground_lits}

-- a longer front has what a front has
pub front_more : (n m : ℕ) (xs : List Lit) (x : Lit) → n ≤ m → Contains (take n xs) x → Contains (take m xs) x
front_more n m xs x h c =
    from_front n (take m xs) x (subst (λ (ys : List Lit). Contains ys x) (sym (take-take n m xs h)) c)

-- ---- where levels begin

pub lits_length : (t : Trail) → length (lits_of t) ≡ length t.entries
lits_length t = length-map t.entries (λ (e : Entry). e.lit)

-- a higher level has no fewer entries up to it
pub up_to_more : (t : Trail) (i j : ℕ) → AreEntries t → i ≤ j → entries_up_to t i ≤ entries_up_to t j
up_to_more t i j are h = go (cases_lt i (length t.starts)) (cases_lt j (length t.starts)) (cases_eq i j)
  where
    at : (k : ℕ) → k < length t.starts → slice_get t.starts k ≡ Some (entries_up_to t k)
    at k within = slice_get-get_or t.starts k (length t.entries) within

    past : (k : ℕ) → length t.starts ≤ k → entries_up_to t k ≡ length t.entries
    past k above = get_or_past t.starts k (length t.entries) above

    go : (i < length t.starts) ⊎ (length t.starts ≤ i) → (j < length t.starts) ⊎ (length t.starts ≤ j) → (i ≡ j) ⊎ (i ≡ j → ⊥)
        → entries_up_to t i ≤ entries_up_to t j
    go first other (inl e) = rw e (omega arith)
    go (inl a) (inl b) (inr d) = let less = are.ascend i j (entries_up_to t i) (entries_up_to t j)
        (omega (arith, h, d)) (at i a) (at j b) in omega (arith, less)
    go (inl a) (inr b) (inr d) = let less = are.begun i (entries_up_to t i) (at i a) in omega (arith, less, past j b)
    go (inr a) other (inr d) = omega (arith, past i a, past j (omega (arith, a, h)))

pub up_to_all : (t : Trail) (level : ℕ) → AreEntries t → entries_up_to t level ≤ length t.entries
up_to_all t level are = go (cases_lt level (length t.starts))
  where
    go : (level < length t.starts) ⊎ (length t.starts ≤ level) → entries_up_to t level ≤ length t.entries
    go (inl a) = let less = are.begun level (entries_up_to t level)
        (slice_get-get_or t.starts level (length t.entries) a) in omega (arith, less)
    go (inr a) = let same : entries_up_to t level ≡ length t.entries = get_or_past t.starts level (length t.entries)
        a in omega (arith, same)

-- where nothing is assumed all literals are of level 0
up_to_none : (t : Trail) → t.starts ≡ [] → entries_up_to t 0 ≡ length t.entries
up_to_none t e = ap (λ (ss : List ℕ). slice_index_or ss 0 (length t.entries)) e

pub ground_all : (t : Trail) → t.starts ≡ [] → ground_lits t ≡ lits_of t
ground_all t e = take_all (entries_up_to t 0) (lits_of t) (omega (arith, up_to_none t e, lits_length t))

pub lits_undone : (t : Trail) (level : ℕ) → lits_of (undone t level) ≡ take (entries_up_to t level) (lits_of t)
lits_undone t level = sym (take-map (λ (e : Entry). e.lit) (entries_up_to t level) t.entries)

-- nothing is taken away where nothing is assumed
pub undone_none : (t : Trail) (level : ℕ) → AreEntries t → t.starts ≡ [] → undone t level ≡ t
undone_none t level are e =
    let above : length t.starts ≤ level = omega (arith, ap length e) in
    let all : entries_up_to t level ≡ length t.entries = get_or_past t.starts level (length t.entries) above in
    let entries : take (entries_up_to t level) t.entries ≡ t.entries = take_all (entries_up_to t level) t.entries
    (omega (arith, all)) in
    let starts : take level t.starts ≡ t.starts = take_all level t.starts above in
    let gone : min t.gone (entries_up_to t level) ≡ t.gone = omega (arith, are.gone, all) in
    rw (entries, starts, gone) refl

-- the literals that a lower level leaves are among those that a higher one leaves
pub undone_less : (t : Trail) (i j : ℕ) (x : Lit) → AreEntries t → i ≤ j → Contains (lits_of (undone t i)) x
    → Contains (lits_of (undone t j)) x
undone_less t i j x are h c =
    subst (λ (ys : List Lit). Contains ys x) (sym (lits_undone t j))
    (front_more (entries_up_to t i) (entries_up_to t j) (lits_of t) x (up_to_more t i j are h)
    (subst (λ (ys : List Lit). Contains ys x) (lits_undone t i) c))

-- ---- the literals of level 0

-- they are true below the current level
pub ground_below : (t : Trail) (x : Lit) → AreEntries t → Contains (ground_lits t) x → Contains (lits_below t) x
ground_below t x are c = front_more (entries_up_to t 0) (entries_up_to t (length t.starts - 1)) (lits_of t) x
    (up_to_more t 0 (length t.starts - 1) are (omega arith)) c

-- and at any level
pub ground_undone : (t : Trail) (level : ℕ) (x : Lit) → AreEntries t → Contains (ground_lits t) x
    → Contains (ground_lits (undone t level)) x
ground_undone t zero x are c =
    subst (λ (ys : List Lit). Contains ys x) (sym (ground_all (undone t 0) refl ∙ lits_undone t 0)) c
ground_undone t (suc level) x are c = go t.starts refl
  where
    go : (ss : List ℕ) → t.starts ≡ ss → Contains (ground_lits (undone t (suc level))) x
    go [] e = subst (λ (u : Trail). Contains (ground_lits u) x) (sym (undone_none t (suc level) are e)) c
    go (s ∷ ss) e =
        let first : entries_up_to t 0 ≡ s = ap (λ (ns : List ℕ). slice_index_or ns 0 (length t.entries)) e in
        let left : entries_up_to (undone t (suc level)) 0 ≡ s =
        ap (λ (ns : List ℕ). slice_index_or (take (suc level) ns) 0 (length (take (entries_up_to t (suc level)) t.entries))) e in
        let cut = entries_up_to t (suc level) in
        let same : ground_lits (undone t (suc level)) ≡ ground_lits t =
        ap (λ (n : ℕ). take n (lits_of (undone t (suc level)))) left ∙ ap (take s) (lits_undone t (suc level))
        ∙ take-take s cut (lits_of t) (omega (arith, up_to_more t 0 (suc level) are (omega arith), first))
        ∙ ap (λ (n : ℕ). take n (lits_of t)) (sym first) in
        subst (λ (ys : List Lit). Contains ys x) (sym same) c

-- and where implied ones follow
pub ground_more : (old new : Trail) (added : List Entry) (x : Lit) → AreEntries old → new.starts ≡ old.starts
    → new.entries ≡ old.entries ++ added
    → Contains (ground_lits old) x → Contains (ground_lits new) x
ground_more old new added x are starts entries c = go old.starts refl
  where
    seen : lits_of new ≡ lits_of old ++ map (λ (e : Entry). e.lit) added
    seen = ap (map (λ (e : Entry). e.lit)) entries ∙ map-append (λ (e : Entry). e.lit) old.entries added

    go : (ss : List ℕ) → old.starts ≡ ss → Contains (ground_lits new) x
    go [] e =
        subst (λ (ys : List Lit). Contains ys x) (sym (ground_all new (starts ∙ e) ∙ seen))
        (Contains-append_left (lits_of old) (map (λ (d : Entry). d.lit) added) x
        (from_front (entries_up_to old 0) (lits_of old) x c))
    go (s ∷ ss) e =
        let was : entries_up_to old 0 ≡ s = ap (λ (ns : List ℕ). slice_index_or ns 0 (length old.entries)) e in
        let is : entries_up_to new 0 ≡ s = ap (λ (ns : List ℕ). slice_index_or ns 0 (length new.entries)) (starts ∙ e) in
        let same : ground_lits new ≡ ground_lits old =
        ap (λ (n : ℕ). take n (lits_of new)) is ∙ ap (take s) seen
        ∙ take-append-le s (lits_of old) (map (λ (d : Entry). d.lit) added)
        (omega (arith, up_to_all old 0 are, was, lits_length old))
        ∙ ap (λ (n : ℕ). take n (lits_of old)) (sym was) in
        subst (λ (ys : List Lit). Contains ys x) (sym same) c

-- and where a literal is assumed
pub ground_assumed : (t : Trail) (lit x : Lit) → AreEntries t → Contains (ground_lits t) x
    → Contains (ground_lits (assumed t lit)) x
ground_assumed t lit x are c = go t.starts refl
  where
    seen : lits_of (assumed t lit) ≡ lits_of t ++ lit ∷ []
    seen = map-append (λ (e : Entry). e.lit) t.entries (record { lit = lit; reason = None } ∷ [])

    same_front : (n : ℕ) → entries_up_to (assumed t lit) 0 ≡ n → entries_up_to t 0 ≡ n → ground_lits
        (assumed t lit) ≡ ground_lits t
    same_front n is was =
        ap (λ (k : ℕ). take k (lits_of (assumed t lit))) is ∙ ap (take n) seen
        ∙ take-append-le n (lits_of t) (lit ∷ []) (omega (arith, up_to_all t 0 are, was, lits_length t))
        ∙ ap (λ (k : ℕ). take k (lits_of t)) (sym was)

    go : (ss : List ℕ) → t.starts ≡ ss → Contains (ground_lits (assumed t lit)) x
    go [] e =
        let is : entries_up_to (assumed t lit) 0 ≡ length t.entries =
        ap (λ (ns : List ℕ). slice_index_or (ns ++ length t.entries ∷ []) 0 (length (assumed t lit).entries)) e in
        subst (λ (ys : List Lit). Contains ys x) (sym (same_front (length t.entries) is (up_to_none t e))) c
    go (s ∷ ss) e =
        let was : entries_up_to t 0 ≡ s = ap (λ (ns : List ℕ). slice_index_or ns 0 (length t.entries)) e in
        let is : entries_up_to (assumed t lit) 0 ≡ s =
        ap (λ (ns : List ℕ). slice_index_or (ns ++ length t.entries ∷ []) 0 (length (assumed t lit).entries)) e in
        subst (λ (ys : List Lit). Contains ys x) (sym (same_front s is was)) c
