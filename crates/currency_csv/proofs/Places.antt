-- Where a name stands in a header.
use Rattle.std.proofs.Common.{◌≡◌, ◌+◌, ◌<◌, ℕ, zero, suc, Bool, true, false, cond, List, [], ◌∷◌, ◌++◌, length, map, filter, take, get_or, Option, None, Some, refl, sym, ap, ◌∙◌, add-one, add-zero, arith}
use Rattle.std.proofs.lemmas.List.{append-nil}
use Rattle.std.proofs.lemmas.Slice.Eq.{bytes_eq-Decides}
use Rattle.std.specs.Prelude.{is_some}
use Rattle.std.specs.List.{enumerate_from}
use Rattle.std.specs.Option.{option_flatten}
use Rattle.std.specs.Str.{bytes_eq}
use Rattle.currency_csv.specs.Sources.{seen_of}
use Rattle.currency_csv.specs.Table.{only, places_in}

-- the places of a name, counted on from n
places_from : ℕ → List (List ℕ) → List ℕ → List ℕ
places_from n header name = map (λ p. p.0) (filter (λ p. bytes_eq p.1 name) (enumerate_from n header))

-- one more place
places_step : (n : ℕ) (header : List (List ℕ)) (i : ℕ) (name : List ℕ) → i < length header
    → places_from n (take (suc i) header) name ≡ places_from n (take i header) name
    ++ cond (bytes_eq (get_or header i []) name) ((n + i) ∷ []) []
unfolding places_from
places_step n [] i name within = absurd (omega arith)
places_step n (x ∷ xs) zero name within = rw (add-zero n) (by (bytes_eq x name))
  where
    by : (b : Bool) → map (λ (p : ℕ × List ℕ). p.0) (cond b ((n, x) ∷ []) []) ≡ cond b (n ∷ []) []
    by true = refl
    by false = refl
places_step n (x ∷ xs) (suc i) name within =
    let next : n + 1 + i ≡ n + suc i = omega arith in
    by (bytes_eq x name) _ _ _ (rw next at (places_step (n + 1) xs i name (omega arith)))
  where
    by : (b : Bool) (old new : List (ℕ × List ℕ)) (more : List ℕ) → map (λ (p : ℕ × List ℕ). p.0) new ≡ map
        (λ (p : ℕ × List ℕ). p.0) old ++ more
        → map (λ (p : ℕ × List ℕ). p.0) (cond b ((n, x) ∷ new) new) ≡ map (λ (p : ℕ × List ℕ). p.0)
        (cond b ((n, x) ∷ old) old) ++ more
    by true old new more e = ap (λ l. n ∷ l) e
    by false old new more e = e

-- what is noted after one more place, where the name stands there, or does not
noted : (here : Bool) (places : List ℕ) (i : ℕ)
    → seen_of (places ++ cond here (i ∷ []) []) ≡ cond here (Some (cond (is_some (seen_of places)) None (Some i)))
    (seen_of places)
noted true [] i = refl
noted true (p ∷ []) i = refl
noted true (p ∷ q ∷ rest) i = refl
noted false places i = ap seen_of (append-nil places)

-- what is noted of the name after one more place
pub seen_more : (header : List (List ℕ)) (i : ℕ) (name : List ℕ) → i < length header
    → seen_of (places_in (take (i + 1) header) name)
    ≡ cond (bytes_eq (get_or header i []) name)
    (Some (cond (is_some (seen_of (places_in (take i header) name))) None (Some i)))
    (seen_of (places_in (take i header) name))
unfolding places_in places_from
seen_more header i name within =
    let first : 0 + i ≡ i = omega arith in
    let grown = rw first at (places_step 0 header i name within) in
    rw add-one (ap seen_of grown ∙ noted (bytes_eq (get_or header i []) name) (places_in (take i header) name) i)

-- a name with the same bytes is noted alike
pub same_seen : (header : List (List ℕ)) (i : ℕ) (here name : List ℕ) → bytes_eq here name ≡ true
    → seen_of (places_in (take i header) here) ≡ seen_of (places_in (take i header) name)
same_seen header i here name e = ap (λ n. seen_of (places_in (take i header) n)) ((bytes_eq-Decides here name).0 e)

-- the only place of a name, from what is noted
pub only_seen : (places : List ℕ) → option_flatten (seen_of places) ≡ only places
only_seen [] = refl
only_seen (place ∷ rest) = refl

-- the look-ups after one more place was noted under its name
pub place_noted : (header : List (List ℕ)) (i : ℕ) (here : List ℕ) (seen : Option ℕ) (has : Bool)
    (old new : List ℕ → Option (Option ℕ))
    → i < length header → here ≡ get_or header i []
    → ((name : List ℕ) → old name ≡ seen_of (places_in (take i header) name))
    → ((name : List ℕ) → new name ≡ cond (bytes_eq here name) (Some seen) (old name))
    → has ≡ is_some (old here) → seen ≡ cond has None (Some i)
    → (name : List ℕ) → new name ≡ seen_of (places_in (take (i + 1) header) name)
place_noted header i here seen has old new within at before after had now name =
    after name ∙ by (bytes_eq here name) refl ∙ sym (rw (← at) at (seen_more header i name within))
  where
    by : (b : Bool) → bytes_eq here name ≡ b
        → cond b (Some seen) (old name)
        ≡ cond b (Some (cond (is_some (seen_of (places_in (take i header) name))) None (Some i)))
        (seen_of (places_in (take i header) name))
    by true e = ap Some (now ∙ ap (λ h. cond h None (Some i)) (had ∙ ap is_some (before here ∙ same_seen header i here name e)))
    by false e = before name
