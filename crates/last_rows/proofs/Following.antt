-- A clause without the last of its first rows follows with its hints, which are lean.
use Rattle.std.proofs.Common.{◌≡◌, ◌≢◌, ◌⊎◌, ◌<◌, ◌≤◌, ◌∙◌, ℕ, zero, suc, eqb, List, [], ◌∷◌, ◌++◌, Contains, get_or, length, refl, sym, ap, subst, inl, inr, ⊎_elim, arith}
use Rattle.std.proofs.lemmas.Bool.{cases_eq, cond-true, cond-false, eq-eqb, ne_eqb}
use Rattle.std.proofs.lemmas.List.{append-nil}
use Rattle.std.proofs.lemmas.List.Elements.{Contains-append_left, Contains-append_cases, Contains-push_cases, Contains-push}
use Rattle.currency_base.specs.Lists.{OnlyOnce}
use Rattle.currency_base.specs.Literals.{negation}
use Rattle.currency_base.specs.declared.lit.Lit.{Lit}
use Rattle.refutation_log.specs.Follows.{AreFalse, IsOnlyOpen, FollowsFrom, clause_at, clauses_at}
use Rattle.lean_hints.specs.Lean.{AreLean, IsAdding}
use Rattle.last_rows.specs.Hints.{row_hints, three_hint, three_hints}
use Rattle.last_rows.specs.Rows.{AreApart, AreThere, IsClause, Literals, StandsAt, clause_lits, lit_of, literals_of, three_of}
use Rattle.last_rows.specs.declared.rows.RowList.{RowList}
use Rattle.last_rows.proofs.Adding.{AddTo, follows_with, hint_open, lean_with}
use Rattle.last_rows.proofs.Below.{IsPairOf, IsTopOf, each_in, in_each, in_none, in_one, lit_high, lit_how, lit_low, lit_own, once_one, once_push}

-- ---- the step of a row

module _ (l : RowList) (earlier : List (List Lit)) (places : List ℕ) (own later : ℕ)
    (apart : AreApart (literals_of l)) (there : AreThere l earlier)
    (low : own < later) (high : later < length l.tops.items)
    (at_own : StandsAt (IsClause (literals_of l) (suc later) own) earlier (get_or places own 0))
    (at_later : StandsAt (IsClause (literals_of l) (suc later) later) earlier (get_or places later 0)) where
  abbrev lits : Literals
  lits = literals_of l

  own_within : own < length l.tops.items
  own_within = omega (arith, low, high)

  apart_own : own ≢ later
  apart_own e = omega (arith, low, e)

  abbrev start : List Lit
  start = clause_lits (literals_of l) later own

  abbrev front : ℕ → List ℕ
  front n = get_or places own 0 ∷ three_hints l own later n

  -- that a row stands before the later one is no literal of the clause
  open_start : (i : ℕ) → i < later → Contains start (lits.before i later) → ⊥
  open_start i below h =
      let m = in_each (lit_of lits later own) lits.count (lits.before i later) h in
      let i_within : i < length l.tops.items = omega (arith, below, high) in
      let ne : i ≢ later = λ e. omega (arith, below, e) in
      ⊎_elim
      (λ (p : IsTopOf lits later own m.0). apart.top_before m.0 i later m.1 i_within high ne (sym (m.2 ∙ p.is)))
      (λ (p : IsPairOf lits later own m.0).
      let same = apart.before_once i later own m.0 i_within high own_within m.1 ne (λ e. p.differ (sym e)) (m.2 ∙ p.is) in
      let b = p.low in let e = same.1 in omega (arith, b, e))
      (lit_how lits later own m.0)

  -- nor is it that the later row stands before another
  ahead_start : (i : ℕ) → i < later → Contains start (lits.before later i) → ⊥
  ahead_start i below h =
      let m = in_each (lit_of lits later own) lits.count (lits.before later i) h in
      let i_within : i < length l.tops.items = omega (arith, below, high) in
      let ne : later ≢ i = λ e. omega (arith, below, e) in
      ⊎_elim
      (λ (p : IsTopOf lits later own m.0). apart.top_before m.0 later i m.1 high i_within ne (sym (m.2 ∙ p.is)))
      (λ (p : IsPairOf lits later own m.0).
      let same = apart.before_once later i own m.0 high i_within own_within m.1 ne (λ e. p.differ (sym e)) (m.2 ∙ p.is) in
      apart_own (sym same.0))
      (lit_how lits later own m.0)

  -- what is false after so many hints
  record Known (n : ℕ) (falses : List Lit) : Type 0 where
    of_start : (lit : Lit) → Contains start lit → Contains falses lit
    turned : Contains falses (lits.before later own)
    done : (i : ℕ) → i < n → i ≢ own → Contains falses (lits.before later i)
    still : (i : ℕ) → i < later → Contains falses (lits.before i later) → ⊥
    ahead : (i : ℕ) → n ≤ i → i < later → i ≢ own → Contains falses (lits.before later i) → ⊥

  record Reached (n : ℕ) : Type 0 where
    falses : List Lit
    added : AddTo start (clauses_at earlier (front n)) falses
    known : Known n falses

  -- one literal more, that the later row stands before another
  still_more : (falses : List Lit) (j : ℕ) → j < later → ((i : ℕ) → i < later → Contains falses (lits.before i later) → ⊥)
      → (i : ℕ) → i < later → Contains (falses ++ negation (lits.before j later) ∷ []) (lits.before i later) → ⊥
  still_more falses j j_low were i below h = ⊎_elim
      (λ (p : Contains falses (lits.before i later)). were i below p)
      (λ (p : negation (lits.before j later) ≡ lits.before i later).
      let ne_i : i ≢ later = λ e. omega (arith, below, e) in
      let ne_j : j ≢ later = λ e. omega (arith, j_low, e) in
      let i_within : i < length l.tops.items = omega (arith, below, high) in
      let j_within : j < length l.tops.items = omega (arith, j_low, high) in
      let same = apart.before_once later j i later high j_within i_within high (λ e. ne_j (sym e)) ne_i
      (sym (apart.turned j later j_within high ne_j) ∙ p) in
      let e = same.0 in omega (arith, below, e))
      (Contains-push_cases falses (negation (lits.before j later)) (lits.before i later) h)

  -- so far it stood before none of these
  ahead_more : (falses : List Lit) (j i : ℕ) → j < later → i < later → i ≢ j → (Contains falses (lits.before later i) → ⊥)
      → Contains (falses ++ negation (lits.before j later) ∷ []) (lits.before later i) → ⊥
  ahead_more falses j i j_low i_low differ was h = ⊎_elim
      (λ (p : Contains falses (lits.before later i)). was p)
      (λ (p : negation (lits.before j later) ≡ lits.before later i).
      let ne_i : later ≢ i = λ e. omega (arith, i_low, e) in
      let ne_j : later ≢ j = λ e. omega (arith, j_low, e) in
      let i_within : i < length l.tops.items = omega (arith, i_low, high) in
      let j_within : j < length l.tops.items = omega (arith, j_low, high) in
      differ (sym (apart.before_once later j later i high j_within high i_within ne_j ne_i
      (sym (apart.turned j later j_within high (λ e. ne_j (sym e))) ∙ p)).1))
      (Contains-push_cases falses (negation (lits.before j later)) (lits.before later i) h)

  -- its negation is there
  turned_in : (falses : List Lit) (j : ℕ) → j < later
      → Contains (falses ++ negation (lits.before j later) ∷ []) (lits.before later j)
  turned_in falses j j_low =
      let ne_j : j ≢ later = λ e. omega (arith, j_low, e) in
      let j_within : j < length l.tops.items = omega (arith, j_low, high) in
      subst (λ (x : Lit). Contains (falses ++ negation (lits.before j later) ∷ []) x)
      (apart.turned j later j_within high ne_j)
      (Contains-push falses (negation (lits.before j later)))

  -- the clause with the later row leaves that its own row stands before this
  first_lit : (row : ℕ) → row < lits.count → row ≢ later → lit_of lits (suc later) own row ≡ lit_of lits later own row
  first_lit row within ne = ⊎_elim
      (λ (p : IsTopOf lits (suc later) own row). p.is ∙ sym (⊎_elim
      (λ (e : row ≡ own). subst (λ (k : ℕ). lit_of lits later own k ≡ lits.top k) (sym e) (lit_own lits later own))
      (λ (h : suc later ≤ row). lit_high lits later own row (omega (arith, h)))
      p.who))
      (λ (p : IsPairOf lits (suc later) own row).
      let b = p.low in
      p.is ∙ sym (lit_low lits later own row p.differ (let w : row < later = grind (arith, b, ne) in w)))
      (lit_how lits (suc later) own row)

  first_open : IsOnlyOpen start (clause_at earlier (get_or places own 0)) (lits.before own later)
  first_open = record {
    is_in = subst (λ (x : Lit). Contains (clause_at earlier (get_or places own 0)) x)
        (lit_low lits (suc later) own later (λ e. apart_own (sym e)) (omega arith))
        (at_own.is.all later high);
    is_open = open_start own low;
    others = λ other is_in differ.
        let m = at_own.is.each other is_in in
        ⊎_elim
        (λ (e : m.row ≡ later). absurd (differ (m.is_lit
        ∙ subst (λ (k : ℕ). lit_of lits (suc later) own k ≡ lits.before own later) (sym e)
        (lit_low lits (suc later) own later (λ s. apart_own (sym s)) (omega arith)))))
        (λ (ne : m.row ≡ later → ⊥).
        subst (λ (x : Lit). Contains start x) (sym (m.is_lit ∙ first_lit m.row m.within ne))
        (each_in (lit_of lits later own) lits.count m.row m.within))
        (cases_eq m.row later);
  }

  -- and this was not there
  turned_fresh : (falses : List Lit) (j : ℕ) → j < later → (Contains falses (lits.before later j) → ⊥)
      → Contains falses (negation (lits.before j later)) → ⊥
  turned_fresh falses j j_low was h = was (subst (λ (x : Lit). Contains falses x)
      (apart.turned j later (omega (arith, j_low, high)) high (λ e. omega (arith, j_low, e))) h)

  first_adds : IsAdding start (clause_at earlier (get_or places own 0)) (lits.before own later)
  first_adds = record { only_open = first_open; fresh = turned_fresh start own low (ahead_start own low) }

  reached_none : Reached 0
  unfolding three_hints
  reached_none = record {
    falses = start ++ negation (lits.before own later) ∷ [];
    added = hint_open earlier start start [] (get_or places own 0) (lits.before own later) refl first_adds;
    known = record {
      of_start = λ lit h. Contains-append_left start (negation (lits.before own later) ∷ []) lit h;
      turned = turned_in start own low;
      done = λ i below differ. absurd (omega (arith, below));
      still = still_more start own low open_start;
      ahead = λ i up below differ. ahead_more start own i low below differ (ahead_start i below);
    };
  }

  three_open : (n : ℕ) (falses : List Lit) → n < later → n ≢ own → Known n falses
      → IsOnlyOpen falses (clause_at earlier (three_of l n own later)) (lits.before n later)
  three_open n falses below ne known =
      let three = there.threes n own later below low high ne in
      record {
        is_in = three.is.has;
        is_open = known.still n below;
        others = λ other is_in differ. ⊎_elim
            (λ (e : other ≡ lits.before own n). known.of_start other
            (subst (λ (x : Lit). Contains start x) (lit_low lits later own n ne below ∙ sym e)
            (each_in (lit_of lits later own) lits.count n (omega (arith, below, high)))))
            (λ (p : (other ≡ lits.before later own) ⊎ (other ≡ lits.before n later)). ⊎_elim
            (λ (e : other ≡ lits.before later own). subst (λ (x : Lit). Contains falses x) (sym e) known.turned)
            (λ (e : other ≡ lits.before n later). absurd (differ e))
            p)
            (three.is.each other is_in);
      }

  three_adds : (n : ℕ) (falses : List Lit) → n < later → n ≢ own → Known n falses
      → IsAdding falses (clause_at earlier (three_of l n own later)) (lits.before n later)
  three_adds n falses below ne known = record {
    only_open = three_open n falses below ne known;
    fresh = turned_fresh falses n below (known.ahead n (omega arith) below ne);
  }

  reached_more : (n : ℕ) → n < later → Reached n → Reached (suc n)
  unfolding three_hints
  reached_more n below before = ⊎_elim
      (λ (e : n ≡ own).
      let same : three_hint l own later n ≡ [] = cond-true (eqb n own) [] (three_of l n own later ∷ []) (eq-eqb n own e) in
      record {
        falses = before.falses;
        added = subst (λ (hs : List ℕ). AddTo start (clauses_at earlier (get_or places own 0 ∷ hs)) before.falses)
            (sym (ap (λ (h : List ℕ). three_hints l own later n ++ h) same ∙ append-nil (three_hints l own later n)))
            before.added;
        known = record {
          of_start = before.known.of_start;
          turned = before.known.turned;
          done = λ i i_low differ. before.known.done i (let w : i < n = grind (arith, i_low, differ, e) in w) differ;
          still = before.known.still;
          ahead = λ i up i_low differ. before.known.ahead i (omega (arith, up)) i_low differ;
        };
      })
      (λ (ne : n ≡ own → ⊥).
      let same : three_hint l own later n ≡ three_of l n own later ∷ [] =
      cond-false (eqb n own) [] (three_of l n own later ∷ []) (ne_eqb n own ne) in
      record {
        falses = before.falses ++ negation (lits.before n later) ∷ [];
        added = subst (λ (h : List ℕ). AddTo start (clauses_at earlier (get_or places own 0 ∷ (three_hints l own
            later n ++ h))) (before.falses ++ negation (lits.before n later) ∷ []))
            (sym same)
            (hint_open earlier start before.falses (front n) (three_of l n own later) (lits.before n later) before.added
            (three_adds n before.falses below ne before.known));
        known = record {
          of_start = λ lit h. Contains-append_left before.falses (negation (lits.before n later) ∷ []) lit
              (before.known.of_start lit h);
          turned = Contains-append_left before.falses (negation (lits.before n later) ∷ []) (lits.before later own)
              before.known.turned;
          done = λ i i_low differ. ⊎_elim
              (λ (e : i ≡ n). subst (λ (k : ℕ). Contains (before.falses ++ negation (lits.before n later) ∷ [])
              (lits.before later k)) (sym e)
              (turned_in before.falses n below))
              (λ (other : i ≡ n → ⊥). Contains-append_left before.falses (negation (lits.before n later) ∷ [])
              (lits.before later i) (before.known.done i (let w : i < n = grind (arith, i_low, other) in w) differ))
              (cases_eq i n);
          still = still_more before.falses n below before.known.still;
          ahead = λ i up i_low differ. ahead_more before.falses n i below i_low (λ e. omega (arith, up, e))
              (before.known.ahead i (omega (arith, up)) i_low differ);
        };
      })
      (cases_eq n own)

  reached_all : (n : ℕ) → n ≤ later → Reached n
  reached_all zero within = reached_none
  reached_all (suc n) within = reached_more n (omega (arith, within)) (reached_all n (omega (arith, within)))

  -- and then the clause of the later row is false
  last_false : (falses : List Lit) → Known later falses → AreFalse falses (clause_at earlier (get_or places later 0))
  last_false falses known lit is_in =
      let m = at_later.is.each lit is_in in
      ⊎_elim
      (λ (p : IsTopOf lits (suc later) later m.row).
      let behind : later ≤ m.row = ⊎_elim
      (λ (e : m.row ≡ later). omega (arith, e)) (λ (h : suc later ≤ m.row). omega (arith, h)) p.who in
      known.of_start lit (subst (λ (x : Lit). Contains start x)
      (lit_high lits later own m.row behind ∙ sym (m.is_lit ∙ p.is))
      (each_in (lit_of lits later own) lits.count m.row m.within)))
      (λ (p : IsPairOf lits (suc later) later m.row).
      let b = p.low in let d = p.differ in
      let below : m.row < later = grind (arith, b, d) in
      subst (λ (x : Lit). Contains falses x) (sym (m.is_lit ∙ p.is))
      (⊎_elim
      (λ (e : m.row ≡ own). subst (λ (k : ℕ). Contains falses (lits.before later k)) (sym e) known.turned)
      (λ (ne : m.row ≡ own → ⊥). known.done m.row below ne)
      (cases_eq m.row own)))
      (lit_how lits (suc later) later m.row)

  -- ---- the hints

  in_threes : (n x : ℕ) → Contains (three_hints l own later n) x → (i : ℕ) × (i < n) × (i ≢ own) × (x ≡ three_of l i own later)
  unfolding three_hints
  in_threes zero x h = absurd (in_none x h)
  in_threes (suc n) x h = ⊎_elim
      (λ (p : Contains (three_hints l own later n) x). let m = in_threes n x p in
      (m.0, (let w = m.1 in omega (arith, w)), m.2, m.3))
      (λ (p : Contains (three_hint l own later n) x). ⊎_elim
      (λ (e : n ≡ own). absurd (in_none x (subst (λ (hs : List ℕ). Contains hs x)
      (cond-true (eqb n own) [] (three_of l n own later ∷ []) (eq-eqb n own e)) p)))
      (λ (ne : n ≡ own → ⊥). (
        n,
        omega arith,
        ne,
        sym (in_one (three_of l n own later) x (subst (λ (hs : List ℕ). Contains hs x)
            (cond-false (eqb n own) [] (three_of l n own later ∷ []) (ne_eqb n own ne)) p)),
      ))
      (cases_eq n own))
      (Contains-append_cases (three_hints l own later n) (three_hint l own later n) x h)

  in_front : (n x : ℕ) → Contains (front n) x → (x ≡ get_or places own 0)
      ⊎ ((i : ℕ) × (i < n) × (i ≢ own) × (x ≡ three_of l i own later))
  in_front n x h = ⊎_elim
      (λ (p : Contains (get_or places own 0 ∷ []) x). inl (sym (in_one (get_or places own 0) x p)))
      (λ (p : Contains (three_hints l own later n) x). inr (in_threes n x p))
      (Contains-append_cases (get_or places own 0 ∷ []) (three_hints l own later n) x h)

  front_known : (x : ℕ) → Contains (front later) x → x < length earlier
  front_known x h = ⊎_elim
      (λ (e : x ≡ get_or places own 0). subst (λ (k : ℕ). k < length earlier) (sym e) at_own.known)
      (λ (m : (i : ℕ) × (i < later) × (i ≢ own) × (x ≡ three_of l i own later)).
      subst (λ (k : ℕ). k < length earlier) (sym m.3) (there.threes m.0 own later m.1 low high m.2).known)
      (in_front later x h)

  -- no clause on three rows has a literal that a row stands last
  no_top : (m i x : ℕ) → m < length l.tops.items → i < later → i ≢ own → x ≡ three_of l i own later
      → Contains (clause_at earlier x) (lits.top m) → ⊥
  no_top m i x within below ne e h =
      let three = there.threes i own later below low high ne in
      let i_within : i < length l.tops.items = omega (arith, below, high) in
      ⊎_elim
      (λ (p : lits.top m ≡ lits.before own i). apart.top_before m own i within own_within i_within (λ s. ne (sym s)) p)
      (λ (p : (lits.top m ≡ lits.before later own) ⊎ (lits.top m ≡ lits.before i later)). ⊎_elim
      (λ (q : lits.top m ≡ lits.before later own). apart.top_before m later own within high own_within
      (λ s. apart_own (sym s)) q)
      (λ (q : lits.top m ≡ lits.before i later). apart.top_before m i later within i_within high
      (λ s. omega (arith, below, s)) q)
      p)
      (three.is.each (lits.top m) (subst (λ (k : ℕ). Contains (clause_at earlier k) (lits.top m)) e h))

  own_top : Contains (clause_at earlier (get_or places own 0)) (lits.top own)
  own_top = subst (λ (x : Lit). Contains (clause_at earlier (get_or places own 0)) x) (lit_own lits (suc later) own)
      (at_own.is.all own own_within)

  later_top : Contains (clause_at earlier (get_or places later 0)) (lits.top later)
  later_top = subst (λ (x : Lit). Contains (clause_at earlier (get_or places later 0)) x) (lit_own lits (suc later) later)
      (at_later.is.all later high)

  fresh_three : (n : ℕ) → n < later → n ≢ own → Contains (front n) (three_of l n own later) → ⊥
  fresh_three n below ne h =
      let n_within : n < length l.tops.items = omega (arith, below, high) in
      let ne_n : n ≢ later = λ s. omega (arith, below, s) in
      ⊎_elim
      (λ (e : three_of l n own later ≡ get_or places own 0). no_top own n (get_or places own 0) own_within below ne (sym e) own_top)
      (λ (m : (i : ℕ) × (i < n) × (i ≢ own) × (three_of l n own later ≡ three_of l i own later)).
      let i_low : m.0 < later = (let w = m.1 in omega (arith, w, below)) in
      let i_within : m.0 < length l.tops.items = omega (arith, i_low, high) in
      let one = there.threes n own later below low high ne in
      let other = there.threes m.0 own later i_low low high m.2 in
      let w = m.1 in
      ⊎_elim
      (λ (p : lits.before n later ≡ lits.before own m.0).
      ne (apart.before_once n later own m.0 n_within high own_within i_within ne_n (λ s. m.2 (sym s)) p).0)
      (λ (p : (lits.before n later ≡ lits.before later own) ⊎ (lits.before n later ≡ lits.before m.0 later)). ⊎_elim
      (λ (q : lits.before n later ≡ lits.before later own).
      ne_n (apart.before_once n later later own n_within high high own_within ne_n (λ s. apart_own (sym s)) q).0)
      (λ (q : lits.before n later ≡ lits.before m.0 later).
      let e = (apart.before_once n later m.0 later n_within high i_within high ne_n (λ s. omega (arith, i_low, s)) q).0 in
      omega (arith, w, e))
      p)
      (other.is.each (lits.before n later)
      (subst (λ (k : ℕ). Contains (clause_at earlier k) (lits.before n later)) m.3 one.is.has)))
      (in_front n (three_of l n own later) h)

  front_once : (n : ℕ) → n ≤ later → OnlyOnce (front n)
  unfolding three_hints
  front_once zero within = once_one (get_or places own 0)
  front_once (suc n) within = ⊎_elim
      (λ (e : n ≡ own). subst (λ (hs : List ℕ). OnlyOnce (get_or places own 0 ∷ hs))
      (sym (ap (λ (h : List ℕ). three_hints l own later n ++ h)
      (cond-true (eqb n own) [] (three_of l n own later ∷ []) (eq-eqb n own e)) ∙ append-nil (three_hints l own later n)))
      (front_once n (omega (arith, within))))
      (λ (ne : n ≡ own → ⊥). subst (λ (h : List ℕ). OnlyOnce (get_or places own 0 ∷ (three_hints l own later n ++ h)))
      (sym (cond-false (eqb n own) [] (three_of l n own later ∷ []) (ne_eqb n own ne)))
      (once_push (front n) (three_of l n own later) (front_once n (omega (arith, within)))
      (fresh_three n (omega (arith, within)) ne)))
      (cases_eq n own)

  fresh_last : Contains (front later) (get_or places later 0) → ⊥
  fresh_last h = ⊎_elim
      (λ (e : get_or places later 0 ≡ get_or places own 0).
      let m = at_later.is.each (lits.top own) (subst (λ (k : ℕ). Contains (clause_at earlier k) (lits.top own)) (sym e) own_top) in
      ⊎_elim
      (λ (p : IsTopOf lits (suc later) later m.row).
      let same = apart.top_once own m.row own_within m.within (m.is_lit ∙ p.is) in
      ⊎_elim
      (λ (q : m.row ≡ later). apart_own (same ∙ q))
      (λ (q : suc later ≤ m.row). omega (arith, low, same, q))
      p.who)
      (λ (p : IsPairOf lits (suc later) later m.row).
      apart.top_before own later m.row own_within high m.within (λ s. p.differ (sym s)) (m.is_lit ∙ p.is))
      (lit_how lits (suc later) later m.row))
      (λ (m : (i : ℕ) × (i < later) × (i ≢ own) × (get_or places later 0 ≡ three_of l i own later)).
      no_top later m.0 (get_or places later 0) high m.1 m.2 m.3 later_top)
      (in_front later (get_or places later 0) h)

  pub row_lean : AreLean earlier (clause_lits (literals_of l) later own) (row_hints l places own later)
  row_lean =
      let all = reached_all later (omega arith) in
      lean_with earlier start all.falses (front later) (get_or places later 0)
      (once_push (front later) (get_or places later 0) (front_once later (omega arith)) fresh_last) all.added

  pub row_follows : FollowsFrom earlier (clause_lits (literals_of l) later own) (row_hints l places own later)
  row_follows =
      let all = reached_all later (omega arith) in
      follows_with earlier start all.falses (front later) (get_or places later 0) front_known at_later.known all.added
      (last_false all.falses all.known)
