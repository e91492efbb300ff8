-- A clause without the rows of which a later one is known follows with its hints, which are lean.
use Rattle.std.proofs.Common.{◌≡◌, ◌≢◌, ◌⊎◌, ◌<◌, ◌≤◌, ◌+◌, ◌-◌, ◌∙◌, ℕ, zero, suc, eqb, List, [], ◌∷◌, ◌++◌, Contains, get_or, length, refl, sym, ap, subst, ⊎_elim, arith}
use Rattle.std.proofs.lemmas.Bool.{cases_eq, cases_lt, cond-true, cond-false, eq-eqb, ne_eqb}
use Rattle.std.proofs.lemmas.List.{append-nil}
use Rattle.std.proofs.lemmas.List.Elements.{Contains-append_left, Contains-append_cases, Contains-push_cases, Contains-push}
use Rattle.currency_base.specs.Lists.{OnlyOnce}
use Rattle.currency_base.specs.Literals.{negation}
use Rattle.currency_base.specs.declared.lit.Lit.{Lit}
use Rattle.refutation_log.specs.Follows.{AreFalse, IsOnlyOpen, FollowsFrom, clause_at, clauses_at}
use Rattle.lean_hints.specs.Lean.{AreLean, IsAdding}
use Rattle.last_rows.specs.Hints.{known_hints, left_hints, three_hint}
use Rattle.last_rows.specs.Rows.{AreApart, AreLaters, AreThere, IsClause, Literals, IsUnit, StandsAt, clause_lits, later_of, later_place_of, lit_of, literals_of, three_of}
use Rattle.last_rows.specs.declared.rows.RowList.{RowList}
use Rattle.last_rows.proofs.Adding.{AddTo, follows_with, hint_open, lean_with}
use Rattle.last_rows.proofs.Below.{IsPairOf, IsTopOf, each_in, in_each, in_none, in_one, lit_how, lit_low, lit_own, once_none, once_push}

-- the axiom on a row, this and a later one is a hint where the row is not this
no_hint : (l : RowList) (own later row : ℕ) → row ≡ own → three_hint l own later row ≡ []
no_hint l own later row e = cond-true (eqb row own) [] (three_of l row own later ∷ []) (eq-eqb row own e)

one_hint : (l : RowList) (own later row : ℕ) → row ≢ own → three_hint l own later row ≡ three_of l row own later ∷ []
one_hint l own later row ne = cond-false (eqb row own) [] (three_of l row own later ∷ []) (ne_eqb row own ne)

module _ (l : RowList) (earlier : List (List Lit)) (places : List ℕ) (own : ℕ)
    (apart : AreApart (literals_of l)) (there : AreThere l earlier) (laters : AreLaters l) (low : own < l.kept)
    (at_own : StandsAt (IsClause (literals_of l) (length l.tops.items) own) earlier (get_or places own 0)) where
  abbrev lits : Literals
  lits = literals_of l

  own_within : own < length l.tops.items
  own_within = let k = laters.kept in omega (arith, low, k)

  abbrev start : List Lit
  start = clause_lits (literals_of l) l.kept own

  -- nothing is said of these rows and one from this on, where that comes behind the others
  abbrev AreOpen : ℕ → List Lit → Type 0
  AreOpen m falses = (i j : ℕ) → i < j → m ≤ j → j < length l.tops.items
      → (Contains falses (lits.before i j) → ⊥) × (Contains falses (lits.before j i) → ⊥)

  open_start : AreOpen l.kept start
  open_start i j i_low high within =
      let i_within : i < length l.tops.items = omega (arith, i_low, within) in
      let ne : i ≢ j = λ e. omega (arith, i_low, e) in
      let en : j ≢ i = λ e. omega (arith, i_low, e) in (
        λ h.
            let m = in_each (lit_of lits l.kept own) lits.count (lits.before i j) h in
            ⊎_elim
            (λ (p : IsTopOf lits l.kept own m.0). apart.top_before m.0 i j m.1 i_within within ne (sym (m.2 ∙ p.is)))
            (λ (p : IsPairOf lits l.kept own m.0).
            let same = apart.before_once i j own m.0 i_within within own_within m.1 ne (λ e. p.differ (sym e)) (m.2 ∙ p.is) in
            let b = p.low in let e = same.1 in omega (arith, b, e, high))
            (lit_how lits l.kept own m.0),
        λ h.
            let m = in_each (lit_of lits l.kept own) lits.count (lits.before j i) h in
            ⊎_elim
            (λ (p : IsTopOf lits l.kept own m.0). apart.top_before m.0 j i m.1 within i_within en (sym (m.2 ∙ p.is)))
            (λ (p : IsPairOf lits l.kept own m.0).
            let same = apart.before_once j i own m.0 within i_within own_within m.1 en (λ e. p.differ (sym e)) (m.2 ∙ p.is) in
            let e = same.0 in omega (arith, low, e, high))
            (lit_how lits l.kept own m.0),
      )

  -- one literal more, that a row stands before one below the bound
  open_more : (m n row later : ℕ) (falses : List Lit) → m ≤ n → row < later → later < n → later < length l.tops.items
      → AreOpen m falses → AreOpen n (falses ++ negation (lits.before later row) ∷ [])
  open_more m n row later falses less row_low later_low later_within were i j i_low high within =
      let i_within : i < length l.tops.items = omega (arith, i_low, within) in
      let row_within : row < length l.tops.items = omega (arith, row_low, later_within) in
      let ne : i ≢ j = λ e. omega (arith, i_low, e) in
      let ne_row : row ≢ later = λ e. omega (arith, row_low, e) in
      let are = were i j i_low (omega (arith, less, high)) within in
      let turned : negation (lits.before later row) ≡ lits.before row later =
      apart.turned later row later_within row_within (λ e. ne_row (sym e)) in (
        λ h. ⊎_elim
            (λ (p : Contains falses (lits.before i j)). are.0 p)
            (λ (p : negation (lits.before later row) ≡ lits.before i j).
            let same = apart.before_once row later i j row_within later_within i_within within ne_row ne (sym turned ∙ p) in
            let e = same.1 in omega (arith, later_low, high, e))
            (Contains-push_cases falses (negation (lits.before later row)) (lits.before i j) h),
        λ h. ⊎_elim
            (λ (p : Contains falses (lits.before j i)). are.1 p)
            (λ (p : negation (lits.before later row) ≡ lits.before j i).
            let same = apart.before_once row later j i row_within later_within within i_within ne_row (λ e. ne (sym e))
            (sym turned ∙ p) in
            let e = same.0 in omega (arith, row_low, later_low, high, e))
            (Contains-push_cases falses (negation (lits.before later row)) (lits.before j i) h),
      )

  -- its negation is there
  turned_in : (falses : List Lit) (row later : ℕ) → row < later → later < length l.tops.items
      → Contains (falses ++ negation (lits.before later row) ∷ []) (lits.before row later)
  turned_in falses row later row_low within =
      subst (λ (x : Lit). Contains (falses ++ negation (lits.before later row) ∷ []) x)
      (apart.turned later row within (omega (arith, row_low, within)) (λ e. omega (arith, row_low, e)))
      (Contains-push falses (negation (lits.before later row)))

  -- ---- what is false

  -- after the hints of so many rows: that this row stands before one that is gone through
  record Known (n : ℕ) (falses : List Lit) : Type 0 where
    of_start : (lit : Lit) → Contains start lit → Contains falses lit
    done : (i : ℕ) → l.kept ≤ i → i < l.kept + n → Contains falses (lits.before own i)
    still : AreOpen (l.kept + n) falses

  record Reached (n : ℕ) : Type 0 where
    falses : List Lit
    added : AddTo start (clauses_at earlier (known_hints l own n)) falses
    known : Known n falses

  reached_none : Reached 0
  unfolding known_hints
  reached_none = record {
    falses = start;
    added = refl;
    known = record {
      of_start = λ lit h. h;
      done = λ i high below. absurd (omega (arith, high, below));
      still = λ i j i_low high within. open_start i j i_low (omega (arith, high)) within;
    };
  }

  -- that this row stands before one that is kept, or that was gone through
  own_false : (n row : ℕ) (falses : List Lit) → row ≢ own → row < l.kept + n → row < length l.tops.items → Known n falses
      → Contains falses (lits.before own row)
  own_false n row falses ne below within known = ⊎_elim
      (λ (low_row : row < l.kept). known.of_start (lits.before own row)
      (subst (λ (x : Lit). Contains start x) (lit_low lits l.kept own row ne low_row)
      (each_in (lit_of lits l.kept own) lits.count row within)))
      (λ (high : l.kept ≤ row). known.done row high below)
      (cases_lt row l.kept)

  module _ (n : ℕ) (within : l.kept + n < length l.tops.items) where
    abbrev later : ℕ
    later = l.kept + n

    abbrev after : ℕ
    after = later_of l later

    after_low : after < later
    after_low = laters.low later (omega arith) within

    after_within : after < length l.tops.items
    after_within = let w = after_low in omega (arith, w, within)

    own_low : own < later
    own_low = omega (arith, low)

    unit : StandsAt (IsUnit lits later after) earlier (later_place_of l later)
    unit = there.units later (omega arith) within

    unit_open : (falses : List Lit) → Known n falses
        → IsOnlyOpen falses (clause_at earlier (later_place_of l later)) (lits.before later after)
    unit_open falses known = record {
      is_in = unit.is.has;
      is_open = (known.still after later after_low (omega arith) within).1;
      others = λ other is_in differ. absurd (differ (unit.is.each other is_in));
    }

    unit_adds : (falses : List Lit) → Known n falses
        → IsAdding falses (clause_at earlier (later_place_of l later)) (lits.before later after)
    unit_adds falses known = record {
      only_open = unit_open falses known;
      fresh = λ h. (known.still after later after_low (omega arith) within).0
          (subst (λ (x : Lit). Contains falses x)
          (apart.turned later after within after_within (λ e. (let w = after_low in omega (arith, w, e)))) h);
    }

    -- what is false behind the step that says that the row stands before another
    abbrev middle : List Lit → List Lit
    middle falses = falses ++ negation (lits.before later after) ∷ []

    middle_added : (before : Reached n)
        → AddTo start (clauses_at earlier (known_hints l own n ++ later_place_of l later ∷ [])) (middle before.falses)
    middle_added before = hint_open earlier start before.falses (known_hints l own n) (later_place_of l later)
        (lits.before later after) before.added (unit_adds before.falses before.known)

    three_open : (falses : List Lit) → after ≢ own → Known n falses
        → IsOnlyOpen (middle falses) (clause_at earlier (three_of l after own later)) (lits.before later own)
    three_open falses ne known =
        let three = there.threes after own later after_low own_low within ne in
        let later_own : later ≢ own = λ e. (let w = own_low in omega (arith, w, e)) in
        let after_later : after ≢ later = λ e. (let w = after_low in omega (arith, w, e)) in
        record {
          is_in = three.is.has_next;
          is_open = λ h. ⊎_elim
              (λ (p : Contains falses (lits.before later own)). (known.still own later own_low (omega arith) within).1 p)
              (λ (p : negation (lits.before later after) ≡ lits.before later own).
              after_later (apart.before_once after later later own after_within within within own_within after_later later_own
              (sym (apart.turned later after within after_within (λ e. after_later (sym e))) ∙ p)).0)
              (Contains-push_cases falses (negation (lits.before later after)) (lits.before later own) h);
          others = λ other is_in differ. ⊎_elim
              (λ (e : other ≡ lits.before own after). Contains-append_left falses (negation (lits.before later after) ∷ []) other
              (subst (λ (x : Lit). Contains falses x) (sym e) (own_false n after falses ne after_low after_within known)))
              (λ (p : (other ≡ lits.before later own) ⊎ (other ≡ lits.before after later)). ⊎_elim
              (λ (e : other ≡ lits.before later own). absurd (differ e))
              (λ (e : other ≡ lits.before after later). subst (λ (x : Lit). Contains (middle falses) x) (sym e)
              (turned_in falses after later after_low within))
              p)
              (three.is.each other is_in);
        }

    three_adds : (falses : List Lit) → after ≢ own → Known n falses
        → IsAdding (middle falses) (clause_at earlier (three_of l after own later)) (lits.before later own)
    three_adds falses ne known =
        let later_own : later ≢ own = λ e. (let w = own_low in omega (arith, w, e)) in
        let later_after : later ≢ after = λ e. (let w = after_low in omega (arith, w, e)) in
        let own_turned : negation (lits.before later own) ≡ lits.before own later =
        apart.turned later own within own_within later_own in
        record {
          only_open = three_open falses ne known;
          fresh = λ h. ⊎_elim
              (λ (p : Contains falses (lits.before own later)). (known.still own later own_low (omega arith) within).0 p)
              (λ (p : negation (lits.before later after) ≡ lits.before own later).
              ne (apart.before_once after later own later after_within within own_within within
              (λ e. later_after (sym e)) (λ e. later_own (sym e))
              (sym (apart.turned later after within after_within later_after) ∙ p)).0)
              (Contains-push_cases falses (negation (lits.before later after)) (lits.before own later)
              (subst (λ (x : Lit). Contains (middle falses) x) own_turned h));
        }

    -- one row more, where the rest of what is false has that this row stands before it
    known_more : (falses new : List Lit) → Known n falses → ((lit : Lit) → Contains falses lit → Contains new lit)
        → Contains new (lits.before own later) → AreOpen (suc later) new → Known (suc n) new
    known_more falses new known more own_in still = record {
      of_start = λ lit h. more lit (known.of_start lit h);
      done = λ i high below. ⊎_elim
          (λ (e : i ≡ later). subst (λ (k : ℕ). Contains new (lits.before own k)) (sym e) own_in)
          (λ (ne : i ≡ later → ⊥). more (lits.before own i) (known.done i high
          (let w : i < l.kept + n = grind (arith, below, ne) in w)))
          (cases_eq i later);
      still = λ i j i_low high at_j. still i j i_low (omega (arith, high)) at_j;
    }

    middle_still : (falses : List Lit) → Known n falses → AreOpen (suc later) (middle falses)
    middle_still falses known =
        open_more later (suc later) after later falses (omega arith) after_low (omega arith) within known.still

    reached_more : Reached n → Reached (suc n)
    unfolding known_hints
    reached_more before = ⊎_elim
        (λ (e : after ≡ own). record {
          falses = middle before.falses;
          added = subst (λ (hs : List ℕ). AddTo start (clauses_at earlier hs) (middle before.falses))
              (sym (ap (λ (h : List ℕ). (known_hints l own n ++ later_place_of l later ∷ []) ++ h) (no_hint l own later after e)
              ∙ append-nil (known_hints l own n ++ later_place_of l later ∷ [])))
              (middle_added before);
          known = known_more before.falses (middle before.falses) before.known
              (λ lit h. Contains-append_left before.falses (negation (lits.before later after) ∷ []) lit h)
              (subst (λ (k : ℕ). Contains (middle before.falses) (lits.before k later)) e
              (turned_in before.falses after later after_low within))
              (middle_still before.falses before.known);
        })
        (λ (ne : after ≡ own → ⊥).
        let new = middle before.falses ++ negation (lits.before later own) ∷ [] in
        record {
          falses = new;
          added = subst (λ (h : List ℕ). AddTo start (clauses_at earlier ((known_hints l own n ++ later_place_of l later
              ∷ []) ++ h)) new)
              (sym (one_hint l own later after ne))
              (hint_open earlier start (middle before.falses) (known_hints l own n ++ later_place_of l later ∷ [])
              (three_of l after own later) (lits.before later own) (middle_added before)
              (three_adds before.falses ne before.known));
          known = known_more before.falses new before.known
              (λ lit h. Contains-append_left (middle before.falses) (negation (lits.before later own) ∷ []) lit
              (Contains-append_left before.falses (negation (lits.before later after) ∷ []) lit h))
              (turned_in (middle before.falses) own later own_low within)
              (open_more (suc later) (suc later) own later (middle before.falses) (omega arith) own_low (omega arith) within
              (middle_still before.falses before.known));
        })
        (cases_eq after own)

  reached_all : (n : ℕ) → l.kept + n ≤ length l.tops.items → Reached n
  reached_all zero within = reached_none
  reached_all (suc n) within = reached_more n (omega (arith, within)) (reached_all n (omega (arith, within)))

  -- how many rows are left out
  abbrev many : ℕ
  many = length l.tops.items - l.kept

  all_rows : l.kept + many ≡ length l.tops.items
  all_rows = let k = laters.kept in omega (arith, k)

  -- and then the clause with these rows is false
  last_false : (falses : List Lit) → Known many falses → AreFalse falses (clause_at earlier (get_or places own 0))
  last_false falses known lit is_in =
      let m = at_own.is.each lit is_in in
      let all = all_rows in
      let in_row = m.within in
      ⊎_elim
      (λ (p : IsTopOf lits (length l.tops.items) own m.row).
      let is_own : m.row ≡ own = ⊎_elim (λ (e : m.row ≡ own). e) (λ (h : length l.tops.items ≤ m.row). absurd (omega (
        arith,
        h,
        in_row,
      ))) p.who in
      known.of_start lit (subst (λ (x : Lit). Contains start x)
      (sym (m.is_lit ∙ p.is ∙ ap lits.top is_own ∙ sym (lit_own lits l.kept own)))
      (each_in (lit_of lits l.kept own) lits.count own own_within)))
      (λ (p : IsPairOf lits (length l.tops.items) own m.row).
      subst (λ (x : Lit). Contains falses x) (sym (m.is_lit ∙ p.is))
      (own_false many m.row falses p.differ (omega (arith, all, in_row)) in_row known))
      (lit_how lits (length l.tops.items) own m.row)

  -- ---- the hints

  -- all that the clause at a place says is that a row stands before another, both below a bound
  abbrev ArePairs : ℕ → ℕ → Type 0
  ArePairs m x = (lit : Lit) → Contains (clause_at earlier x) lit
      → (a : ℕ) × (b : ℕ) × (a < m) × (b < m) × (a ≢ b) × (lit ≡ lits.before a b)

  -- so it says nothing of a row from the bound on
  not_before : (m x i j : ℕ) → m ≤ i → i < length l.tops.items → j < i → ArePairs m x
      → Contains (clause_at earlier x) (lits.before i j) → ⊥
  not_before m x i j high within below are h =
      let p = are (lits.before i j) h in
      let a_low = p.2 in let b_low = p.3 in
      let same = apart.before_once i j p.0 p.1 within (omega (arith, below, within)) (omega (arith, a_low, high, within))
      (omega (arith, b_low, high, within)) (λ e. omega (arith, below, e)) p.4 p.5 in
      let e = same.0 in omega (arith, a_low, high, e)

  pairs_more : (m n x : ℕ) → m ≤ n → ArePairs m x → ArePairs n x
  pairs_more m n x less are lit h =
      let p = are lit h in
      let a_low = p.2 in let b_low = p.3 in
      (p.0, p.1, omega (arith, a_low, less), omega (arith, b_low, less), p.4, p.5)

  record IsGone (n x : ℕ) : Type 0 where
    known : x < length earlier
    pairs : ArePairs (l.kept + n) x

  gone_more : (n x : ℕ) → IsGone n x → IsGone (suc n) x
  gone_more n x gone = record {
    known = gone.known;
    pairs = pairs_more (l.kept + n) (l.kept + suc n) x (omega arith) gone.pairs;
  }

  module _ (n : ℕ) (within : l.kept + n < length l.tops.items) where
    unit_gone : IsGone (suc n) (later_place_of l (later n within))
    unit_gone = record {
      known = (unit n within).known;
      pairs = λ lit h.
          let w = after_low n within in (
            later n within,
            after n within,
            omega arith,
            omega (arith, w),
            (λ e. omega (arith, w, e)),
            (unit n within).is.each lit h,
          );
    }

    three_gone : after n within ≢ own → IsGone (suc n) (three_of l (after n within) own (later n within))
    three_gone ne =
        let w = after_low n within in
        let o = own_low n within in
        let three = there.threes (after n within) own (later n within) w o within ne in
        record {
          known = three.known;
          pairs = λ lit h. ⊎_elim
              (λ (p : lit ≡ lits.before own (after n within)).
              (own, after n within, omega (arith, o), omega (arith, w), (λ e. ne (sym e)), p))
              (λ (p : (lit ≡ lits.before (later n within) own) ⊎ (lit ≡ lits.before (after n within) (later n within))). ⊎_elim
              (λ (q : lit ≡ lits.before (later n within) own).
              (later n within, own, omega arith, omega (arith, o), (λ e. omega (arith, o, e)), q))
              (λ (q : lit ≡ lits.before (after n within) (later n within)).
              (after n within, later n within, omega (arith, w), omega arith, (λ e. omega (arith, w, e)), q))
              p)
              (three.is.each lit h);
        }

    fresh_unit : ((x : ℕ) → Contains (known_hints l own n) x → IsGone n x)
        → Contains (known_hints l own n) (later_place_of l (later n within)) → ⊥
    fresh_unit gone h =
        let x = later_place_of l (later n within) in
        not_before (l.kept + n) x (later n within) (after n within) (omega arith) within (after_low n within) (gone x h).pairs
        (unit n within).is.has

    fresh_three : after n within ≢ own → ((x : ℕ) → Contains (known_hints l own n) x → IsGone n x)
        → Contains (known_hints l own n ++ later_place_of l (later n within) ∷ [])
        (three_of l (after n within) own (later n within)) → ⊥
    fresh_three ne gone h =
        let x = three_of l (after n within) own (later n within) in
        let w = after_low n within in
        let o = own_low n within in
        let three = there.threes (after n within) own (later n within) w o within ne in
        ⊎_elim
        (λ (p : Contains (known_hints l own n) x). not_before (l.kept + n) x (later n within) own (omega arith) within o
        (gone x p).pairs three.is.has_next)
        (λ (p : later_place_of l (later n within) ≡ x).
        let same = (unit n within).is.each (lits.before (later n within) own)
        (subst (λ (k : ℕ). Contains (clause_at earlier k) (lits.before (later n within) own)) (sym p) three.is.has_next) in
        ne (sym (apart.before_once (later n within) own (later n within) (after n within) within own_within within
        (after_within n within) (λ e. omega (arith, o, e)) (λ e. omega (arith, w, e)) same).1))
        (Contains-push_cases (known_hints l own n) (later_place_of l (later n within)) x h)

  in_known : (n x : ℕ) → l.kept + n ≤ length l.tops.items → Contains (known_hints l own n) x → IsGone n x
  unfolding known_hints
  in_known zero x within h = absurd (in_none x h)
  in_known (suc n) x within h =
      let at_n : l.kept + n < length l.tops.items = omega (arith, within) in
      let place = later_place_of l (later n at_n) in
      ⊎_elim
      (λ (p : Contains (known_hints l own n ++ place ∷ []) x). ⊎_elim
      (λ (q : Contains (known_hints l own n) x). gone_more n x (in_known n x (omega (arith, within)) q))
      (λ (q : place ≡ x). subst (λ (k : ℕ). IsGone (suc n) k) q (unit_gone n at_n))
      (Contains-push_cases (known_hints l own n) place x p))
      (λ (p : Contains (three_hint l own (later n at_n) (after n at_n)) x). ⊎_elim
      (λ (e : after n at_n ≡ own). absurd (in_none x (subst (λ (hs : List ℕ). Contains hs x)
      (no_hint l own (later n at_n) (after n at_n) e) p)))
      (λ (ne : after n at_n ≡ own → ⊥).
      subst (λ (k : ℕ). IsGone (suc n) k)
      (in_one (three_of l (after n at_n) own (later n at_n)) x (subst (λ (hs : List ℕ). Contains hs x)
      (one_hint l own (later n at_n) (after n at_n) ne) p))
      (three_gone n at_n ne))
      (cases_eq (after n at_n) own))
      (Contains-append_cases (known_hints l own n ++ place ∷ []) (three_hint l own (later n at_n) (after n at_n)) x h)

  known_once : (n : ℕ) → l.kept + n ≤ length l.tops.items → OnlyOnce (known_hints l own n)
  unfolding known_hints
  known_once zero within = once_none
  known_once (suc n) within =
      let at_n : l.kept + n < length l.tops.items = omega (arith, within) in
      let place = later_place_of l (later n at_n) in
      let gone = λ (x : ℕ) (h : Contains (known_hints l own n) x). in_known n x (omega (arith, within)) h in
      let front = once_push (known_hints l own n) place (known_once n (omega (arith, within))) (fresh_unit n at_n gone) in
      ⊎_elim
      (λ (e : after n at_n ≡ own). subst (λ (hs : List ℕ). OnlyOnce hs)
      (sym (ap (λ (h : List ℕ). (known_hints l own n ++ place ∷ []) ++ h) (no_hint l own (later n at_n) (after n at_n) e)
      ∙ append-nil (known_hints l own n ++ place ∷ [])))
      front)
      (λ (ne : after n at_n ≡ own → ⊥). subst (λ (h : List ℕ). OnlyOnce ((known_hints l own n ++ place ∷ []) ++ h))
      (sym (one_hint l own (later n at_n) (after n at_n) ne))
      (once_push (known_hints l own n ++ place ∷ []) (three_of l (after n at_n) own (later n at_n)) front
      (fresh_three n at_n ne gone)))
      (cases_eq (after n at_n) own)

  own_top : Contains (clause_at earlier (get_or places own 0)) (lits.top own)
  own_top = subst (λ (x : Lit). Contains (clause_at earlier (get_or places own 0)) x) (lit_own lits (length l.tops.items) own)
      (at_own.is.all own own_within)

  fresh_last : Contains (known_hints l own many) (get_or places own 0) → ⊥
  fresh_last h =
      let all = all_rows in
      let p = (in_known many (get_or places own 0) (omega (arith, all)) h).pairs (lits.top own) own_top in
      let a_low = p.2 in let b_low = p.3 in
      apart.top_before own p.0 p.1 own_within (omega (arith, a_low, all)) (omega (arith, b_low, all)) p.4 p.5

  pub left_lean : AreLean earlier (clause_lits (literals_of l) l.kept own) (left_hints l places own)
  left_lean =
      let rows = all_rows in
      let all = reached_all many (omega (arith, rows)) in
      lean_with earlier start all.falses (known_hints l own many) (get_or places own 0)
      (once_push (known_hints l own many) (get_or places own 0) (known_once many (omega (arith, rows))) fresh_last) all.added

  pub left_follows : FollowsFrom earlier (clause_lits (literals_of l) l.kept own) (left_hints l places own)
  left_follows =
      let rows = all_rows in
      let all = reached_all many (omega (arith, rows)) in
      follows_with earlier start all.falses (known_hints l own many) (get_or places own 0)
      (λ x h. (in_known many x (omega (arith, rows)) h).known) at_own.known all.added (last_false all.falses all.known)
