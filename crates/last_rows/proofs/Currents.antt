-- That some value is current follows from the axioms `last` and the clause that some row stands last; these hints are lean.
use Rattle.std.proofs.Common.{◌≡◌, ◌<◌, ◌≤◌, ◌∙◌, ℕ, zero, suc, List, [], ◌∷◌, ◌++◌, Contains, get_or, length, refl, sym, ap, subst, ⊎_elim, arith}
use Rattle.std.proofs.lemmas.Bool.{cases_eq}
use Rattle.std.proofs.lemmas.List.Elements.{Contains-append_left, Contains-push_cases, Contains-push}
use Rattle.currency_base.specs.Literals.{negation}
use Rattle.currency_base.specs.declared.lit.Lit.{Lit}
use Rattle.refutation_log.specs.Follows.{AreFalse, IsOnlyOpen, FollowsFrom, clause_at, clauses_at}
use Rattle.lean_hints.specs.Lean.{AreLean, IsAdding}
use Rattle.last_rows.specs.Hints.{current_hints}
use Rattle.last_rows.specs.Rows.{AreApart, AreThere, IsClause, IsSomeCurrent, Literals, StandsAt, each_below, lit_of, literals_of}
use Rattle.last_rows.specs.declared.rows.RowList.{RowList}
use Rattle.last_rows.proofs.Adding.{AddTo, follows_with, hint_open, lean_with}
use Rattle.last_rows.proofs.Below.{in_each, lit_high, lit_own, once_each, once_push}

module _ (l : RowList) (earlier : List (List Lit)) (names : List Lit) (place : ℕ)
    (apart : AreApart (literals_of l)) (there : AreThere l earlier)
    (at_last : StandsAt (IsClause (literals_of l) 1 0) earlier place)
    (current : IsSomeCurrent (literals_of l) names) where
  abbrev lits : Literals
  lits = literals_of l

  abbrev place_of : ℕ → ℕ
  place_of row = get_or l.last_places.items row 0

  -- what is false after so many hints: the names, and that the rows so far stand last
  record Known (n : ℕ) (falses : List Lit) : Type 0 where
    of_names : (lit : Lit) → Contains names lit → Contains falses lit
    done : (i : ℕ) → i < n → Contains falses (lits.top i)
    still : (i : ℕ) → i < lits.count → Contains falses (negation (lits.top i)) → ⊥
    ahead : (i : ℕ) → n ≤ i → i < lits.count → Contains falses (lits.top i) → ⊥

  record Reached (n : ℕ) : Type 0 where
    falses : List Lit
    added : AddTo names (clauses_at earlier (each_below place_of n)) falses
    known : Known n falses

  reached_none : Reached 0
  unfolding each_below
  reached_none = record {
    falses = names;
    added = refl;
    known = record {
      of_names = λ lit h. h;
      done = λ i below. absurd (omega (arith, below));
      still = λ i within h. let m = current.each (negation (lits.top i)) h in apart.not_name i m.0 within m.1 m.2;
      ahead = λ i high within h. let m = current.each (lits.top i) h in apart.top_name i m.0 within m.1 m.2;
    };
  }

  last_open : (n : ℕ) (falses : List Lit) → n < lits.count → Known n falses
      → IsOnlyOpen falses (clause_at earlier (place_of n)) (negation (lits.top n))
  last_open n falses within known =
      let one = there.lasts n within in
      record {
        is_in = one.is.has;
        is_open = known.still n within;
        others = λ other is_in differ. ⊎_elim
            (λ (e : other ≡ negation (lits.top n)). absurd (differ e))
            (λ (e : other ≡ lits.name n). known.of_names other (subst (λ (x : Lit). Contains names x) (sym e) (current.all n within)))
            (one.is.each other is_in);
      }

  last_adds : (n : ℕ) (falses : List Lit) → n < lits.count → Known n falses
      → IsAdding falses (clause_at earlier (place_of n)) (negation (lits.top n))
  last_adds n falses within known = record {
    only_open = last_open n falses within known;
    fresh = λ h. known.ahead n (omega arith) within
        (subst (λ (x : Lit). Contains falses x) (apart.twice n within) h);
  }

  reached_more : (n : ℕ) → n < lits.count → Reached n → Reached (suc n)
  unfolding each_below
  reached_more n within before =
      let not_top = negation (lits.top n) in
      let more = negation not_top in
      record {
        falses = before.falses ++ more ∷ [];
        added = hint_open earlier names before.falses (each_below place_of n) (place_of n) not_top before.added
            (last_adds n before.falses within before.known);
        known = record {
          of_names = λ lit h. Contains-append_left before.falses (more ∷ []) lit (before.known.of_names lit h);
          done = λ i below. ⊎_elim
              (λ (e : i ≡ n). subst (λ (x : Lit). Contains (before.falses ++ more ∷ []) x)
              (apart.twice n within ∙ ap lits.top (sym e)) (Contains-push before.falses more))
              (λ (ne : i ≡ n → ⊥). Contains-append_left before.falses (more ∷ []) (lits.top i) (before.known.done i
              (let w : i < n = grind (arith, below, ne) in w)))
              (cases_eq i n);
          still = λ i i_within h. ⊎_elim
              (λ (p : Contains before.falses (negation (lits.top i))). before.known.still i i_within p)
              (λ (p : more ≡ negation (lits.top i)). apart.not_top i n i_within within (sym p ∙ apart.twice n within))
              (Contains-push_cases before.falses more (negation (lits.top i)) h);
          ahead = λ i high i_within h. ⊎_elim
              (λ (p : Contains before.falses (lits.top i)). before.known.ahead i (omega (arith, high)) i_within p)
              (λ (p : more ≡ lits.top i).
              let same = apart.top_once n i within i_within (sym (apart.twice n within) ∙ p) in
              omega (arith, high, same))
              (Contains-push_cases before.falses more (lits.top i) h);
        };
      }

  reached_all : (n : ℕ) → n ≤ lits.count → Reached n
  reached_all zero within = reached_none
  reached_all (suc n) within = reached_more n (omega (arith, within)) (reached_all n (omega (arith, within)))

  -- a literal of the clause that some row stands last
  top_lit : (row : ℕ) → lit_of lits 1 0 row ≡ lits.top row
  top_lit zero = lit_own lits 1 0
  top_lit (suc row) = lit_high lits 1 0 (suc row) (omega arith)

  last_false : (falses : List Lit) → Known lits.count falses → AreFalse falses (clause_at earlier place)
  last_false falses known lit is_in =
      let m = at_last.is.each lit is_in in
      subst (λ (x : Lit). Contains falses x) (sym (m.is_lit ∙ top_lit m.row)) (known.done m.row m.within)

  known_hint : (x : ℕ) → Contains (each_below place_of lits.count) x → x < length earlier
  known_hint x h =
      let m = in_each place_of lits.count x h in
      subst (λ (k : ℕ). k < length earlier) (sym m.2) (there.lasts m.0 m.1).known

  pub current_follows : FollowsFrom earlier names (current_hints l (length l.tops.items) place)
  current_follows =
      let all = reached_all lits.count (omega arith) in
      follows_with earlier names all.falses (each_below place_of lits.count) place known_hint at_last.known all.added
      (last_false all.falses all.known)

  -- ---- no hint twice

  places_once : (i j : ℕ) → i < lits.count → j < lits.count → place_of i ≡ place_of j → i ≡ j
  places_once i j at_i at_j e =
      let one = there.lasts i at_i in
      let other = there.lasts j at_j in
      ⊎_elim
      (λ (p : negation (lits.top i) ≡ negation (lits.top j)).
      apart.top_once i j at_i at_j (sym (apart.twice i at_i) ∙ ap negation p ∙ apart.twice j at_j))
      (λ (p : negation (lits.top i) ≡ lits.name j). absurd (apart.not_name i j at_i at_j p))
      (other.is.each (negation (lits.top i)) (subst (λ (k : ℕ). Contains (clause_at earlier k) (negation (lits.top i))) e one.is.has))

  fresh_last : Contains (each_below place_of lits.count) place → ⊥
  fresh_last h =
      let m = in_each place_of lits.count place h in
      let one = there.lasts m.0 m.1 in
      let r = at_last.is.each (negation (lits.top m.0))
      (subst (λ (k : ℕ). Contains (clause_at earlier k) (negation (lits.top m.0))) (sym m.2) one.is.has) in
      apart.not_top m.0 r.row m.1 r.within (r.is_lit ∙ top_lit r.row)

  -- and each but the last adds a literal
  pub current_lean : AreLean earlier names (current_hints l (length l.tops.items) place)
  current_lean =
      let all = reached_all lits.count (omega arith) in
      lean_with earlier names all.falses (each_below place_of lits.count) place
      (once_push (each_below place_of lits.count) place (once_each place_of lits.count places_once) fresh_last) all.added
