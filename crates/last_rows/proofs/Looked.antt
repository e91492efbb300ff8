-- What a look at the axioms shows.
use Rattle.std.proofs.Common.{◌≡◌, ◌≢◌, ◌⊎◌, ◌<◌, ◌≤◌, ◌∙◌, ◌+◌, ℕ, List, [], ◌∷◌, Contains, Some, get_or, length, slice_get, sym, subst, inl, inr, ⊎_elim, arith}
use Rattle.std.proofs.lemmas.Bool.{cases_eq}
use Rattle.std.proofs.lemmas.Option.{get_or_from_slice_get, slice_get_within}
use Rattle.std.proofs.lemmas.List.Elements.{Contains-append_cases, Contains-append_left, Contains-push}
use Rattle.currency_base.specs.Literals.{negation}
use Rattle.currency_base.specs.declared.lit.Lit.{Lit}
use Rattle.refutation_log.specs.Follows.{clause_at}
use Rattle.last_rows.specs.Looks.{AreAlike, AreAmong, AreLasts, AreTops, AreUnits, IsShaped, ThreesAt, ThreesBelow, ThreesOf}
use Rattle.last_rows.specs.Rows.{IsClause, IsLast, IsPlaced, IsThree, IsUnit, StandsAt, clause_lits, later_of, later_place_of, lit_of, literals_of, three_of}
use Rattle.last_rows.specs.declared.rows.RowList.{RowList}
use Rattle.last_rows.proofs.Below.{each_in, in_each, in_one}

-- one of two, one of three
in_two : (x a b : Lit) → Contains (a ∷ b ∷ []) x → (x ≡ a) ⊎ (x ≡ b)
in_two x a b h = ⊎_elim
    (λ (p : Contains (a ∷ []) x). inl (sym (in_one a x p)))
    (λ (p : Contains (b ∷ []) x). inr (sym (in_one b x p)))
    (Contains-append_cases (a ∷ []) (b ∷ []) x h)

in_three : (x a b c : Lit) → Contains (a ∷ b ∷ c ∷ []) x → (x ≡ a) ⊎ ((x ≡ b) ⊎ (x ≡ c))
in_three x a b c h = ⊎_elim
    (λ (p : Contains (a ∷ []) x). inl (sym (in_one a x p)))
    (λ (p : Contains (b ∷ c ∷ []) x). inr (in_two x b c p))
    (Contains-append_cases (a ∷ []) (b ∷ c ∷ []) x h)

pub three_seen : (l : RowList) (clauses : List (List Lit)) (first second third place : ℕ) (a b c : Lit)
    → a ≡ (literals_of l).before second first → b ≡ (literals_of l).before third second → c ≡ (literals_of l).before first third
    → place ≡ three_of l first second third → AreAlike clauses place (a ∷ b ∷ c ∷ [])
    → StandsAt (IsThree (literals_of l) first second third) clauses (three_of l first second third)
three_seen l clauses first second third place a b c is_a is_b is_c at alike =
    subst (λ (n : ℕ). StandsAt (IsThree (literals_of l) first second third) clauses n) at (record {
      known = alike.known;
      is = record {
        each = λ lit h. ⊎_elim
            (λ (p : lit ≡ a). inl (p ∙ is_a))
            (λ (p : (lit ≡ b) ⊎ (lit ≡ c)). inr (⊎_elim (λ (q : lit ≡ b). inl (q ∙ is_b)) (λ (q : lit ≡ c). inr (q ∙ is_c)) p))
            (in_three lit a b c (alike.each lit h));
        has = subst (λ (x : Lit). Contains (clause_at clauses place) x) is_c
            (alike.all c (Contains-push (a ∷ b ∷ []) c));
        has_next = subst (λ (x : Lit). Contains (clause_at clauses place) x) is_b
            (alike.all b (Contains-append_left (a ∷ b ∷ []) (c ∷ []) b (Contains-push (a ∷ []) b)));
      };
    })

pub unit_seen : (l : RowList) (clauses : List (List Lit)) (row place : ℕ) (a : Lit)
    → a ≡ (literals_of l).before row (later_of l row) → place ≡ later_place_of l row → AreAlike clauses place (a ∷ [])
    → StandsAt (IsUnit (literals_of l) row (later_of l row)) clauses (later_place_of l row)
unit_seen l clauses row place a is_a at alike =
    subst (λ (n : ℕ). StandsAt (IsUnit (literals_of l) row (later_of l row)) clauses n) at (record {
      known = alike.known;
      is = record {
        each = λ lit h. sym (in_one a lit (alike.each lit h)) ∙ is_a;
        has = subst (λ (x : Lit). Contains (clause_at clauses place) x) is_a (alike.all a (Contains-push [] a));
      };
    })

pub last_seen : (l : RowList) (clauses : List (List Lit)) (row place : ℕ) (a b : Lit)
    → a ≡ negation ((literals_of l).top row) → b ≡ (literals_of l).name row
    → AreAmong clauses place (a ∷ b ∷ []) a → StandsAt (IsLast (literals_of l) row) clauses place
last_seen l clauses row place a b is_a is_b among = record {
  known = among.known;
  is = record {
    each = λ lit h. ⊎_elim (λ (p : lit ≡ a). inl (p ∙ is_a)) (λ (p : lit ≡ b). inr (p ∙ is_b)) (in_two lit a b (among.each lit h));
    has = subst (λ (x : Lit). Contains (clause_at clauses place) x) is_a among.has;
  };
}

pub top_seen : (l : RowList) (clauses : List (List Lit)) (row place : ℕ) (lits : List Lit)
    → lits ≡ clause_lits (literals_of l) (length l.tops.items) row
    → AreAlike clauses place lits → StandsAt (IsClause (literals_of l) (length l.tops.items) row) clauses place
top_seen l clauses row place lits is alike = record {
  known = alike.known;
  is = record {
    each = λ lit h.
        let m = in_each (lit_of (literals_of l) (length l.tops.items) row) (length l.tops.items) lit
        (subst (λ (xs : List Lit). Contains xs lit) is (alike.each lit h)) in
        record { row = m.0; within = m.1; is_lit = m.2 };
    all = λ other within. alike.all (lit_of (literals_of l) (length l.tops.items) row other)
        (subst (λ (xs : List Lit). Contains xs (lit_of (literals_of l) (length l.tops.items) row other)) (sym is)
        (each_in (lit_of (literals_of l) (length l.tops.items) row) (length l.tops.items) other within));
  };
}

pub alike_seen : (clauses : List (List Lit)) (place : ℕ) (lits found : List Lit) → slice_get clauses place ≡ Some found
    → ((lit : Lit) → Contains lits lit → Contains found lit) → ((lit : Lit) → Contains found lit → Contains lits lit)
    → AreAlike clauses place lits
alike_seen clauses place lits found at all each = record {
  known = slice_get_within clauses place found at;
  each = λ lit h. each lit (subst (λ (xs : List Lit). Contains xs lit) (get_or_from_slice_get clauses place found [] at) h);
  all = λ lit h. subst (λ (xs : List Lit). Contains xs lit) (sym (get_or_from_slice_get clauses place found [] at)) (all lit h);
}

-- ---- one after another

pub tops_more : (l : RowList) (clauses : List (List Lit)) (n : ℕ) → AreTops l clauses n
    → StandsAt (IsClause (literals_of l) (length l.tops.items) n) clauses (get_or l.top_places.items n 0) → AreTops l clauses (n + 1)
tops_more l clauses n were is row below = ⊎_elim
    (λ (e : row ≡ n). subst (λ (k : ℕ). StandsAt (IsClause (literals_of l) (length l.tops.items) k) clauses (get_or l.top_places.items
    k 0)) (sym e) is)
    (λ (ne : row ≡ n → ⊥). were row (let w : row < n = grind (arith, below, ne) in w))
    (cases_eq row n)

pub lasts_more : (l : RowList) (clauses : List (List Lit)) (n : ℕ) → AreLasts l clauses n
    → StandsAt (IsLast (literals_of l) n) clauses (get_or l.last_places.items n 0) → AreLasts l clauses (n + 1)
lasts_more l clauses n were is row below = ⊎_elim
    (λ (e : row ≡ n). subst (λ (k : ℕ). StandsAt (IsLast (literals_of l) k) clauses (get_or l.last_places.items k 0)) (sym e) is)
    (λ (ne : row ≡ n → ⊥). were row (let w : row < n = grind (arith, below, ne) in w))
    (cases_eq row n)

pub units_more : (l : RowList) (clauses : List (List Lit)) (n : ℕ) → AreUnits l clauses n
    → StandsAt (IsUnit (literals_of l) n (later_of l n)) clauses (later_place_of l n) → AreUnits l clauses (n + 1)
units_more l clauses n were is row high below = ⊎_elim
    (λ (e : row ≡ n). subst (λ (k : ℕ). StandsAt (IsUnit (literals_of l) k (later_of l k)) clauses (later_place_of l k)) (sym e) is)
    (λ (ne : row ≡ n → ⊥). were row high (let w : row < n = grind (arith, below, ne) in w))
    (cases_eq row n)

pub threes_below_more : (l : RowList) (clauses : List (List Lit)) (n : ℕ) → ThreesBelow l clauses n → ThreesOf l clauses n n
    → ThreesBelow l clauses (n + 1)
threes_below_more l clauses n were is first second third a b below differ = ⊎_elim
    (λ (e : third ≡ n). subst (λ (k : ℕ). StandsAt (IsThree (literals_of l) first second k) clauses (three_of l first second k)) (sym e)
    (is first second (omega (arith, a, e)) (omega (arith, b, e)) differ))
    (λ (ne : third ≡ n → ⊥). were first second third a b (let w : third < n = grind (arith, below, ne) in w) differ)
    (cases_eq third n)

pub threes_of_more : (l : RowList) (clauses : List (List Lit)) (third n : ℕ) → ThreesOf l clauses third n
    → ThreesAt l clauses n third third → ThreesOf l clauses third (n + 1)
threes_of_more l clauses third n were is first second a below differ = ⊎_elim
    (λ (e : second ≡ n). subst (λ (k : ℕ). StandsAt (IsThree (literals_of l) first k third) clauses (three_of l first k third)) (sym e)
    (is first a (λ s. differ (s ∙ sym e))))
    (λ (ne : second ≡ n → ⊥). were first second a (let w : second < n = grind (arith, below, ne) in w) differ)
    (cases_eq second n)

pub threes_at_more : (l : RowList) (clauses : List (List Lit)) (second third n : ℕ) → ThreesAt l clauses second third n
    → (n ≢ second → StandsAt (IsThree (literals_of l) n second third) clauses (three_of l n second third))
    → ThreesAt l clauses second third (n + 1)
threes_at_more l clauses second third n were is first below differ = ⊎_elim
    (λ (e : first ≡ n). subst (λ (k : ℕ). StandsAt (IsThree (literals_of l) k second third) clauses (three_of l k second third)) (sym e)
    (is (λ s. differ (e ∙ s))))
    (λ (ne : first ≡ n → ⊥). were first (let w : first < n = grind (arith, below, ne) in w) differ)
    (cases_eq first n)

-- ---- all of it

pub placed : (l : RowList) (clauses : List (List Lit)) → IsShaped l → length clauses ≤ 4294967296
    → AreTops l clauses (length l.tops.items) → AreLasts l clauses (length l.tops.items)
    → AreUnits l clauses (length l.tops.items) → ThreesBelow l clauses (length l.tops.items) → IsPlaced l clauses
placed l clauses shaped few tops lasts units threes = record {
  square = shaped.square;
  laters = shaped.laters;
  few_rows = shaped.few;
  few = few;
  there = record {
    as_many = shaped.top_places;
    as_many_lasts = shaped.last_places;
    tops = tops;
    lasts = lasts;
    threes = threes;
    units = units;
  };
}
