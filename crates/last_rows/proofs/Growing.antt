-- Steps that are put after the others, and how far they came.
use Rattle.std.proofs.Common.{◌≡◌, ◌≢◌, ◌<◌, ◌≤◌, ◌∙◌, ◌+◌, OnOk, Result, Ok, Err, ℕ, suc, false, List, [], ◌∷◌, ◌++◌, Contains, Some, get_or, length, set, take, slice_get, refl, sym, ap, subst, inl, inr, ⊎_elim, arith}
use Rattle.std.proofs.lemmas.Bool.{cases_eq}
use Rattle.std.proofs.lemmas.List.{get_or-set_same, get_or-set_other, get_or_append_left, length-append, length-map, length-set, map-append, take-append-le, append_assoc}
use Rattle.std.proofs.Math.Seq.{get_or-append_seam, take-append_seam}
use Rattle.std.proofs.lemmas.Option.{slice_get_within}
use Rattle.currency_base.specs.Literals.{var_of}
use Rattle.currency_base.specs.declared.lit.Lit.{Lit}
use Rattle.refutation_log.specs.Follows.{FollowsFrom}
use Rattle.refutation_log.specs.Steps.{clause_of, clauses_of}
use Rattle.refutation_log.specs.declared.step.Step.{Step}
use Rattle.refutation_log.specs.declared.step.Step.TheVariants.{Learn}
use Rattle.lean_hints.specs.Lean.{AreLean}
use Rattle.last_rows.specs.Hints.{current_hints, left_hints, row_hints}
use Rattle.last_rows.specs.Rows.{AreApart, AreDerived, AreThere, AreWithin, EndsCurrent, IsClause, IsDerivedStep, IsLast, IsPlaced, IsSomeCurrent, IsThree, IsUnit, Literals, StandsAt, clause_lits, later_of, lit_of, literals_of, three_of}
use Rattle.last_rows.specs.Underway.{AreNames, HasRow, IsBetween, IsUnderway}
use Rattle.last_rows.specs.declared.derivation.Derivation.{Derivation}
use Rattle.last_rows.specs.declared.rows.RowList.{RowList}
use Rattle.last_rows.proofs.Below.{IsPairOf, IsTopOf, clause_once, each_in, get_push, in_each, lit_how}
use Rattle.last_rows.proofs.Currents.{current_follows, current_lean}
use Rattle.last_rows.proofs.Following.{row_follows, row_lean}
use Rattle.last_rows.proofs.Leaving.{left_follows, left_lean}

-- ---- two facts of one result

pub on_ok_both : {T E P Q R : Type 0} → (r : Result T E) → (P → Q → R) → OnOk r P → OnOk r Q → OnOk r R
on_ok_both (Ok x) f p q = f p q
on_ok_both (Err e) f p q = tt

-- ---- more clauses

pub stands_more : (P : List Lit → Type 0) (clauses more : List (List Lit)) (place : ℕ) → StandsAt P clauses place
    → StandsAt P (clauses ++ more) place
stands_more P clauses more place stands = record {
  known = (let all = length-append clauses more in let w = stands.known in omega (arith, all, w));
  is = subst P (sym (get_or_append_left clauses more [] place stands.known)) stands.is;
}

there_more : (l : RowList) (clauses more : List (List Lit)) → AreThere l clauses → AreThere l (clauses ++ more)
there_more l clauses more there = record {
  as_many = there.as_many;
  as_many_lasts = there.as_many_lasts;
  tops = λ row within. stands_more (IsClause (literals_of l) (length l.tops.items) row) clauses more _ (there.tops row within);
  lasts = λ row within. stands_more (IsLast (literals_of l) row) clauses more _ (there.lasts row within);
  threes = λ first second third a b c d. stands_more (IsThree (literals_of l) first second third) clauses more
      (three_of l first second third) (there.threes first second third a b c d);
  units = λ row kept within. stands_more (IsUnit (literals_of l) row (later_of l row)) clauses more _ (there.units row kept within);
}

-- one step more is one clause more
clauses_push : (earlier : List (List Lit)) (steps : List Step) (lits : List Lit) (hints : List ℕ)
    → earlier ++ clauses_of (steps ++ Learn lits hints false ∷ []) ≡ (earlier ++ clauses_of steps) ++ lits ∷ []
clauses_push earlier steps lits hints =
    ap (λ (cs : List (List Lit)). earlier ++ cs) (map-append clause_of steps (Learn lits hints false ∷ []))
    ∙ sym (append_assoc earlier (clauses_of steps) (lits ∷ []))

derived_more : (l : Literals) (earlier : List (List Lit)) (steps : List Step) (x : Step) → AreDerived l earlier steps
    → IsDerivedStep l (earlier ++ clauses_of steps) x → AreDerived l earlier (steps ++ x ∷ [])
derived_more l earlier steps x were is place taken at = ⊎_elim
    (λ (p : slice_get steps place ≡ Some taken).
    subst (λ (ss : List Step). IsDerivedStep l (earlier ++ clauses_of ss) taken)
    (sym (take-append-le place steps (x ∷ []) (let w = slice_get_within steps place taken p in omega (arith, w))))
    (were place taken p))
    (λ (p : (place ≡ length steps) × (x ≡ taken)).
    subst (λ (n : ℕ). IsDerivedStep l (earlier ++ clauses_of (take n (steps ++ x ∷ []))) taken) (sym p.0)
    (subst (λ (ss : List Step). IsDerivedStep l (earlier ++ clauses_of ss) taken) (sym (take-append_seam steps (x ∷ [])))
    (subst (λ (t : Step). IsDerivedStep l (earlier ++ clauses_of steps) t) p.1 is)))
    (get_push steps x place taken at)

-- ---- the clause of a row

clause_is : (l : Literals) (first own : ℕ) → IsClause l first own (clause_lits l first own)
clause_is l first own = record {
  each = λ lit h. let m = in_each (lit_of l first own) l.count lit h in record { row = m.0; within = m.1; is_lit = m.2 };
  all = λ row within. each_in (lit_of l first own) l.count row within;
}

clause_within : (l : Literals) (first own : ℕ) → own < l.count → (vars : ℕ) → AreWithin vars l → (lit : Lit)
    → Contains (clause_lits l first own) lit → var_of lit < vars
clause_within l first own own_within vars within lit h =
    let m = in_each (lit_of l first own) l.count lit h in
    ⊎_elim
    (λ (p : IsTopOf l first own m.0). subst (λ (x : Lit). var_of x < vars) (sym (m.2 ∙ p.is)) (within.tops m.0 m.1))
    (λ (p : IsPairOf l first own m.0). subst (λ (x : Lit). var_of x < vars) (sym (m.2 ∙ p.is))
    (within.befores own m.0 own_within m.1 (λ e. p.differ (sym e))))
    (lit_how l first own m.0)

module _ (l : RowList) (earlier : List (List Lit)) (d : Derivation) (own first more : ℕ) (hints : List ℕ)
    (apart : AreApart (literals_of l)) (few : first ≤ length l.tops.items) (low : own < first)
    (between : IsBetween l earlier d more first own)
    (follows : FollowsFrom (earlier ++ clauses_of d.steps) (clause_lits (literals_of l) first own) hints)
    (lean : AreLean (earlier ++ clauses_of d.steps) (clause_lits (literals_of l) first own) hints) where
  own_within : own < length l.tops.items
  own_within = omega (arith, low, few)

  row_step : IsDerivedStep (literals_of l) (earlier ++ clauses_of d.steps)
      (Learn (clause_lits (literals_of l) first own) hints false)
  row_step = record {
    lits = clause_lits (literals_of l) first own;
    hints = hints;
    is_step = refl;
    of_rows = inl (record {
      first = first;
      own = own;
      own_within = own_within;
      is = clause_is (literals_of l) first own;
    });
    within = clause_within (literals_of l) first own own_within;
    once = clause_once (literals_of l) apart first own few own_within;
    follows = follows;
    lean = lean;
  }

  pub row_more : (new : Derivation) → new.steps ≡ d.steps ++ Learn (clause_lits (literals_of l) first own) hints false ∷ []
      → new.places.items ≡ set d.places.items own (length earlier + length d.steps)
      → IsBetween l earlier new more first (own + 1)
  row_more new steps_are places_are =
      let before = earlier ++ clauses_of d.steps in
      let clause = clause_lits (literals_of l) first own in
      let after : earlier ++ clauses_of new.steps ≡ before ++ clause ∷ [] =
      ap (λ (ss : List Step). earlier ++ clauses_of ss) steps_are
      ∙ clauses_push earlier d.steps clause hints in
      let many = between.as_many in
      let count : length before ≡ length earlier + length d.steps =
      length-append earlier (clauses_of d.steps)
      ∙ ap (λ (n : ℕ). length earlier + n) (length-map d.steps clause_of) in
      let kept : (row : ℕ) (P : List Lit → Type 0) → row ≢ own → StandsAt P before (get_or d.places.items row 0)
      → StandsAt P (earlier ++ clauses_of new.steps) (get_or new.places.items row 0) = λ row P differ stands.
      subst (λ (cs : List (List Lit)). StandsAt P cs (get_or new.places.items row 0)) (sym after)
      (subst (λ (n : ℕ). StandsAt P (before ++ clause ∷ []) n)
      (sym (ap (λ (ps : List ℕ). get_or ps row 0) places_are ∙ get_or-set_other d.places.items own row
      (length earlier + length d.steps) 0 differ))
      (stands_more P before (clause ∷ []) (get_or d.places.items row 0) stands)) in
      let here : get_or new.places.items own 0 ≡ length before =
      ap (λ (ps : List ℕ). get_or ps own 0) places_are
      ∙ get_or-set_same d.places.items own (length earlier + length d.steps) 0
      (let w = own_within in omega (arith, w, many)) ∙ sym count in
      let stands : StandsAt (IsClause (literals_of l) first own) (before ++ clause ∷ []) (length before) = record {
        known = (let all = length-append before (clause ∷ []) in omega (arith, all));
        is = subst (IsClause (literals_of l) first own) (sym (get_or-append_seam before clause [] []))
            (clause_is (literals_of l) first own);
      } in
      record {
        derived = subst (AreDerived (literals_of l) earlier) (sym steps_are)
            (derived_more (literals_of l) earlier d.steps (Learn clause hints false) between.derived row_step);
        as_many = ap length places_are ∙ length-set d.places.items own (length earlier + length d.steps) ∙ many;
        done = λ row next_low row_low. ⊎_elim
            (λ (e : row ≡ own). subst (λ (k : ℕ). HasRow l earlier new first k) (sym e)
            (subst (λ (cs : List (List Lit)). StandsAt (IsClause (literals_of l) first own) cs (get_or new.places.items own 0))
            (sym after)
            (subst (λ (n : ℕ). StandsAt (IsClause (literals_of l) first own) (before ++ clause ∷ []) n) (sym here) stands)))
            (λ (ne : row ≡ own → ⊥). kept row (IsClause (literals_of l) first row) ne
            (between.done row (let w : row < own = grind (arith, next_low, ne) in w) row_low))
            (cases_eq row own);
        left = λ row next_low row_low row_within. kept row (IsClause (literals_of l) more row)
            (λ e. omega (arith, next_low, e))
            (between.left row (omega (arith, next_low)) row_low row_within);
      }

-- the clause of a row without a later one
pub later_more : (l : RowList) (earlier : List (List Lit)) (d : Derivation) (own later : ℕ) → AreApart (literals_of l)
    → IsPlaced l earlier → later < length l.tops.items → own < later → IsUnderway l earlier d later own
    → (new : Derivation) → new.steps ≡ d.steps ++ Learn (clause_lits (literals_of l) later own)
    (row_hints l d.places.items own later) false ∷ []
    → new.places.items ≡ set d.places.items own (length earlier + length d.steps)
    → IsUnderway l earlier new later (own + 1)
later_more l earlier d own later apart placed high low underway =
    let before = earlier ++ clauses_of d.steps in
    let there = there_more l earlier (clauses_of d.steps) placed.there in
    let at_own = underway.left own (omega arith) (omega (arith, low)) (omega (arith, low, high)) in
    let at_later = underway.left later (omega (arith, low)) (omega arith) high in
    row_more l earlier d own later (suc later) (row_hints l d.places.items own later) apart (omega (arith, high)) low underway
    (row_follows l before d.places.items own later apart there low high at_own at_later)
    (row_lean l before d.places.items own later apart there low high at_own at_later)

-- the clause of a row without those of which a later one is known
pub left_more : (l : RowList) (earlier : List (List Lit)) (d : Derivation) (own : ℕ) → AreApart (literals_of l)
    → IsPlaced l earlier → own < l.kept → IsBetween l earlier d (length l.tops.items) l.kept own
    → (new : Derivation) → new.steps ≡ d.steps ++ Learn (clause_lits (literals_of l) l.kept own)
    (left_hints l d.places.items own) false ∷ []
    → new.places.items ≡ set d.places.items own (length earlier + length d.steps)
    → IsBetween l earlier new (length l.tops.items) l.kept (own + 1)
left_more l earlier d own apart placed low between =
    let few = placed.laters.kept in
    let before = earlier ++ clauses_of d.steps in
    let there = there_more l earlier (clauses_of d.steps) placed.there in
    let own_within : own < length l.tops.items = omega (arith, low, few) in
    let at_own = between.left own (omega arith) own_within own_within in
    row_more l earlier d own l.kept (length l.tops.items) (left_hints l d.places.items own) apart few low between
    (left_follows l before d.places.items own apart there placed.laters low at_own)
    (left_lean l before d.places.items own apart there placed.laters low at_own)

-- ---- one row after another

pub between_none : (l : RowList) (earlier : List (List Lit)) (d : Derivation) → IsPlaced l earlier → d.steps ≡ []
    → d.places.items ≡ l.top_places.items → IsBetween l earlier d (length l.tops.items) l.kept 0
between_none l earlier d placed no_steps places_are = record {
  derived = subst (AreDerived (literals_of l) earlier) (sym no_steps)
      (λ place taken at. let no : ⊥ = cc in absurd no);
  as_many = ap length places_are ∙ placed.there.as_many;
  done = λ row below row_low. absurd (omega (arith, below));
  left = λ row below row_low within.
      stands_more (IsClause (literals_of l) (length l.tops.items) row) earlier (clauses_of d.steps) (get_or d.places.items row 0)
      (subst (λ (ps : List ℕ). StandsAt (IsClause (literals_of l) (length l.tops.items) row) earlier (get_or ps row 0))
      (sym places_are) (placed.there.tops row within));
}

-- where the clauses of all first rows, so many, are such, those without the last of them come next
pub underway_next : (l : RowList) (earlier : List (List Lit)) (d : Derivation) (more later before : ℕ) → later ≡ suc before
    → IsBetween l earlier d more later later → IsUnderway l earlier d before 0
underway_next l earlier d more later before next between = record {
  derived = between.derived;
  as_many = between.as_many;
  done = λ row below row_low. absurd (omega (arith, below));
  left = λ row below row_low within.
      subst (λ (n : ℕ). HasRow l earlier d n row) next
      (between.done row (omega (arith, row_low, next)) (omega (arith, row_low, next)));
}

-- ---- that some value is current

current_is : (l : Literals) (names : List Lit) → AreNames l l.count names → IsSomeCurrent l names
current_is l names are = record { each = are.each; all = are.all }

module _ (l : RowList) (earlier : List (List Lit)) (d : Derivation) (names : List Lit) (apart : AreApart (literals_of l))
    (placed : IsPlaced l earlier) (some : 0 < length l.tops.items)
    (underway : IsUnderway l earlier d 0 0) (are : AreNames (literals_of l) (length l.tops.items) names) where
  some_last : HasRow l earlier d 1 0
  some_last = underway.left 0 (omega arith) (omega arith) some

  abbrev hints : List ℕ
  hints = current_hints l (length l.tops.items) (get_or d.places.items 0 0)

  current_step : IsDerivedStep (literals_of l) (earlier ++ clauses_of d.steps) (Learn names hints false)
  current_step =
      let there = there_more l earlier (clauses_of d.steps) placed.there in
      let current = current_is (literals_of l) names are in
      let place = get_or d.places.items 0 0 in
      record {
        lits = names;
        hints = hints;
        is_step = refl;
        of_rows = inr current;
        within = λ vars within lit h. let m = are.each lit h in subst (λ (x : Lit). var_of x < vars) (sym m.2)
            (within.names m.0 m.1);
        once = are.once;
        follows = current_follows l (earlier ++ clauses_of d.steps) names place apart there some_last current;
        lean = current_lean l (earlier ++ clauses_of d.steps) names place apart there some_last current;
      }

  pub current_derived : (new : List Step) → new ≡ d.steps ++ Learn names hints false ∷ []
      → AreDerived (literals_of l) earlier new
  current_derived new steps_are = subst (AreDerived (literals_of l) earlier) (sym steps_are)
      (derived_more (literals_of l) earlier d.steps (Learn names hints false) underway.derived current_step)

  pub current_ends : (new : List Step) → new ≡ d.steps ++ Learn names hints false ∷ []
      → EndsCurrent (literals_of l) earlier new
  current_ends new steps_are = record {
    front = d.steps;
    lits = names;
    hints = hints;
    steps_are = steps_are;
    current = current_is (literals_of l) names are;
    place = get_or d.places.items 0 0;
    last = some_last;
  }
