-- Marks where one literal more is marked, and where marks are taken off.
use Rattle.std.proofs.Common.{◌≡◌, ◌⊎◌, ◌≢◌, ◌+◌, ◌*◌, ◌/◌, ◌%◌, ◌<◌, ◌≤◌, ◌==◌, ℕ, Bool, true, false, cond, if◌then◌else◌, List, [], ◌∷◌, ◌++◌, length, get_or, set, drop, sym, ap, subst, ◌∙◌, inl, inr, arith, refl, Contains, get_or-set_same, get_or-set_other}
use Rattle.std.proofs.lemmas.Bool.{cases_eq, cases_lt, eqb-true, eqb-false, false≢true}
use Rattle.std.proofs.lemmas.List.{get_or_past, drop_more}
use Rattle.std.proofs.lemmas.List.Elements.{Contains-get_or, Contains-push, Contains-push_cases, Contains-append_left, Contains-append_cases}
use Rattle.currency_base.specs.Literals.{var_of, is_negative}
use Rattle.currency_base.specs.declared.lit.Lit.{Lit}
use Rattle.log_replay.specs.Marks.{is_marked, AreMarks}

-- literals of one number are one
pub same_lit : (one other : Lit) → one.0 ≡ other.0 → one ≡ other
same_lit one other same = ap (λ (n : ℕ). let lit : Lit = record { 0 = n } in lit) same

-- a mark stands within the marks
pub mark_within : (marked : List Bool) (i : ℕ) → get_or marked i false ≡ true → i < length marked
mark_within marked i is_set = go (cases_lt i (length marked))
  where
    go : (i < length marked) ⊎ (length marked ≤ i) → i < length marked
    go (inl within) = within
    go (inr past) = absurd (false≢true (sym (get_or_past marked i false past) ∙ is_set))

-- one literal more is marked; room for its mark changed no mark
pub marks_more : (marked grown : List Bool) (lits : List Lit) (lit : Lit) → AreMarks marked lits
    → ((other : Lit) → is_marked grown other ≡ is_marked marked other) → lit.0 < length grown
    → AreMarks (set grown lit.0 true) (lits ++ lit ∷ [])
marks_more marked grown lits lit marks same within = record { set = set_are; listed = listed_are }
  where
    here : get_or (set grown lit.0 true) lit.0 false ≡ true
    here = get_or-set_same grown lit.0 true false within

    there : (other : Lit) → (other.0 ≡ lit.0 → ⊥) → is_marked (set grown lit.0 true) other ≡ is_marked marked other
    there other apart = get_or-set_other grown lit.0 other.0 true false apart ∙ same other

    set_by : (other : Lit) → Contains lits other ⊎ (lit ≡ other) → (other.0 ≡ lit.0) ⊎ (other.0 ≡ lit.0 → ⊥)
        → is_marked (set grown lit.0 true) other ≡ true
    set_by other is_in (inl e) = subst (λ (n : ℕ). get_or (set grown lit.0 true) n false ≡ true) (sym e) here
    set_by other (inl old) (inr apart) = there other apart ∙ marks.set other old
    set_by other (inr e) (inr apart) = absurd (apart (ap (λ (l : Lit). l.0) (sym e)))

    set_are : (other : Lit) → Contains (lits ++ lit ∷ []) other → is_marked (set grown lit.0 true) other ≡ true
    set_are other is_in = set_by other (Contains-push_cases lits lit other is_in) (cases_eq other.0 lit.0)

    listed_by : (other : Lit) → is_marked (set grown lit.0 true) other ≡ true → (other.0 ≡ lit.0) ⊎ (other.0 ≡ lit.0 → ⊥)
        → Contains (lits ++ lit ∷ []) other
    listed_by other is (inl e) =
        subst (λ (l : Lit). Contains (lits ++ lit ∷ []) l) (sym (same_lit other lit e)) (Contains-push lits lit)
    listed_by other is (inr apart) =
        Contains-append_left lits (lit ∷ []) other (marks.listed other (sym (there other apart) ∙ is))

    listed_are : (other : Lit) → is_marked (set grown lit.0 true) other ≡ true → Contains (lits ++ lit ∷ []) other
    listed_are other is = listed_by other is (cases_eq other.0 lit.0)

-- the marks are among these literals
pub record AreAmong (marked : List Bool) (lits : List Lit) : Type 0 where
  pub listed : (lit : Lit) → is_marked marked lit ≡ true → Contains lits lit

-- marks that are those of these literals are among them
pub all_among : (marked : List Bool) (lits : List Lit) → AreMarks marked lits → AreAmong marked lits
all_among marked lits marks = record { listed = marks.listed }

-- marks that are among no literals are those of none
pub none_left : (marked : List Bool) (lits : List Lit) → length lits ≤ 0 → AreAmong marked lits → AreMarks marked []
none_left marked [] few among =
    record { set = λ lit is_in. let below : is_in.0 < 0 = is_in.1 in absurd (omega arith); listed = among.listed }
none_left marked (lit ∷ lits) few among = absurd (omega arith)

-- the mark of the first of them is taken off
pub unmark_first : (marked : List Bool) (lit : Lit) (lits : List Lit) → lit.0 < length marked
    → AreAmong marked (lit ∷ lits) → AreAmong (set marked lit.0 false) lits
unmark_first marked lit lits within among = record { listed = λ other is. go other is (cases_eq other.0 lit.0) }
  where
    rest : (other : Lit) → (other.0 ≡ lit.0 → ⊥) → Contains (lit ∷ []) other ⊎ Contains lits other → Contains lits other
    rest other apart (inr is_in) = is_in
    rest other apart (inl first) = one other apart (Contains-push_cases [] lit other first)
      where
        one : (other : Lit) → (other.0 ≡ lit.0 → ⊥) → Contains [] other ⊎ (lit ≡ other) → Contains lits other
        one other apart (inl none) = let below : none.0 < 0 = none.1 in absurd (omega arith)
        one other apart (inr e) = absurd (apart (ap (λ (l : Lit). l.0) (sym e)))

    go : (other : Lit) → is_marked (set marked lit.0 false) other ≡ true → (other.0 ≡ lit.0) ⊎ (other.0 ≡ lit.0 → ⊥)
        → Contains lits other
    go other is (inl e) =
        let off : get_or (set marked lit.0 false) lit.0 false ≡ false = get_or-set_same marked lit.0 false false within in
        absurd (false≢true (sym off ∙ subst (λ (n : ℕ). get_or (set marked lit.0 false) n false ≡ true) e is))
    go other is (inr apart) =
        let was = among.listed other (sym (get_or-set_other marked lit.0 other.0 false false apart) ∙ is) in
        rest other apart (Contains-append_cases (lit ∷ []) lits other was)

-- ---- marks by index

-- the index of a literal is its number
pub index_is : (lit : Lit) (index : ℕ) → index ≡ 2 * var_of lit + (if is_negative lit then 1 else 0) → index ≡ lit.0
index_is lit index is = go (lit.0 % 2 == 1) refl
  where
    go : (odd : Bool) → (lit.0 % 2 == 1) ≡ odd → index ≡ lit.0
    go true e =
        let one : lit.0 % 2 ≡ 1 = eqb-true (lit.0 % 2) 1 e in
        let at : index ≡ 2 * (lit.0 / 2) + 1 = is ∙ ap (λ (b : Bool). 2 * (lit.0 / 2) + cond b 1 0) e in
        omega arith
    go false e =
        let other : lit.0 % 2 ≢ 1 = eqb-false (lit.0 % 2) 1 e in
        let at : index ≡ 2 * (lit.0 / 2) + 0 = is ∙ ap (λ (b : Bool). 2 * (lit.0 / 2) + cond b 1 0) e in
        omega arith

-- a marked literal has its mark
pub index_within : (marked : List Bool) (lits : List Lit) (i : ℕ) (d : Lit) (index : ℕ) → AreMarks marked lits → i < length lits
    → index ≡ 2 * var_of (get_or lits i d) + (if is_negative (get_or lits i d) then 1 else 0) → index < length marked
index_within marked lits i d index marks within is =
    let inside : (get_or lits i d).0 < length marked =
    mark_within marked (get_or lits i d).0 (marks.set (get_or lits i d) (Contains-get_or lits i d within)) in
    let at : index ≡ (get_or lits i d).0 = index_is (get_or lits i d) index is in
    omega arith

-- the mark of a literal is taken off
pub unmark_more : (marked : List Bool) (lits : List Lit) (i : ℕ) (d : Lit) (index : ℕ) → i < length lits
    → index ≡ 2 * var_of (get_or lits i d) + (if is_negative (get_or lits i d) then 1 else 0) → index < length marked
    → AreAmong marked (drop i lits) → AreAmong (set marked index false) (drop (i + 1) lits)
unmark_more marked lits i d index within is inside among =
    let at : index ≡ (get_or lits i d).0 = index_is (get_or lits i d) index is in
    subst (λ (n : ℕ). AreAmong (set marked n false) (drop (i + 1) lits)) (sym at)
    (unmark_first marked (get_or lits i d) (drop (i + 1) lits) (subst (λ (n : ℕ). n < length marked) at inside)
    (subst (λ (ls : List Lit). AreAmong marked ls) (drop_more lits i d within) among))
