-- The literals of a list's rows, and steps that are derived of them.
use Rattle.std.proofs.Common.{◌≡◌, ◌≢◌, ◌<◌, ◌∙◌, ◌+◌, ℕ, Bool, true, false, cond, List, [], ◌∷◌, ◌++◌, All, Ok, Err, OnOk, Result, Some, get_or, length, take, slice_get, refl, sym, ap, subst, inl, inr, ⊎_elim, arith}
use Rattle.std.proofs.lemmas.Bool.{cases_eq, false≢true}
use Rattle.std.proofs.lemmas.List.{get_or_append_left, length-append, map-append}
use Rattle.std.proofs.Math.Seq.{get_or-append_seam}
use Rattle.std.proofs.lemmas.List.Elements.{All-append, All-cons, All-contains, All-head, All-nil, Contains-get_or}
use Rattle.std.proofs.lemmas.List.Sums.{sum_by-append}
use Rattle.std.proofs.lemmas.Option.{get_or_from_slice_get, slice_get-get_or, slice_get_within}
use Rattle.currency_base.specs.Literals.{negation, var_of}
use Rattle.currency_base.specs.declared.ids.AttrId.{AttrId}
use Rattle.currency_base.specs.declared.ids.RelId.{RelId}
use Rattle.currency_base.specs.declared.ids.RowId.{RowId}
use Rattle.currency_base.specs.declared.lit.Lit.{Lit}
use Rattle.partial_orders.specs.Pairs.{entity_of}
use Rattle.value_names.specs.Names.{name_of}
use Rattle.refutation_log.specs.Counted.{IsNew, counted_steps}
use Rattle.refutation_log.specs.Follows.{FollowsFrom}
use Rattle.refutation_log.specs.Steps.{clause_of, clauses_of, is_counted}
use Rattle.refutation_log.specs.declared.statement.Statement.{Statement}
use Rattle.refutation_log.specs.declared.statement.Statement.TheVariants as says
use Rattle.refutation_log.specs.declared.step.Step.{Step}
use Rattle.refutation_log.specs.declared.step.Step.TheVariants.{Learn}
use Rattle.lean_hints.specs.Lean.{AreLean}
use Rattle.order_literals.specs.Numbers.{numbers_of}
use Rattle.order_literals.specs.Laws.{NegationSays, OneLiteral, OneSaid, SaysWithin}
use Rattle.order_literals.specs.Said.{Said, Says, before, last, not_before, not_top, top, turned}
use Rattle.order_links.specs.declared.list.ListId.{ListId}
use Rattle.search_logs.specs.Free.{IsFreeClause, IsLastRowClause, IsSomeCurrentClause, SaysCurrent, SaysLastOrAfter}
use Rattle.search_logs.specs.SearchLogs.{IsSearchStep}
use Rattle.watch_propagate.proofs.KeptLists.{contains_at}
use Rattle.watch_solver.specs.Decided.{Solver}
use Rattle.last_rows.specs.Rows.{AreApart, AreDerived, AreWithin, IsOfRows, IsRowClause, IsSomeCurrent, Literals, lit_of, literals_of}
use Rattle.last_rows.specs.declared.rows.RowList.{RowList}
use Rattle.last_rows.proofs.Below.{IsPairOf, IsTopOf, lit_how}
use Rattle.order_search.specs.Kept.{posed_of, vars_of}
use Rattle.order_search.specs.Tied.{AreTied, IsTiedStep}
use Rattle.order_search.specs.Lasting.{AreAllRowsOf, AreFree, AreSaid, EachIs, IsDerivation, IsNextStep, KeepsHeldBy, KeepsAllTied, SaysBefore}
use Rattle.order_search.specs.Searches.{Subject}
use Rattle.order_search.proofs.Growing.{has_none, held_axioms, held_next, one_next}

-- ---- lists that are made item by item

pub each_none : {A : Type 0} (d : A) (P : ℕ → A → Type 0) → EachIs d P 0 []
each_none d P = (refl, λ i below. absurd (omega (arith, below)))

pub each_more : {A : Type 0} (d : A) (P : ℕ → A → Type 0) (n : ℕ) (xs : List A) (x : A) → EachIs d P n xs → P n x
    → EachIs d P (n + 1) (xs ++ x ∷ [])
each_more {A} d P n xs x were is = (
  length-append xs (x ∷ []) ∙ ap (λ (k : ℕ). k + 1) were.0,
  λ i below. let many = were.0 in ⊎_elim
      (λ (e : i ≡ length xs). subst (λ (k : ℕ). P k (get_or (xs ++ x ∷ []) k d)) (sym e)
      (subst (λ (y : A). P (length xs) y) (sym (get_or-append_seam xs x [] d)) (subst (λ (k : ℕ). P k x) (sym many) is)))
      (λ (ne : i ≡ length xs → ⊥).
      let low : i < length xs = grind (arith, below, many, ne) in
      subst (λ (y : A). P i y) (sym (get_or_append_left xs (x ∷ []) d i low)) (were.1 i (omega (arith, low, many))))
      (cases_eq i (length xs)),
)

-- where the item was put behind the others
pub each_put : {A : Type 0} (d : A) (P : ℕ → A → Type 0) (n : ℕ) (xs now : List A) (x : A) → EachIs d P n xs
    → now ≡ xs ++ x ∷ [] → P n x → EachIs d P (n + 1) now
each_put {A} d P n xs now x were is p = subst (λ (ys : List A). EachIs d P (n + 1) ys) (sym is) (each_more d P n xs x were p)

pub each_all : {A : Type 0} (d : A) (P : ℕ → A → Type 0) (n m : ℕ) (xs : List A) → n ≡ m → EachIs d P n xs → EachIs d P m xs
each_all {A} d P n m xs e is = subst (λ (k : ℕ). EachIs d P k xs) e is

-- ---- rows that are read

-- what holds of the row that was read holds of the row at its place
pub row_read : (P : RowId → Type 0) (rows : List RowId) (i : ℕ) (d : RowId) → P (get_or rows i d) → (row : RowId)
    → slice_get rows i ≡ Some row → P row
row_read P rows i d is row at = subst P (get_or_from_slice_get rows i row d at) is

-- so too of two rows
pub rows_read : (s : Subject) (list : ListId) (rows : List RowId) (i j : ℕ) (d : RowId) (lit : Lit)
    → Says (vars_of s) lit (before list.rel list.attr (get_or rows i d) (get_or rows j d)) → SaysBefore s list rows i j lit
rows_read s list rows i j d lit says differ row other at_i at_j =
    subst (λ (a : RowId). Says (vars_of s) lit (before list.rel list.attr a other)) (get_or_from_slice_get rows i row d at_i)
    (subst (λ (b : RowId). Says (vars_of s) lit (before list.rel list.attr (get_or rows i d) b))
    (get_or_from_slice_get rows j other d at_j) says)

-- where they are one, nothing is said
pub none_read : (s : Subject) (list : ListId) (rows : List RowId) (i j : ℕ) (lit : Lit) → j ≡ i → SaysBefore s list rows i j lit
none_read s list rows i j lit same differ row other at_i at_j = absurd (differ (sym same))

-- ---- what is said once

before_parts : (rel : RelId) (attr : AttrId) (a b c d : RowId) → before rel attr a b ≡ before rel attr c d → (a ≡ c) × (b ≡ d)
before_parts rel attr a b c d e =
    let same : says.Before rel attr a b ≡ says.Before rel attr c d = ap (λ (s : Said). s.statement) e in
    let first : a ≡ c = cc in
    let second : b ≡ d = cc in
    (first, second)

top_parts : (rel : RelId) (attr : AttrId) (a b : RowId) → top rel attr a ≡ top rel attr b → a ≡ b
top_parts rel attr a b e =
    let same : says.Top rel attr a ≡ says.Top rel attr b = ap (λ (s : Said). s.statement) e in
    cc

signs_differ : (s t : Said) → s.negative ≡ false → t.negative ≡ true → s ≡ t → ⊥
signs_differ s t off on e = false≢true (sym off ∙ ap (λ (x : Said). x.negative) e ∙ on)

top_no_pair : (rel : RelId) (attr : AttrId) (a b c : RowId) (n m : Bool)
    → ◌≡◌ {A = Said} (record { statement = says.Before rel attr a b; negative = n })
    (record { statement = says.Top rel attr c; negative = m }) → ⊥
top_no_pair rel attr a b c n m e =
    let same : says.Before rel attr a b ≡ says.Top rel attr c = ap (λ (s : Said). s.statement) e in
    let no : ⊥ = cc in no

top_no_last : (rel : RelId) (attr : AttrId) (a b : RowId) (n m : Bool)
    → ◌≡◌ {A = Said} (record { statement = says.Last rel attr a; negative = n })
    (record { statement = says.Top rel attr b; negative = m }) → ⊥
top_no_last rel attr a b n m e =
    let same : says.Last rel attr a ≡ says.Top rel attr b = ap (λ (s : Said). s.statement) e in
    let no : ⊥ = cc in no

module _ (s : Subject) (list : ListId) (rows : List RowId) (l : RowList) (are : AreAllRowsOf s list rows)
    (said : AreSaid s list rows l) (one : OneLiteral) (one_said : OneSaid) (negated : NegationSays)
    (twice : (lit : Lit) → negation (negation lit) ≡ lit) where
  abbrev lits : Literals
  lits = literals_of l

  abbrev row : ℕ → RowId
  row i = get_or rows i (record { 0 = 0 })

  row_at : (i : ℕ) → i < lits.count → slice_get rows i ≡ Some (row i)
  row_at i within = let many = said.tops.0 in slice_get-get_or rows i (record { 0 = 0 }) (omega (arith, within, many))

  in_rows : (i : ℕ) → i < lits.count → i < length rows
  in_rows i within = let many = said.tops.0 in omega (arith, within, many)

  rows_apart : (i j : ℕ) → i < lits.count → j < lits.count → row i ≡ row j → i ≡ j
  rows_apart i j at_i at_j e = are.once i j (row j) (row_at i at_i ∙ ap Some e) (row_at j at_j)

  says_top : (i : ℕ) → i < lits.count → Says (vars_of s) (lits.top i) (top list.rel list.attr (row i))
  says_top i within = said.tops.1 i (in_rows i within) (row i) (row_at i within)

  says_before : (i j : ℕ) → i < lits.count → j < lits.count → i ≢ j
      → Says (vars_of s) (lits.before i j) (before list.rel list.attr (row i) (row j))
  says_before i j at_i at_j differ =
      (said.befores.1 i (in_rows i at_i)).1 j (in_rows j at_j) differ (row i) (row j) (row_at i at_i) (row_at j at_j)

  abbrev name : ℕ → RowId
  name i = name_of are.is_list.relation.rows list.attr.0 (row i)

  says_name : (i : ℕ) → i < lits.count → Says (vars_of s) (lits.name i) (last list.rel list.attr (name i))
  says_name i within = said.names.1 i (in_rows i within) (row i) (row_at i within) are.is_list.relation are.is_list.is_relation

  -- that one does not stand before the other is that the other stands before it
  other_words : (lit : Lit) (a b : RowId) → Says (vars_of s) lit (not_before list.rel list.attr a b)
      → Says (vars_of s) lit (before list.rel list.attr b a)
  other_words lit a b (inl e) = inr e
  other_words lit a b (inr e) = inl e

  turned_is : (i j : ℕ) → i < lits.count → j < lits.count → i ≢ j → negation (lits.before i j) ≡ lits.before j i
  turned_is i j at_i at_j differ =
      one (numbers_of s.spec.relations s.wanted) (negation (lits.before i j)) (lits.before j i)
      (before list.rel list.attr (row j) (row i))
      (other_words (negation (lits.before i j)) (row i) (row j)
      (negated (vars_of s) (lits.before i j) (before list.rel list.attr (row i) (row j)) (says_before i j at_i at_j differ)))
      (says_before j i at_j at_i (λ e. differ (sym e)))

  before_is : (i j a b : ℕ) → i < lits.count → j < lits.count → a < lits.count → b < lits.count → i ≢ j → a ≢ b
      → lits.before i j ≡ lits.before a b → (i ≡ a) × (j ≡ b)
  before_is i j a b at_i at_j at_a at_b differ differ' e = ⊎_elim
      (λ (p : before list.rel list.attr (row a) (row b) ≡ before list.rel list.attr (row i) (row j)).
      let both = before_parts list.rel list.attr (row a) (row b) (row i) (row j) p in
      (rows_apart i a at_i at_a (sym both.0), rows_apart j b at_j at_b (sym both.1)))
      (λ (p : before list.rel list.attr (row a) (row b) ≡ turned (before list.rel list.attr (row i) (row j))).
      absurd (signs_differ (before list.rel list.attr (row a) (row b)) (turned (before list.rel list.attr (row i) (row j)))
      refl refl p))
      (one_said (vars_of s) (lits.before i j) (before list.rel list.attr (row i) (row j))
      (before list.rel list.attr (row a) (row b))
      (says_before i j at_i at_j differ)
      (subst (λ (x : Lit). Says (vars_of s) x (before list.rel list.attr (row a) (row b))) (sym e)
      (says_before a b at_a at_b differ')))

  top_is : (i j : ℕ) → i < lits.count → j < lits.count → lits.top i ≡ lits.top j → i ≡ j
  top_is i j at_i at_j e = ⊎_elim
      (λ (p : top list.rel list.attr (row j) ≡ top list.rel list.attr (row i)).
      rows_apart i j at_i at_j (sym (top_parts list.rel list.attr (row j) (row i) p)))
      (λ (p : top list.rel list.attr (row j) ≡ top list.rel list.attr (row i)).
      rows_apart i j at_i at_j (sym (top_parts list.rel list.attr (row j) (row i) p)))
      (one_said (vars_of s) (lits.top i) (top list.rel list.attr (row i)) (top list.rel list.attr (row j)) (says_top i at_i)
      (subst (λ (x : Lit). Says (vars_of s) x (top list.rel list.attr (row j))) (sym e) (says_top j at_j)))

  top_no_before : (m i j : ℕ) → m < lits.count → i < lits.count → j < lits.count → i ≢ j → lits.top m ≡ lits.before i j → ⊥
  top_no_before m i j at_m at_i at_j differ e = ⊎_elim
      (λ (p : before list.rel list.attr (row i) (row j) ≡ top list.rel list.attr (row m)).
      top_no_pair list.rel list.attr (row i) (row j) (row m) false false p)
      (λ (p : before list.rel list.attr (row i) (row j) ≡ top list.rel list.attr (row m)).
      top_no_pair list.rel list.attr (row i) (row j) (row m) false false p)
      (one_said (vars_of s) (lits.top m) (top list.rel list.attr (row m)) (before list.rel list.attr (row i) (row j))
      (says_top m at_m)
      (subst (λ (x : Lit). Says (vars_of s) x (before list.rel list.attr (row i) (row j))) (sym e)
      (says_before i j at_i at_j differ)))

  says_not : (i : ℕ) → i < lits.count → Says (vars_of s) (negation (lits.top i)) (not_top list.rel list.attr (row i))
  says_not i within = negated (vars_of s) (lits.top i) (top list.rel list.attr (row i)) (says_top i within)

  not_top_is : (i m : ℕ) → i < lits.count → m < lits.count → negation (lits.top i) ≡ lits.top m → ⊥
  not_top_is i m at_i at_m e = ⊎_elim
      (λ (p : top list.rel list.attr (row m) ≡ not_top list.rel list.attr (row i)).
      signs_differ (top list.rel list.attr (row m)) (not_top list.rel list.attr (row i)) refl refl p)
      (λ (p : top list.rel list.attr (row m) ≡ not_top list.rel list.attr (row i)).
      signs_differ (top list.rel list.attr (row m)) (not_top list.rel list.attr (row i)) refl refl p)
      (one_said (vars_of s) (negation (lits.top i)) (not_top list.rel list.attr (row i)) (top list.rel list.attr (row m))
      (says_not i at_i) (subst (λ (x : Lit). Says (vars_of s) x (top list.rel list.attr (row m))) (sym e) (says_top m at_m)))

  not_name_is : (i m : ℕ) → i < lits.count → m < lits.count → negation (lits.top i) ≡ lits.name m → ⊥
  not_name_is i m at_i at_m e = ⊎_elim
      (λ (p : last list.rel list.attr (name m) ≡ not_top list.rel list.attr (row i)).
      top_no_last list.rel list.attr (name m) (row i) false true p)
      (λ (p : last list.rel list.attr (name m) ≡ not_top list.rel list.attr (row i)).
      top_no_last list.rel list.attr (name m) (row i) false true p)
      (one_said (vars_of s) (negation (lits.top i)) (not_top list.rel list.attr (row i)) (last list.rel list.attr (name m))
      (says_not i at_i) (subst (λ (x : Lit). Says (vars_of s) x (last list.rel list.attr (name m))) (sym e) (says_name m at_m)))

  top_no_name : (i m : ℕ) → i < lits.count → m < lits.count → lits.top i ≡ lits.name m → ⊥
  top_no_name i m at_i at_m e = ⊎_elim
      (λ (p : last list.rel list.attr (name m) ≡ top list.rel list.attr (row i)).
      top_no_last list.rel list.attr (name m) (row i) false false p)
      (λ (p : last list.rel list.attr (name m) ≡ top list.rel list.attr (row i)).
      top_no_last list.rel list.attr (name m) (row i) false false p)
      (one_said (vars_of s) (lits.top i) (top list.rel list.attr (row i)) (last list.rel list.attr (name m))
      (says_top i at_i) (subst (λ (x : Lit). Says (vars_of s) x (last list.rel list.attr (name m))) (sym e) (says_name m at_m)))

  pub rows_are_apart : AreApart (literals_of l)
  rows_are_apart = record {
    turned = turned_is;
    before_once = before_is;
    top_once = top_is;
    top_before = top_no_before;
    twice = λ i within. twice (lits.top i);
    not_top = not_top_is;
    top_name = top_no_name;
    not_name = not_name_is;
  }

  pub rows_are_within : SaysWithin → AreWithin (length (vars_of s)) (literals_of l)
  rows_are_within within = record {
    tops = λ i at. within (vars_of s) (lits.top i) (top list.rel list.attr (row i)) (says_top i at);
    befores = λ i j at_i at_j differ. within (vars_of s) (lits.before i j) (before list.rel list.attr (row i) (row j))
        (says_before i j at_i at_j differ);
    names = λ i at. within (vars_of s) (lits.name i) (last list.rel list.attr (name i)) (says_name i at);
  }

  -- ---- clauses that are not counted

  row_of : (i : ℕ) → i < lits.count → entity_of are.is_list.relation.rows (row i).0 ≡ Some list.ent.0
  row_of i within = are.each i (row i) (row_at i within)

  -- the number of a row of the entity
  number_of : (r : RowId) → entity_of are.is_list.relation.rows r.0 ≡ Some list.ent.0 → (i : ℕ) × (i < lits.count) × (row i ≡ r)
  number_of r of =
      let found = are.all r of in
      let low = slice_get_within rows found.0 r found.1 in
      let many = said.tops.0 in
      (found.0, omega (arith, low, many), get_or_from_slice_get rows found.0 r (record { 0 = 0 }) found.1)

  says_after : (first own i : ℕ) → own < lits.count → i < lits.count
      → SaysLastOrAfter (vars_of s) list.rel list.attr (row own) (row i) (lit_of lits first own i)
  says_after first own i at_own at_i = ⊎_elim
      (λ (p : IsTopOf lits first own i). inl (subst (λ (x : Lit). Says (vars_of s) x (top list.rel list.attr (row i)))
      (sym p.is) (says_top i at_i)))
      (λ (p : IsPairOf lits first own i). inr (subst (λ (x : Lit).
      Says (vars_of s) x (before list.rel list.attr (row own) (row i))) (sym p.is)
      (says_before own i at_own at_i (λ e. p.differ (sym e)))))
      (lit_how lits first own i)

  last_row : (clause : List Lit) → IsRowClause lits clause → IsLastRowClause s.spec (vars_of s) clause
  last_row clause is = record {
    rel = list.rel;
    attr = list.attr;
    relation = are.is_list.relation;
    is_relation = are.is_list.is_relation;
    ent = list.ent;
    own = row is.own;
    own_of = row_of is.own is.own_within;
    told = record {
      each = λ lit h.
          let m = is.is.each lit h in (
            row m.row,
            row_of m.row m.within,
            subst (λ (x : Lit). SaysLastOrAfter (vars_of s) list.rel list.attr (row is.own) (row m.row) x) (sym m.is_lit)
                (says_after is.first is.own m.row is.own_within m.within),
          );
      all = λ r of.
          let n = number_of r of in (
            lit_of lits is.first is.own n.0,
            is.is.all n.0 n.1,
            subst (λ (x : RowId).
                SaysLastOrAfter (vars_of s) list.rel list.attr (row is.own) x (lit_of lits is.first is.own n.0)) n.2
                (says_after is.first is.own n.0 is.own_within n.1),
          );
    };
  }

  some_current : (clause : List Lit) → IsSomeCurrent lits clause → IsSomeCurrentClause s.spec (vars_of s) clause
  some_current clause is = record {
    rel = list.rel;
    attr = list.attr;
    relation = are.is_list.relation;
    is_relation = are.is_list.is_relation;
    ent = list.ent;
    told = record {
      each = λ lit h.
          let m = is.each lit h in (
            row m.0,
            row_of m.0 m.1,
            subst (λ (x : Lit). SaysCurrent (vars_of s) list.rel list.attr are.is_list.relation (row m.0) x) (sym m.2)
                (says_name m.0 m.1),
          );
      all = λ r of.
          let n = number_of r of in (
            lits.name n.0,
            is.all n.0 n.1,
            subst (λ (x : RowId). SaysCurrent (vars_of s) list.rel list.attr are.is_list.relation x (lits.name n.0)) n.2
                (says_name n.0 n.1),
          );
    };
  }

  clause_free : (clause : List Lit) → IsOfRows lits clause → IsFreeClause s.spec (vars_of s) clause
  clause_free clause (inl is) = inr (inl (last_row clause is))
  clause_free clause (inr is) = inr (inr (some_current clause is))

  pub steps_free : (earlier : List (List Lit)) (steps : List Step) → AreDerived (literals_of l) earlier steps → AreFree s steps
  steps_free earlier steps derived = λ k d h.
      let one = derived k (get_or steps k d) (slice_get-get_or steps k d h) in
      subst (λ (t : Step). IsFreeClause s.spec (vars_of s) (clause_of t)) (sym one.is_step) (clause_free one.lits one.of_rows)

-- ---- steps

-- a step of some, which is put after others that hold
pub keeps_then : (a b c : Solver) (steps : List Step) (place : ℕ) (taken : Step) → slice_get steps place ≡ Some taken
    → KeepsHeldBy steps a b → KeepsHeldBy (taken ∷ []) b c → KeepsHeldBy steps a c
keeps_then a b c steps place taken at one other s free brought held =
    let P = λ (t : Step). IsFreeClause s.spec (vars_of s) (clause_of t) in
    other s
    (All-cons P taken [] (All-contains P steps taken free (contains_at steps place taken at)) (All-nil P))
    brought (one s free brought held)

-- where a step was put after the others that may come next
pub put_keeps : (old new : Solver) (taken : Step) → IsNextStep (length old.frame.statements) (clauses_of old.steps) taken
    → new.frame ≡ old.frame → new.steps ≡ old.steps ++ taken ∷ [] → KeepsHeldBy (taken ∷ []) old new
put_keeps old new taken is frame steps s free brought held =
    held_next s old new brought held frame
    (one_next s (posed_of s old.frame) old.steps new.steps taken steps
    (subst (λ (t : Step). IsSearchStep s.spec (posed_of s old.frame) (vars_of s) (clauses_of old.steps) t ×
    (is_counted t ≡ true → IsNew (clauses_of old.steps) t)) (sym is.is_step) (
      record {
        follows = is.follows;
        within = subst (λ (xs : List Statement). All (λ lit. var_of lit < length xs) is.lits) held.search.log.statements
            is.fit.within;
        lits_once = is.fit.once;
        lean = is.lean;
        free = λ e.
            subst (λ (t : Step). IsFreeClause s.spec (vars_of s) (clause_of t)) is.is_step
            (All-head (λ t. IsFreeClause s.spec (vars_of s) (clause_of t)) taken [] free);
      },
      λ counted. let no : ⊥ = cc in absurd no,
    )))

pub same_keeps : (old new : Solver) (steps : List Step) → new.frame ≡ old.frame → new.steps ≡ old.steps
    → KeepsHeldBy steps old new
same_keeps old new steps frame same s free brought held =
    held_axioms s old new brought held frame (has_none s old.steps new.steps same)

pub tied_then : (a b c : Solver) → KeepsAllTied a b → KeepsAllTied b c → KeepsAllTied a c
tied_then a b c one other s g tied = other s g (one s g tied)

pub put_tied : (old new : Solver) (lits : List Lit) (hints : List ℕ) → new.steps ≡ old.steps ++ Learn lits hints false ∷ []
    → KeepsAllTied old new
put_tied old new lits hints is s g tied =
    let taken = Learn lits hints false in
    let one : IsTiedStep s g taken = record {} in
    subst (AreTied s g) (sym is) (All-append (IsTiedStep s g) old.steps (taken ∷ []) tied
    (All-cons (IsTiedStep s g) taken [] one (All-nil (IsTiedStep s g))))

-- a step that is not counted counts for nothing
pub counted_same : (old new : List Step) (lits : List Lit) (hints : List ℕ) → new ≡ old ++ Learn lits hints false ∷ []
    → counted_steps new ≡ counted_steps old
counted_same old new lits hints is =
    let sum = sum_by-append (λ (y : Step). cond (is_counted y) 1 0) old (Learn lits hints false ∷ []) in
    let same = ap counted_steps is in
    let sums : counted_steps (old ++ Learn lits hints false ∷ [])
    ≡ counted_steps old + counted_steps (Learn lits hints false ∷ []) = sum in
    let none : counted_steps (Learn lits hints false ∷ []) ≡ 0 = refl in
    omega (arith, sums, none, same)

-- the step at a place may come next
pub next_step : (vars : ℕ) (first : List Step) (steps now : List Step) (place : ℕ) (taken : Step)
    → IsDerivation vars (clauses_of first) steps → now ≡ first ++ take place steps → slice_get steps place ≡ Some taken
    → IsNextStep vars (clauses_of now) taken
next_step vars first steps now place taken is now_is at =
    let one = is.derived place taken at in
    let same : clauses_of first ++ clauses_of (take place steps) ≡ clauses_of now =
    sym (map-append clause_of first (take place steps)) ∙ ap clauses_of (sym now_is) in
    record {
      lits = one.lits;
      hints = one.hints;
      is_step = one.is_step;
      fit = record {
        within = λ k d h. one.within vars is.within (get_or one.lits k d) (Contains-get_or one.lits k d h);
        once = one.once;
      };
      follows = subst (λ (cs : List (List Lit)). FollowsFrom cs one.lits one.hints) same one.follows;
      lean = subst (λ (cs : List (List Lit)). AreLean cs one.lits one.hints) same one.lean;
    }

-- what an answer tells where it holds anyway
pub ok_from : {A E P : Type 0} (r : Result A E) → P → OnOk r P
ok_from (Ok x) p = p
ok_from (Err e) p = tt
