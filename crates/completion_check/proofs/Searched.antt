-- Steps of the search for the first choice that breaks a rule.
use Rattle.std.proofs.Common.{◌≡◌, ◌+◌, ◌-◌, ◌<◌, ◌≤◌, ℕ, true, false, List, [], ◌∷◌, ◌++◌, length, All, Contains, Some, slice_get, sym, ap, ◌∙◌, ⊎_elim, arith}
use Rattle.std.proofs.lemmas.Bool.{cases_lt, cases_eq}
use Rattle.std.proofs.lemmas.List.{append_assoc}
use Rattle.std.proofs.lemmas.List.Elements.{All-head, All-tail, All-cons, All-append}
use Rattle.std.proofs.lemmas.Option.{same_Some, slice_get_within}
use Rattle.currency_base.specs.declared.ids.RowId.{RowId}
use Rattle.denial_rules.specs.declared.rule.Predicate.{Predicate}
use Rattle.spec_model.specs.Satisfies.{AreRowsBefore}
use Rattle.completion_check.specs.Tests.{predicate_test, last_var}
use Rattle.completion_check.specs.Breaks.{Tried, AreTested, Ascend, AreMore, NoneBreaks, BreaksFirst, breaks_it}
use Rattle.completion_check.proofs.Places.{at_contains, contains_at}
use Rattle.completion_check.proofs.Fronts.{test_front}

-- the predicates of one more variable hold
pub tested_next : (t : Tried) (depth : ℕ) (front : List RowId) → 0 < depth → AreTested t (depth - 1) front
    → ((k : ℕ) (p : Predicate) → slice_get t.rule.predicates k ≡ Some p → last_var p ≡ depth - 1
    → predicate_test t.table t.places front p ≡ true)
    → AreTested t depth front
tested_next t depth front some tested here k p at below =
    ⊎_elim
    (λ (is : last_var p ≡ depth - 1). here k p at is)
    (λ (apart : last_var p ≡ depth - 1 → ⊥). tested k p at (omega arith))
    (cases_eq (last_var p) (depth - 1))

-- and they do when a row follows
pub tested_push : (t : Tried) (depth : ℕ) (front : List RowId) (row : RowId) → length front ≡ depth
    → AreTested t depth front → AreTested t depth (front ++ row ∷ [])
tested_push t depth front row count tested k p at below =
    test_front t.table t.places front (row ∷ []) p (omega (arith, count)) ∙ tested k p at below

-- rows that begin with a front and go on with a row and more
after : (front : List RowId) (row : RowId) (more : List RowId) → (front ++ row ∷ []) ++ more ≡ front ++ (row ∷ more)
after front row more = append_assoc front (row ∷ []) more

first_of_more : (members : List RowId) (left : ℕ) (row : RowId) (more : List RowId) → AreMore members (left + 1)
    (row ∷ more) → AreMore members left more
first_of_more members left row more are = record {
  count = omega (arith, are.count);
  among = All-tail
      (Contains members) row more are.among;
}

-- where no next row leads to a break there is none
pub none_next : (t : Tried) (members front : List RowId) (left : ℕ)
    → ((k : ℕ) (row : RowId) → k < length members → slice_get members k ≡ Some row → NoneBreaks t members left
    (front ++ row ∷ []))
    → NoneBreaks t members (left + 1) front
none_next t members front left each [] are = absurd (omega (arith, are.count))
none_next t members front left each (row ∷ more) are =
    let at = at_contains members row (All-head (Contains members) row more are.among) in
    ap (breaks_it t) (sym (after front row more))
    ∙ each at.0 row (slice_get_within members at.0 row at.1) at.1 more (first_of_more members left row more are)

-- a row before another of the members stands at a smaller place
pub stands_before : (members : List RowId) (i k : ℕ) (row r : RowId) → Ascend members → slice_get members i ≡ Some
    row → slice_get members k ≡ Some r → r.0 < row.0 → k < i
stands_before members i k row r ascend at at_k less =
    ⊎_elim
    (λ (h : k < i). h)
    (λ (above : i ≤ k).
    ⊎_elim
    (λ (is : k ≡ i). let same : r ≡ row = same_Some r row (sym at_k ∙ (ap (slice_get members) is ∙ at)) in absurd
    (omega (arith, ap (λ (q : RowId). q.0) same)))
    (λ (apart : k ≡ i → ⊥). absurd (omega (arith, ascend i k row r at at_k (omega arith))))
    (cases_eq k i))
    (cases_lt k i)

-- the first row that leads to a break leads to the first one
pub first_next : (t : Tried) (members front found : List RowId) (left i : ℕ) (row : RowId) → Ascend members
    → slice_get members i ≡ Some row
    → ((k : ℕ) (r : RowId) → k < i → slice_get members k ≡ Some r → NoneBreaks t members left (front ++ r ∷ []))
    → BreaksFirst t members left (front ++ row ∷ []) found → BreaksFirst t members (left + 1) front found
first_next t members front found left i row ascend at before first =
    record {
      more = row ∷ first.more;
      found_is = first.found_is ∙ after front row first.more;
      are_more = record {
        count = omega (arith, first.are_more.count);
        among = All-cons (Contains members) row first.more (contains_at members i row at) first.are_more.among;
      };
      breaks = first.breaks;
      earlier = λ others. earlier others;
    }
  where
    earlier : (others : List RowId) → AreRowsBefore others (row ∷ first.more) → AreMore members (left + 1) others
        → breaks_it t (front ++ others) ≡ false
    earlier [] before_it are = absurd before_it
    earlier (r ∷ others) before_it are =
        let there = at_contains members r (All-head (Contains members) r others are.among) in
        let rest = first_of_more members left r others are in
        ap (breaks_it t) (sym (after front r others))
        ∙ ⊎_elim
        (λ (less : r.0 < row.0).
        before there.0 r (stands_before members i there.0 row r ascend at there.1 less) there.1 others rest)
        (λ (same : (r ≡ row) × AreRowsBefore others first.more).
        ap (λ (q : RowId). breaks_it t ((front ++ q ∷ []) ++ others)) same.0 ∙ first.earlier others same.1 rest)
        before_it

-- rows and one more are rows of the table
pub rows_push : (n : ℕ) (front : List RowId) (row : RowId) → All (λ r. r.0 < n) front → row.0 < n
    → All (λ r. r.0 < n) (front ++ row ∷ [])
rows_push n front row all here = All-append (λ r. r.0 < n) front (row ∷ []) all
    (All-cons (λ r. r.0 < n) row [] here (λ k d below. absurd (omega arith)))
