-- Tests of rows that begin with given ones.
use Rattle.std.proofs.Common.{◌≡◌, ◌<◌, ℕ, zero, suc, Bool, true, false, not, ◌&&◌, List, [], ◌∷◌, ◌++◌, length, Some, slice_get, slice_index_or, refl, sym, ap, ◌∙◌, arith}
use Rattle.std.specs.List.{list_all}
use Rattle.std.proofs.lemmas.List.{append-nil}
use Rattle.std.proofs.lemmas.Option.{same_Some, none-some}
use Rattle.currency_base.specs.declared.ids.RowId.{RowId}
use Rattle.currency_base.specs.declared.row.Row.{Row}
use Rattle.denial_rules.specs.Instances.{operand_value, field_value, is_compared}
use Rattle.denial_rules.specs.declared.rule.Operand.{Operand}
use Rattle.denial_rules.specs.declared.rule.Operand.TheVariants.{Field, Constant}
use Rattle.denial_rules.specs.declared.rule.Predicate.{Predicate}
use Rattle.denial_rules.specs.declared.rule.Predicate.TheVariants.{Order, Compare}
use Rattle.spec_model.specs.Satisfies.{AreRowsBefore}
use Rattle.completion_check.specs.Tests.{Places, is_before, predicate_test, conclusion_test, breaks, operand_var, last_var}
use Rattle.completion_check.specs.Breaks.{Tried, IsTestable, IsTrial, AreTested, IsFailed, AreMore, NoneBreaks, BreaksFirst, breaks_it}
use Rattle.completion_check.proofs.Kept.{all_at}

-- an item of the front
get_front : {A : Type 0} (xs ys : List A) (i : ℕ) → i < length xs → slice_get (xs ++ ys) i ≡ slice_get xs i
get_front [] ys i below = absurd (omega arith)
get_front (x ∷ xs) ys zero below = refl
get_front (x ∷ xs) ys (suc i) below = get_front xs ys i (omega arith)

value_front : (table : List Row) (xs ys : List RowId) (o : Operand) → operand_var o < length xs → operand_value table
    (xs ++ ys) o ≡ operand_value table xs o
value_front table xs ys (Field var attr) below = ap (λ r. field_value table r attr.0) (get_front xs ys var below)
value_front table xs ys (Constant value) below = refl

-- a predicate whose variables have rows in the front is tested there
pub test_front : (table : List Row) (places : Places) (xs ys : List RowId) (p : Predicate) → last_var p < length xs
    → predicate_test table places (xs ++ ys) p ≡ predicate_test table places xs p
test_front table places xs ys (Order atom) below =
    let own = slice_index_or places atom.attr.0 [] in
    ap (λ r. is_before own r (slice_get (xs ++ ys) atom.later)) (get_front xs ys atom.earlier (omega arith))
    ∙ ap (λ r. is_before own (slice_get xs atom.earlier) r) (get_front xs ys atom.later (omega arith))
test_front table places xs ys (Compare left cmp right) below =
    ap (λ v. is_compared v cmp (operand_value table (xs ++ ys) right)) (value_front table xs ys left (omega arith))
    ∙ ap (λ v. is_compared (operand_value table xs left) cmp v) (value_front table xs ys right (omega arith))

and_false : (a : Bool) → a && false ≡ false
and_false true = refl
and_false false = refl

list_all_false : {A : Type 0} (test : A → Bool) (xs : List A) (k : ℕ) (x : A) → slice_get xs k ≡ Some x
    → test x ≡ false → list_all test xs ≡ false
list_all_false test [] k x at fails = absurd (none-some x at)
list_all_false test (y ∷ xs) zero x at fails =
    let same : test y ≡ false = ap test (same_Some y x at) ∙ fails in
    ap (λ b. b && list_all test xs) same
list_all_false test (y ∷ xs) (suc k) x at fails =
    ap (λ b. test y && b) (list_all_false test xs k x at fails) ∙ and_false (test y)

pub list_all_true : {A : Type 0} (test : A → Bool) (xs : List A) →
    ((k : ℕ) (x : A) → slice_get xs k ≡ Some x → test x ≡ true) → list_all test xs ≡ true
list_all_true test [] each = refl
list_all_true test (y ∷ xs) each =
    ap (λ b. b && list_all test xs) (each 0 y refl) ∙ list_all_true test xs (λ k x at. each (suc k) x at)

-- rows of which a predicate does not hold break nothing
pub unbroken : (t : Tried) (rows : List RowId) (k : ℕ) (p : Predicate) → slice_get t.rule.predicates k ≡ Some p
    → predicate_test t.table t.places rows p ≡ false
    → breaks_it t rows ≡ false
unfolding breaks
unbroken t rows k p at fails =
    ap (λ b. b && not (conclusion_test t.places rows t.rule.conclusion))
    (list_all_false (predicate_test t.table t.places rows) t.rule.predicates k p at fails)

-- nor do rows that begin with a front where one does not
pub none_failed : (t : Tried) (members front : List RowId) (left var : ℕ) → IsFailed t var front → var < length front
    → NoneBreaks t members left front
none_failed t members front left var failed below more are =
    unbroken t (front ++ more) failed.place failed.predicate failed.is_predicate
    (test_front t.table t.places front more failed.predicate (omega (arith, failed.greatest)) ∙ failed.fails)

-- the greatest variable of a predicate is one of the rule's
testable_var : (vars attrs : ℕ) (p : Predicate) → IsTestable vars attrs p → last_var p < vars
testable_var vars attrs (Order atom) is = omega (arith, is.earlier, is.later)
testable_var vars attrs (Compare left cmp right) is = is

-- where all predicates hold, the conclusion decides
decided : (t : Tried) (front : List RowId) (c : Bool) → IsTrial t → AreTested t t.rule.vars front
    → conclusion_test t.places front t.rule.conclusion ≡ c
    → breaks_it t front ≡ not c
unfolding breaks
decided t front c facts tested concludes =
    ap (λ b. b && not (conclusion_test t.places front t.rule.conclusion))
    (list_all_true (predicate_test t.table t.places front) t.rule.predicates
    (λ k p at. tested k p at (testable_var t.rule.vars (length t.places) p
    (all_at (IsTestable t.rule.vars (length t.places)) t.rule.predicates k p facts.predicates at))))
    ∙ ap not concludes

no_more : (members more : List RowId) → AreMore members 0 more → more ≡ []
no_more members [] are = refl
no_more members (x ∷ more) are = absurd (omega (arith, are.count))

pub none_concluded : (t : Tried) (members front : List RowId) → IsTrial t → AreTested t t.rule.vars front
    → conclusion_test t.places front t.rule.conclusion ≡ true
    → NoneBreaks t members 0 front
none_concluded t members front facts tested concludes more are =
    ap (λ (l : List RowId). breaks_it t (front ++ l)) (no_more members more are) ∙ ap (breaks_it t)
    (append-nil front) ∙ decided t front true facts tested concludes

none_before_nothing : (others : List RowId) → AreRowsBefore others [] → ⊥
none_before_nothing [] before = before
none_before_nothing (x ∷ others) before = before

pub breaks_here : (t : Tried) (members front : List RowId) → IsTrial t → AreTested t t.rule.vars front
    → conclusion_test t.places front t.rule.conclusion ≡ false
    → BreaksFirst t members 0 front front
breaks_here t members front facts tested concludes =
    record {
      more = [];
      found_is = sym (append-nil front);
      are_more = record { count = refl; among = λ k d below. absurd (omega arith) };
      breaks = decided t front false facts tested concludes;
      earlier = λ others before. absurd (none_before_nothing others before);
    }
