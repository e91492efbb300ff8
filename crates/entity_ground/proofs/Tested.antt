-- Choices that are tested as soon as enough of their rows are known.
use Rattle.std.proofs.Common.{◌≡◌, ◌≢◌, ◌+◌, ◌-◌, ◌<◌, ◌≤◌, ◌⊎◌, inl, inr, ℕ, zero, suc, Bool, true, false, not, ◌&&◌, ◌||◌, cond, eqb, ltb, List, [], ◌∷◌, ◌++◌, length, take, max, Option, None, Some, slice_get, refl, sym, ap, ◌∙◌, arith, append_assoc}
use Rattle.std.specs.List.{list_all, flat_map, filter, All}
use Rattle.std.specs.Option.{is_some, option_map}
use Rattle.std.proofs.lemmas.Bool.{false≢true, cases_lt, eq-eqb, lt-ltb, le-ltb}
use Rattle.std.proofs.lemmas.Bool.Decides.{eqb_tells}
use Rattle.std.proofs.lemmas.List.{append-nil, take_all}
use Rattle.std.proofs.lemmas.List.Elements.{All-head, All-tail, All-weaker, filter_agree}
use Rattle.std.proofs.lemmas.Option.{same_Some, none-some}
use Rattle.currency_base.specs.declared.ids.AttrId.{AttrId}
use Rattle.currency_base.specs.declared.ids.RowId.{RowId}
use Rattle.currency_base.specs.declared.pair.Pair.{Pair}
use Rattle.currency_base.specs.declared.row.Row.{Row}
use Rattle.currency_base.specs.declared.value.Cmp.TheVariants.{Eq}
use Rattle.denial_rules.specs.Instances.{atom_pair, pair_at, pair_and, comparison_holds, field_value, is_compared, operand_value, premises_of, values_hold, concluded}
use Rattle.denial_rules.specs.Rules.{IsPredicate, IsRuleOn, IsOperand}
use Rattle.denial_rules.specs.declared.instance.RuleInstance.{RuleInstance}
use Rattle.denial_rules.specs.declared.rule.Operand.{Operand}
use Rattle.denial_rules.specs.declared.rule.Operand.TheVariants.{Field, Constant}
use Rattle.denial_rules.specs.declared.rule.Predicate.{Predicate}
use Rattle.denial_rules.specs.declared.rule.Predicate.TheVariants.{Order, Compare}
use Rattle.denial_rules.specs.declared.rule.Rule.{Rule}
use Rattle.currency_base.specs.declared.value.ValueKind.{ValueKind}
use Rattle.currency_base.specs.declared.value.Value.{Value}
use Rattle.entity_ground.specs.Choosing.{chosen_from}
use Rattle.entity_ground.specs.Grounds.{choices, has_instance, grounds_among}
use Rattle.entity_ground.specs.Lookups.{key_of, is_alike, IsKnown, IsAsked, AreCandidates}
use Rattle.entity_ground.specs.Tests.{IsFitting, operand_needs, needs, passes, passes_at, passes_from}
use Rattle.entity_ground.proofs.Alike.{equal_either}
use Rattle.entity_ground.proofs.Chosen.{chosen_more, chosen_from_nothing}
use Rattle.entity_ground.proofs.Joined.{flat_same, flat_filter}

-- ---- all predicates

all_same : {A : Type 0} (f g : A → Bool) → ((x : A) → f x ≡ g x) → (xs : List A) → list_all f xs ≡ list_all g xs
all_same f g same [] = refl
all_same f g same (x ∷ xs) = ap (λ b. b && list_all f xs) (same x) ∙ ap (λ b. g x && b) (all_same f g same xs)

-- where all pass one test, two others that are the same where that passes
all_same_if : {A : Type 0} (test f g : A → Bool) → ((x : A) → test x ≡ true → f x ≡ g x) → (xs : List A)
    → list_all test xs ≡ true → list_all f xs ≡ list_all g xs
all_same_if test f g same [] all = refl
all_same_if {A} test f g same (x ∷ xs) all = by (test x) refl all (λ rest. all_same_if test f g same xs rest)
  where
    by : (b : Bool) → test x ≡ b → b && list_all test xs ≡ true →
        (list_all test xs ≡ true → list_all f xs ≡ list_all g xs) → f x && list_all f xs ≡ g x && list_all g xs
    by true passed rest more = ap (λ b. b && list_all f xs) (same x passed) ∙ ap (λ b. g x && b) (more rest)
    by false failed rest more = absurd (false≢true rest)

and_false : (a : Bool) → a && false ≡ false
and_false true = refl
and_false false = refl

-- where one fails the first test it fails the second
all_fails : {A : Type 0} (f g : A → Bool) → ((x : A) → f x ≡ false → g x ≡ false) → (xs : List A)
    → list_all f xs ≡ false → list_all g xs ≡ false
all_fails f g fails [] all = absurd (false≢true (sym all))
all_fails {A} f g fails (x ∷ xs) all = by (f x) refl all (λ rest. all_fails f g fails xs rest)
  where
    by : (b : Bool) → f x ≡ b → b && list_all f xs ≡ false → (list_all f xs ≡ false → list_all g xs ≡ false) → g x
        && list_all g xs ≡ false
    by true passed rest more = ap (λ b. g x && b) (more rest) ∙ and_false (g x)
    by false failed rest more = ap (λ b. b && list_all g xs) (fails x failed)

all_true : {A : Type 0} (test : A → Bool) (xs : List A) → All (λ x. test x ≡ true) xs → list_all test xs ≡ true
all_true test [] all = refl
all_true test (x ∷ xs) all = ap (λ b. b && list_all test xs) (All-head (λ y. test y ≡ true) x xs all)
    ∙ all_true test xs (All-tail (λ y. test y ≡ true) x xs all)

one_fails : {A : Type 0} (test : A → Bool) (xs : List A) (k : ℕ) (x : A) → slice_get xs k ≡ Some x → test x ≡ false
    → list_all test xs ≡ false
one_fails test [] k x at fails = absurd (none-some x at)
one_fails test (y ∷ xs) zero x at fails = ap (λ b. b && list_all test xs) (ap test (same_Some y x at) ∙ fails)
one_fails test (y ∷ xs) (suc k) x at fails = ap (λ b. test y && b) (one_fails test xs k x at fails) ∙ and_false (test y)

-- ---- an instance is where all predicates pass

some_map : {A B : Type 0} (f : A → B) (o : Option A) → is_some (option_map f o) ≡ is_some o
some_map f None = refl
some_map f (Some x) = refl

some_and : (p : Option Pair) (ps : Option (List Pair)) → is_some (pair_and p ps) ≡ is_some p && is_some ps
some_and None ps = refl
some_and (Some p) None = refl
some_and (Some p) (Some ps) = refl

never_below : (n : ℕ) → ltb n 0 ≡ false
never_below n = le-ltb n 0 (omega arith)

swapped : (a b c : Bool) → a && (b && c) ≡ b && (a && c)
swapped true b c = refl
swapped false b c = sym (and_false b)

regrouped : (a b c : Bool) → (a && b) && c ≡ a && (b && c)
regrouped true b c = refl
regrouped false b c = refl

both_parts : (table : List Row) (rows : List RowId) (predicates : List Predicate)
    → list_all (comparison_holds table rows) predicates && is_some (premises_of rows predicates) ≡ list_all
    (passes table rows) predicates
both_parts table rows [] = refl
both_parts table rows (Order atom ∷ more) =
    ap (λ b. list_all (comparison_holds table rows) more && b) (some_and (atom_pair rows atom) (premises_of rows more))
    ∙ swapped (list_all (comparison_holds table rows) more) (is_some (atom_pair rows atom)) (is_some (premises_of rows more))
    ∙ ap (λ b. is_some (atom_pair rows atom) && b) (both_parts table rows more)
both_parts table rows (Compare left cmp right ∷ more) =
    let holds = is_compared (operand_value table rows left) cmp (operand_value table rows right) in
    regrouped holds (list_all (comparison_holds table rows) more) (is_some (premises_of rows more))
    ∙ ap (λ b. holds && b) (both_parts table rows more)

-- what a choice is tested for in all is that the rule has an instance
pub instance_passes : (rule : Rule) (table : List Row) (rows : List RowId) → has_instance rule table rows ≡
    passes_from 0 rule table rows
instance_passes rule table rows =
    by (values_hold rule table rows)
    ∙ both_parts table rows rule.predicates
    ∙ all_same (passes table rows) (λ p. ltb (needs p) 0 || passes table rows p)
    (λ p. ap (λ b. b || passes table rows p) (sym (never_below (needs p)))) rule.predicates
  where
    make : List Pair → RuleInstance
    make premises = record { premises = premises; conclusion = concluded rows rule.conclusion }

    by : (b : Bool) → is_some (cond b (option_map make (premises_of rows rule.predicates)) None) ≡ b
        && is_some (premises_of rows rule.predicates)
    by true = some_map make (premises_of rows rule.predicates)
    by false = refl

-- ---- a front tells of what goes on from it

get_front : {A : Type 0} (xs ys : List A) (i : ℕ) → i < length xs → slice_get (xs ++ ys) i ≡ slice_get xs i
get_front [] ys i below = absurd (omega arith)
get_front (x ∷ xs) ys zero below = refl
get_front (x ∷ xs) ys (suc i) below = get_front xs ys i (omega arith)

value_front : (table : List Row) (xs ys : List RowId) (o : Operand) → operand_needs o ≤ length xs
    → operand_value table (xs ++ ys) o ≡ operand_value table xs o
value_front table xs ys (Field var attr) known = ap (λ r. field_value table r attr.0) (get_front xs ys var (omega arith))
value_front table xs ys (Constant value) known = refl

passes_front : (table : List Row) (xs ys : List RowId) (p : Predicate) → needs p ≤ length xs → passes table
    (xs ++ ys) p ≡ passes table xs p
passes_front table xs ys (Order atom) known =
    ap (λ r. is_some (pair_at atom.attr r (slice_get (xs ++ ys) atom.later))) (get_front xs ys atom.earlier (omega arith))
    ∙ ap (λ r. is_some (pair_at atom.attr (slice_get xs atom.earlier) r)) (get_front xs ys atom.later (omega arith))
passes_front table xs ys (Compare left cmp right) known =
    ap (λ v. is_compared v cmp (operand_value table (xs ++ ys) right)) (value_front table xs ys left (omega arith))
    ∙ ap (λ v. is_compared (operand_value table xs left) cmp v) (value_front table xs ys right (omega arith))

or_false : (a b : Bool) → a || b ≡ false → (a ≡ false) × (b ≡ false)
or_false true b is = absurd (false≢true (sym is))
or_false false b is = (refl, is)

-- a number that isn't another, or is it
just : (n m : ℕ) → not (eqb n m) ≡ false → (ltb n m ≡ false) × (n ≤ m)
just n m is = by (eqb_tells n m)
  where
    by : ((eqb n m ≡ true) × (n ≡ m)) ⊎ ((eqb n m ≡ false) × (n ≢ m)) → (ltb n m ≡ false) × (n ≤ m)
    by (inl same) = (le-ltb n m (omega (arith, same.1)), omega (arith, same.1))
    by (inr other) = absurd (false≢true (sym is ∙ ap not other.0))

-- what fails at a front fails in all that goes on from it
fails_on : (rule : Rule) (table : List Row) (front more : List RowId) → passes_at (length front) rule table front ≡ false
    → passes_from (length front) rule table (front ++ more) ≡ false
fails_on rule table front more fails =
    all_fails (λ p. not (eqb (needs p) (length front)) || passes table front p) (λ p. ltb (needs p) (length front)
    || passes table (front ++ more) p)
    (λ p is. by p (or_false (not (eqb (needs p) (length front))) (passes table front p) is)) rule.predicates fails
  where
    by : (p : Predicate) → (not (eqb (needs p) (length front)) ≡ false) × (passes table front p ≡ false)
        → ltb (needs p) (length front) || passes table (front ++ more) p ≡ false
    by p is =
        let known = just (needs p) (length front) is.0 in
        ap (λ b. b || passes table (front ++ more) p) known.0 ∙ passes_front table front more p known.1 ∙ is.1

below_next : (n m : ℕ) → n ≢ m → ltb n m ≡ ltb n (m + 1)
below_next n m other = by (cases_lt n m)
  where
    by : (n < m) ⊎ (m ≤ n) → ltb n m ≡ ltb n (m + 1)
    by (inl below) = lt-ltb n m below ∙ sym (lt-ltb n (m + 1) (omega arith))
    by (inr above) = le-ltb n m above ∙ sym (le-ltb n (m + 1) (omega (arith, other)))

-- where a front passes, what goes on from it is tested for the rest
goes_on : (rule : Rule) (table : List Row) (front more : List RowId) → passes_at (length front) rule table front ≡ true
    → passes_from (length front) rule table (front ++ more) ≡ passes_from (length front + 1) rule table (front ++ more)
goes_on rule table front more passed =
    all_same_if (λ p. not (eqb (needs p) (length front)) || passes table front p) (λ p. ltb (needs p) (length front)
    || passes table (front ++ more) p)
    (λ p. ltb (needs p) (length front + 1) || passes table (front ++ more) p)
    (λ p is. by p (eqb_tells (needs p) (length front)) is) rule.predicates passed
  where
    by : (p : Predicate) → ((eqb (needs p) (length front) ≡ true) × (needs p ≡ length front)) ⊎
        ((eqb (needs p) (length front) ≡ false) × (needs p ≢ length front))
        → not (eqb (needs p) (length front)) || passes table front p ≡ true
        → ltb (needs p) (length front) || passes table (front ++ more) p ≡ ltb (needs p) (length front + 1)
        || passes table (front ++ more) p
    by p (inl same) is =
        let here : passes table front p ≡ true = ap (λ b. not b || passes table front p) (sym same.0) ∙ is in
        ap (λ b. b || passes table (front ++ more) p) (le-ltb (needs p) (length front) (omega (arith, same.1)))
        ∙ passes_front table front more p (omega (arith, same.1))
        ∙ here
        ∙ ap (λ b. b || passes table (front ++ more) p) (sym (lt-ltb (needs p) (length front + 1) (omega (arith, same.1))))
    by p (inr other) is = ap (λ b. b || passes table (front ++ more) p) (below_next (needs p) (length front) other.1)

-- ---- choices that go on from a front

nothing : {A B : Type 0} (make : A → List B) → ((x : A) → make x ≡ []) → (xs : List A) → flat_map make xs ≡ []
nothing make none [] = refl
nothing make none (x ∷ xs) = ap (λ l. l ++ flat_map make xs) (none x) ∙ nothing make none xs

none_chosen : (test : List RowId → Bool) (members : List RowId) (left : ℕ) (front : List RowId) →
    ((more : List RowId) → test (front ++ more) ≡ false)
    → chosen_from test members left front ≡ []
none_chosen test members zero front none =
    let here : test front ≡ false = ap test (sym (append-nil front)) ∙ none [] in
    ap (λ b. cond b (front ∷ []) []) here
none_chosen test members (suc left) front none =
    nothing (λ row. chosen_from test members left (front ++ row ∷ []))
    (λ row. none_chosen test members left (front ++ row ∷ []) (λ more. ap test (append_assoc front (row ∷ []) more)
    ∙ none (row ∷ more))) members

same_chosen : (test other : List RowId → Bool) (members : List RowId) (left : ℕ) (front : List RowId) →
    ((more : List RowId) → test (front ++ more) ≡ other (front ++ more))
    → chosen_from test members left front ≡ chosen_from other members left front
same_chosen test other members zero front same =
    let here : test front ≡ other front = ap test (sym (append-nil front)) ∙ same [] ∙ ap other (append-nil front) in
    ap (λ b. cond b (front ∷ []) []) here
same_chosen test other members (suc left) front same =
    flat_same (λ row. chosen_from test members left (front ++ row ∷ []))
    (λ row. chosen_from other members left (front ++ row ∷ []))
    (λ row. same_chosen test other members left (front ++ row ∷ [])
    (λ more. ap test (append_assoc front (row ∷ []) more) ∙ same (row ∷ more)
    ∙ ap other (sym (append_assoc front (row ∷ []) more)))) members

-- nothing goes on from a front that does not pass
pub none_pass : (rule : Rule) (table : List Row) (members : List RowId) (left : ℕ) (front : List RowId)
    → passes_at (length front) rule table front ≡ false
    → chosen_from (passes_from (length front) rule table) members left front ≡ []
none_pass rule table members left front fails = none_chosen (passes_from (length front) rule table) members left
    front (λ more. fails_on rule table front more fails)

operand_within : (vars : ℕ) (o : Operand) → IsOperand vars o → operand_needs o ≤ vars
operand_within vars (Field var attr) is = omega (arith, is)
operand_within vars (Constant value) is = omega arith

needs_within : (vars : ℕ) (kinds : List ValueKind) (p : Predicate) → IsPredicate vars kinds p → needs p ≤ vars
needs_within vars kinds (Order atom) is = omega (arith, is.earlier, is.later)
needs_within vars kinds (Compare left cmp right) is =
    let one = operand_within vars left is.left_is in
    let two = operand_within vars right is.right_is in
    omega (arith, one, two)

-- a front of a row for each variable that passes is a choice
pub all_pass : (rule : Rule) (kinds : List ValueKind) (table : List Row) (members front : List RowId)
    → IsRuleOn kinds rule → length front ≡ rule.vars → passes_at (length front) rule table front ≡ true
    → chosen_from (passes_from (length front) rule table) members 0 front ≡ front ∷ []
all_pass rule kinds table members front is count passed =
    let deep = length front + 1 in
    let rest : passes_from deep rule table front ≡ true =
    all_true (λ p. ltb (needs p) deep || passes table front p) rule.predicates
    (All-weaker (IsPredicate rule.vars kinds) (λ p. ltb (needs p) deep || passes table front p ≡ true)
    (λ p fits. let within = needs_within rule.vars kinds p fits in ap (λ b. b || passes table front p)
    (lt-ltb (needs p) deep (omega (arith, within, count))))
    rule.predicates is.predicates) in
    let nil : front ++ [] ≡ front = append-nil front in
    let here : passes_from (length front) rule table front ≡ true =
    ap (passes_from (length front) rule table) (sym nil) ∙ goes_on rule table front [] passed
    ∙ ap (passes_from deep rule table) nil ∙ rest in
    ap (λ b. cond b (front ∷ []) []) here

length_next : (front : List RowId) (row : RowId) → length (front ++ row ∷ []) ≡ length front + 1
length_next [] row = refl
length_next (x ∷ front) row = let more = length_next front row in omega (arith, more)

-- the candidates for the next variable are enough
pub candidates_enough : (rule : Rule) (table : List Row) (members front rows : List RowId) (left : ℕ)
    → AreCandidates rule table members front rows → 0 < left
    → passes_at (length front) rule table front ≡ true
    → flat_map (λ row. chosen_from (passes_from (length front + 1) rule table) members (left - 1) (front ++ row ∷ [])) rows
    ≡ chosen_from (passes_from (length front) rule table) members left front
candidates_enough rule table members front rows left are some passed =
    let test = passes_from (length front + 1) rule table in
    let make : RowId → List (List RowId) = λ row. chosen_from test members (left - 1) (front ++ row ∷ []) in
    ap (flat_map make) are.are
    ∙ flat_filter are.keeps make (λ row out. without row out) members
    ∙ sym (chosen_more test members left front some)
    ∙ sym (same_chosen (passes_from (length front) rule table) test members left front
    (λ more. goes_on rule table front more passed))
  where
    without : (row : RowId) → are.keeps row ≡ false → chosen_from (passes_from (length front + 1) rule table) members
        (left - 1) (front ++ row ∷ []) ≡ []
    without row out =
        let count : length (front ++ row ∷ []) ≡ length front + 1 = length_next front row in
        let fails : passes_at (length (front ++ row ∷ [])) rule table (front ++ row ∷ []) ≡ false = rw count
        (are.others row out) in
        rw (← count) (none_pass rule table members (left - 1) (front ++ row ∷ []) fails)

-- ---- candidates

keep_all : {A : Type 0} (xs : List A) → xs ≡ filter (λ x. true) xs
keep_all [] = refl
keep_all (x ∷ xs) = ap (λ l. x ∷ l) (keep_all xs)

-- all members
pub all_members : (rule : Rule) (table : List Row) (members front : List RowId) → AreCandidates rule table members front members
all_members rule table members front = record {
  keeps = λ row. true;
  are = keep_all members;
  others =
      λ row out. absurd (false≢true (sym out));
}

get_last : (front : List RowId) (row : RowId) → slice_get (front ++ row ∷ []) (length front) ≡ Some row
get_last [] row = refl
get_last (x ∷ front) row = get_last front row

known_needs : (var : ℕ) (o : Operand) → IsKnown var o → operand_needs o ≤ var
known_needs var (Field other attr) known = omega (arith, known)
known_needs var (Constant value) known = omega arith

-- those whose value is the one that is asked for
pub alike_members : (rule : Rule) (table : List Row) (members front : List RowId) (attr : AttrId) (by : Operand)
    → IsAsked rule (length front) attr by
    → AreCandidates rule table members front (filter (is_alike table attr (operand_value table front by)) members)
alike_members rule table members front attr by asked =
    record {
      keeps = is_alike table attr (operand_value table front by);
      are = refl;
      others = λ row out. fails row
          out asked.asks.asked;
    }
  where
    fails : (row : RowId) → is_alike table attr (operand_value table front by) row ≡ false
        → (asked.predicate ≡ Compare (Field (length front) attr) Eq by) ⊎
        (asked.predicate ≡ Compare by Eq (Field (length front) attr))
        → passes_at (length front + 1) rule table (front ++ row ∷ []) ≡ false
    fails row out (inl at) =
        let next = front ++ row ∷ [] in
        let few = known_needs (length front) by asked.asks.known in
        let test : Predicate → Bool = λ p. not (eqb (needs p) (length front + 1)) || passes table next p in
        let just : max (length front + 1) (operand_needs by) ≡ length front + 1 = omega (arith, few) in
        let own : operand_value table next (Field (length front) attr) ≡ key_of table attr row =
        ap (λ r. field_value table r attr.0) (get_last front row) in
        let other : operand_value table next by ≡ operand_value table front by = value_front table front (row ∷ []) by few in
        one_fails test rule.predicates asked.place (Compare (Field (length front) attr) Eq by)
        (asked.is_predicate ∙ ap (λ p. Some p) at)
        (ap (λ b. not b || passes table next (Compare (Field (length front) attr) Eq by))
        (eq-eqb (max (length front + 1) (operand_needs by)) (length front + 1) just)
        ∙ ap (λ v. is_compared v Eq (operand_value table next by)) own
        ∙ ap (λ v. is_compared (key_of table attr row) Eq v) other
        ∙ out)
    fails row out (inr at) =
        let next = front ++ row ∷ [] in
        let few = known_needs (length front) by asked.asks.known in
        let test : Predicate → Bool = λ p. not (eqb (needs p) (length front + 1)) || passes table next p in
        let just : max (operand_needs by) (length front + 1) ≡ length front + 1 = omega (arith, few) in
        let own : operand_value table next (Field (length front) attr) ≡ key_of table attr row =
        ap (λ r. field_value table r attr.0) (get_last front row) in
        let other : operand_value table next by ≡ operand_value table front by = value_front table front (row ∷ []) by few in
        one_fails test rule.predicates asked.place (Compare by Eq (Field (length front) attr))
        (asked.is_predicate ∙ ap (λ p. Some p) at)
        (ap (λ b. not b || passes table next (Compare by Eq (Field (length front) attr)))
        (eq-eqb (max (operand_needs by) (length front + 1)) (length front + 1) just)
        ∙ ap (λ v. is_compared (operand_value table next by) Eq v) own
        ∙ ap (λ v. is_compared v Eq (key_of table attr row)) other
        ∙ equal_either (operand_value table front by) (key_of table attr row)
        ∙ out)

-- none, where the operand has no value
pub none_alike : (table : List Row) (attr : AttrId) (members : List RowId) → filter (is_alike table attr None) members ≡ []
none_alike table attr [] = refl
none_alike table attr (row ∷ members) = by (key_of table attr row) (none_alike table attr members)
  where
    by : (own : Option Value) → filter (is_alike table attr None) members ≡ []
        → cond (is_compared own Eq None) (row ∷ filter (is_alike table attr None) members)
        (filter (is_alike table attr None) members) ≡ []
    by None rest = rest
    by (Some v) rest = rest

pub none_found : (table : List Row) (attr : AttrId) (members : List RowId) (value : Option Value) → None ≡ value
    → [] ≡ filter (is_alike table attr value) members
none_found table attr members value none = sym (none_alike table attr members)
    ∙ ap (λ v. filter (is_alike table attr v) members) none

-- ---- the search

-- a front that does not pass adds nothing
pub nothing_more : (rule : Rule) (table : List Row) (members front : List RowId) (left depth : ℕ)
    (grounds : List (List RowId)) → length front ≡ depth
    → passes_at (length front) rule table front ≡ false → grounds ≡ grounds ++ chosen_from
    (passes_from depth rule table) members left front
nothing_more rule table members front left depth grounds count fails =
    let none : chosen_from (passes_from depth rule table) members left front ≡ [] = rw (← count)
    (none_pass rule table members left front fails) in
    sym (ap (λ l. grounds ++ l) none ∙ append-nil grounds)

-- a front of a row for each variable that passes is added
pub one_more : (rule : Rule) (table : List Row) (members front : List RowId) (depth : ℕ) → IsFitting rule
    → length front ≡ depth → depth ≡ rule.vars
    → passes_at (length front) rule table front ≡ true → chosen_from (passes_from depth rule table) members
    (rule.vars - depth) front ≡ front ∷ []
one_more rule table members front depth is count whole passed =
    let none : rule.vars - depth ≡ 0 = omega (arith, whole) in
    rw (none, ← count) (all_pass rule is.kinds table members front is.fits (count ∙ whole) passed)

-- all that goes on from a front is added, candidate by candidate
pub all_added : (rule : Rule) (table : List Row) (members front rows : List RowId) (depth i : ℕ)
    (before now : List (List RowId)) → length front ≡ depth → depth < rule.vars
    → AreCandidates rule table members front rows → passes_at (length front) rule table front ≡ true → length rows ≤ i
    → now ≡ before ++ flat_map (λ row. chosen_from (passes_from (depth + 1) rule table) members
    (rule.vars - depth - 1) (front ++ row ∷ [])) (take i rows)
    → now ≡ before ++ chosen_from (passes_from depth rule table) members (rule.vars - depth) front
all_added rule table members front rows depth i before now count some are passed all is =
    let make : RowId → List (List RowId) = λ row. chosen_from (passes_from (depth + 1) rule table) members
    (rule.vars - depth - 1) (front ++ row ∷ []) in
    let enough : flat_map make rows ≡ chosen_from (passes_from depth rule table) members (rule.vars - depth) front =
    rw (← count) (candidates_enough rule table members front rows (rule.vars - length front) are
    (omega (arith, count, some)) passed) in
    is ∙ ap (λ l. before ++ flat_map make l) (take_all i rows all) ∙ ap (λ l. before ++ l) enough

-- what is found from nothing are the grounds
pub found_among : (rule : Rule) (table : List Row) (members : List RowId) → chosen_from (passes_from 0 rule table)
    members (rule.vars - 0) [] ≡ grounds_among rule table members
found_among rule table members =
    let all : rule.vars - 0 ≡ rule.vars = omega arith in
    ap (λ n. chosen_from (passes_from 0 rule table) members n []) all
    ∙ chosen_from_nothing (passes_from 0 rule table) members rule.vars
    ∙ filter_agree (passes_from 0 rule table) (has_instance rule table)
    (λ rows. sym (instance_passes rule table rows)) (choices rule.vars members)
