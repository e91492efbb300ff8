-- Goals that are asked pairs or current values: that they can be decided, that they are what is claimed, and what a
-- failure of one is.
use Rattle.std.proofs.Common.{eq-eqb, ◌≡◌, ◌∙◌, ◌==◌, ℕ, zero, suc, true, List, [], ◌∷◌, All, Contains, Option, Some, None, length, map, slice_get, take, refl, sym, ap, subst, arith}
use Rattle.std.proofs.lemmas.List.{length-map, take_all}
use Rattle.std.proofs.lemmas.List.Folds.{list_any_at}
use Rattle.std.proofs.lemmas.Option.{same_Some, slice_get_within}
use Rattle.currency_base.specs.declared.ids.RelId.{RelId}
use Rattle.denial_rules.specs.Instances.{field_value}
use Rattle.spec_model.specs.Completion.{Rankings}
use Rattle.spec_model.specs.Questions.{IsAskedPair}
use Rattle.spec_model.specs.Spec.{Spec}
use Rattle.spec_model.specs.declared.question.Asked.{Asked}
use Rattle.spec_model.specs.declared.question.Question.TheVariants as asked
use Rattle.log_axioms.specs.Posed.{Posed}
use Rattle.order_literals.specs.Numbers
use Rattle.order_literals.specs.declared.wanted.Wanted.{Wanted}
use Rattle.order_search.specs.Searches.{Search}
use Rattle.report_model.specs.declared.verdict.Verdict.TheVariants as verdict
use Rattle.report_model.specs.declared.report.Part.TheVariants as part
use Rattle.report_verify.specs.Supported.{Need, needs_of}
use Rattle.report_verify.specs.Supported.Claim.{Holds}
use Rattle.current_claims.specs.Claims.{AreOfRows, IsDifference, IsLastIn}
use Rattle.current_claims.specs.declared.claims.CurrentRow.{CurrentRow}
use Rattle.current_claims.specs.declared.difference.CurrentPlace.{CurrentPlace}
use Rattle.currency_ask.specs.Goals.{AreClaims, Fails, FailsAfter, FailsAt, IsClaimOf, IsCurrentGoal, IsGoalOn, IsListGoalOn, TellsGoals}
use Rattle.currency_ask.specs.Reported.{IsSearchFor}
use Rattle.currency_ask.specs.Deciding.{AreFirstPairs, AreValuesIn, FailsFirst}
use Rattle.currency_ask.specs.declared.currents.AskedValues.{AskedValues}
use Rattle.currency_ask.specs.declared.deciding.Decided.{Decided}
use Rattle.currency_ask.specs.declared.deciding.Decided.TheVariants as decided
use Rattle.currency_ask.specs.declared.goal.Goal.{Goal}
use Rattle.currency_ask.specs.declared.goal.Goal.TheVariants.{Pair, Current, Answer}
use Rattle.currency_ask.proofs.Places.{each_has, item_has}

-- ---- lists

-- what stands at a place of mapped items
pub at_map : {A B : Type 0} (f : A → B) (xs : List A) (k : ℕ) (y : B) → slice_get (map f xs) k ≡ Some y →
    (x : A) × (slice_get xs k ≡ Some x) × (y ≡ f x)
at_map f [] k y at = let no : ⊥ = cc in absurd no
at_map f (x ∷ xs) zero y at = (x, refl, sym (same_Some (f x) y at))
at_map f (x ∷ xs) (suc k) y at = at_map f xs k y at

-- and among the first items
pub at_take : {A : Type 0} (xs : List A) (n k : ℕ) (x : A) → slice_get (take n xs) k ≡ Some x → slice_get xs k ≡ Some x
at_take [] zero k x at = at
at_take [] (suc n) k x at = at
at_take (y ∷ ys) zero k x at = let no : ⊥ = cc in absurd no
at_take (y ∷ ys) (suc n) zero x at = at
at_take (y ∷ ys) (suc n) (suc k) x at = at_take ys n k x at

-- ---- pairs

first_pair : (pairs : List Asked) (n k : ℕ) (goals : List Goal) (goal : Goal) → goals ≡ map Pair (take n pairs)
    → slice_get goals k ≡ Some goal
    → (p : Asked) × (slice_get pairs k ≡ Some p) × (goal ≡ Pair p)
first_pair pairs n k goals goal are at =
    let found = at_map Pair (take n pairs) k goal (ap (λ gs. slice_get gs k) (sym are) ∙ at) in (
      found.0,
      at_take pairs n k found.0 found.1,
      found.2,
    )

-- a goal whose list is brought in is a goal
pub list_goals : (s : Spec) (wanted : Wanted) (goals : List Goal) → All (IsListGoalOn s wanted) goals
    → All (IsGoalOn s wanted) goals
list_goals s wanted goals all = each_has (IsGoalOn s wanted) goals
    (λ k goal at. of goal (item_has (IsListGoalOn s wanted) goals all k goal at))
  where
    of : (goal : Goal) → IsListGoalOn s wanted goal → IsGoalOn s wanted goal
    of (Pair p) g = g
    of (Current p) g = g
    of (Answer place) g = absurd g

pub pairs_on : (s : Spec) (wanted : Wanted) (pairs : List Asked) (n : ℕ) (goals : List Goal) → All (IsAskedPair s.relations) pairs
    → goals ≡ map Pair (take n pairs) → All (IsListGoalOn s wanted) goals
pairs_on s wanted pairs n goals on are =
    each_has (IsListGoalOn s wanted) goals (λ k goal at.
    let found = first_pair pairs n k goals goal are at in
    subst (IsListGoalOn s wanted) (sym found.2) (item_has (IsAskedPair s.relations) pairs on k found.0 found.1))

pub pair_fails : (s : Spec) (posed : Posed) (pairs : List Asked) (n place : ℕ) (goals : List Goal) (c : Rankings)
    → goals ≡ map Pair (take n pairs)
    → FailsAt s posed goals place c → FailsFirst pairs c place
pair_fails s posed pairs n place goals c are fails =
    let found = first_pair pairs n place goals fails.goal are fails.is_goal in
    let failing = subst (λ goal. Fails s posed goal c) found.2 fails.fails in
    record {
      within = slice_get_within pairs place found.0 found.1;
      fails = λ p at. subst (λ q. Fails s posed (Pair q) c) (same_Some found.0 p (sym found.1 ∙ at)) failing;
    }

-- what is claimed of a pair
abbrev pub need_of : Asked → Need
need_of p = record { part = part.Verdict; claim = Holds p }

pub pairs_claimed : (s : Spec) (posed : Posed) (pairs : List Asked) (goals : List Goal) → goals ≡ map Pair
    (take (length pairs) pairs)
    → AreClaims s posed goals (needs_of (asked.Certain pairs) verdict.Certain)
pairs_claimed s posed pairs goals are = record {
  as_many = ap length are ∙ length-map (take (length pairs) pairs) Pair
      ∙ ap length (take_all (length pairs) pairs (omega arith)) ∙ sym (length-map pairs need_of);
  each = λ k goal need at at_need.
      let found = first_pair pairs (length pairs) k goals goal are at in
      let needed = at_map need_of pairs k need at_need in
      subst (λ g. IsClaimOf s posed g need.claim) (sym found.2)
      (subst (λ (x : Need). IsClaimOf s posed (Pair found.0) x.claim) (sym needed.2)
      (same_Some found.0 needed.0 (sym found.1 ∙ needed.1)));
}

-- ---- current values

itself : (n : ℕ) → (n == n) ≡ true
itself n = eq-eqb n n refl

wants : (rels : List RelId) (rel : RelId) → Contains rels rel → Numbers.is_wanted rels rel.0 ≡ true
wants rels rel is =
    list_any_at (λ (wanted : RelId). wanted.0 == rel.0) rels is.0 rel is.1
    (subst (λ (r : RelId). (r.0 == rel.0) ≡ true) (sym is.2) (itself rel.0))

last_goal : (s : Spec) (wanted : Wanted) (rels : List RelId) (c : Rankings) (p : CurrentRow) → wanted.currents ≡ rels
    → IsLastIn s.relations rels c p
    → IsCurrentGoal s wanted p
last_goal s wanted rels c p currents is = record {
  relation = is.relation;
  is_relation = is.is_relation;
  attr_within = is.attr_within;
  ent_within = is.ent_within;
  of_entity = is.of_entity;
  row_within = is.row_within;
  is_wanted = subst (λ (rs : List RelId). Numbers.is_wanted rs p.rel.0 ≡ true) (sym currents) (wants rels p.rel is.asked);
}

pub values_on : (s : Spec) (wanted : Wanted) (rels : List RelId) (c : Rankings) (rows : List CurrentRow)
    (goals : List Goal) → wanted.currents ≡ rels
    → All (IsLastIn s.relations rels c) rows → goals ≡ map Current rows → All (IsListGoalOn s wanted) goals
values_on s wanted rels c rows goals currents last are =
    each_has (IsListGoalOn s wanted) goals (λ k goal at.
    let found = at_map Current rows k goal (ap (λ gs. slice_get gs k) (sym are) ∙ at) in
    subst (IsListGoalOn s wanted) (sym found.2)
    (last_goal s wanted rels c found.0 currents (item_has (IsLastIn s.relations rels c) rows last k found.0 found.1)))

pub values_claimed : (s : Spec) (posed : Posed) (rels : List RelId) (c : Rankings) (rows : List CurrentRow)
    (goals : List Goal) (needs : List Need)
    → AreOfRows s.relations rels c rows needs → goals ≡ map Current rows → AreClaims s posed goals needs
values_claimed s posed rels c rows goals needs of are = record {
  as_many = ap length are ∙ length-map rows Current ∙ of.as_many;
  each = λ k goal need at at_need.
      let found = at_map Current rows k goal (ap (λ gs. slice_get gs k) (sym are) ∙ at) in
      let row = of.each k found.0 need found.1 at_need in
      subst (λ g. IsClaimOf s posed g need.claim) (sym found.2)
      (subst (IsClaimOf s posed (Current found.0)) (sym row.is_claim) (refl, refl, refl, row.of_row));
}

pub value_fails : (s : Spec) (posed : Posed) (rels : List RelId) (c other : Rankings) (rows : List CurrentRow)
    (goals : List Goal) (place : ℕ) (row : CurrentRow)
    → All (IsLastIn s.relations rels c) rows → goals ≡ map Current rows → FailsAt s posed goals place other
    → slice_get rows place ≡ Some row
    → IsDifference s.relations rels c other row.rel row.attr row.ent
value_fails s posed rels c other rows goals place row last are fails at_row =
    let found = at_map Current rows place fails.goal (ap (λ gs. slice_get gs place) (sym are) ∙ fails.is_goal) in
    let one : found.0 ≡ row = same_Some found.0 row (sym found.1 ∙ at_row) in
    let failing = subst (λ goal. Fails s posed goal other) (found.2 ∙ ap Current one) fails.fails in
    let is = item_has (IsLastIn s.relations rels c) rows last place row at_row in
    record {
      asked = is.asked;
      relation = is.relation;
      is_relation = is.is_relation;
      attr_within = is.attr_within;
      ent_within = is.ent_within;
      differ = λ equal. failing is.relation is.is_relation
          (sym equal ∙ ap (λ last. field_value is.relation.rows last row.attr.0) is.is_last);
    }

-- ---- goals of a search on the same specification

pub pairs_asked : (s t : Spec) (wanted : Wanted) (pairs : List Asked) (n : ℕ) (goals : List Goal) → t ≡ s
    → All (IsAskedPair s.relations) pairs
    → goals ≡ map Pair (take n pairs) → All (IsListGoalOn t wanted) goals
pairs_asked s t wanted pairs n goals e on are = subst (λ (x : Spec). All (IsListGoalOn x wanted) goals) (sym e)
    (pairs_on s wanted pairs n goals on are)

pub failed_pair : (search : Search) (pairs : List Asked) (n place left : ℕ) (goals : List Goal) (c : Rankings)
    (d : Decided) → d ≡ decided.Fails place c
    → goals ≡ map Pair (take n pairs) → TellsGoals search goals left d → FailsFirst pairs c place
failed_pair search pairs n place left goals c d e are told =
    let after : FailsAfter search goals place c = subst (TellsGoals search goals left) e told in pair_fails
    search.spec search.posed pairs n place goals c are after.fails

pub all_pairs : (pairs : List Asked) (failing : Option ℕ) (goals : List Goal) → failing ≡ None → AreFirstPairs pairs failing goals
    → goals ≡ map Pair (take (length pairs) pairs)
all_pairs pairs failing goals e are = subst (λ (f : Option ℕ). AreFirstPairs pairs f goals) e are

pub values_asked : (s : Spec) (search : Search) (rels : List RelId) (c : Rankings) (v : AskedValues)
    → search.spec ≡ s → IsSearchFor (asked.Same rels) search
    → AreValuesIn s rels c v → All (IsListGoalOn search.spec search.wanted) v.goals
values_asked s search rels c v e for_it are =
    subst (λ (x : Spec). All (IsListGoalOn x search.wanted) v.goals) (sym e)
    (values_on s search.wanted rels c v.claims.rows v.goals for_it.currents are.claims.rows.last are.goals)

pub differing_value : (search : Search) (s : Spec) (rels : List RelId) (c other : Rankings) (v : AskedValues)
    (place left : ℕ) (d : Decided) (row : CurrentRow)
    (at : CurrentPlace) → d ≡ decided.Fails place other → search.spec ≡ s → TellsGoals search v.goals left d
    → AreValuesIn s rels c v
    → slice_get v.claims.rows place ≡ Some row → at ≡ record { rel = row.rel; attr = row.attr; ent = row.ent }
    → IsDifference s.relations rels c other at.rel at.attr at.ent
differing_value search s rels c other v place left d row at e same told are at_row place_is =
    let after : FailsAfter search v.goals place other = subst (TellsGoals search v.goals left) e told in
    let fails = subst (λ (x : Spec). FailsAt x search.posed v.goals place other) same after.fails in
    subst (λ (p : CurrentPlace). IsDifference s.relations rels c other p.rel p.attr p.ent) (sym place_is)
    (value_fails s search.posed rels c other v.claims.rows v.goals place row are.claims.rows.last are.goals fails at_row)
