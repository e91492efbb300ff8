-- The answers that are left: their goals, their units, and that they are claimed.
use Rattle.std.proofs.Common.{◌≡◌, ◌⊎◌, ◌<◌, ◌≤◌, ◌+◌, ◌∙◌, ℕ, zero, suc, Bool, true, false, not, List, [], ◌∷◌, ◌++◌, All, Some, length, map, slice_get, slice_index_or, refl, sym, ap, subst, inl, inr, arith}
use Rattle.std.specs.List.{range_with_len}
use Rattle.std.proofs.lemmas.Bool.{false≢true}
use Rattle.std.proofs.lemmas.List.{length-append, length-map}
use Rattle.std.proofs.lemmas.List.Elements.{All-filter, filter_passes}
use Rattle.std.proofs.lemmas.List.Sums.{count_by-le-length, length-filter}
use Rattle.std.proofs.lemmas.List.FromFn.{get_or-range_with_len, length-range_with_len}
use Rattle.std.proofs.lemmas.Option.{same_Some, slice_get-get_or}
use Rattle.answer_candidates.specs.Candidates.{AreCandidates, EachRefutes, LeftAreCommon, Standing, is_left, left_of, left_tuples}
use Rattle.certain_answers.specs.Deciding.{AreDecidedUpTo, IsDecided}
use Rattle.certain_answers.specs.declared.decisions.Decision.{Decision}
use Rattle.certain_answers.specs.declared.decisions.Decision.TheVariants.{Gone, Proved}
use Rattle.currency_base.specs.declared.value.Value.{Value}
use Rattle.refutation_log.specs.Writable.{AreFew}
use Rattle.order_search.specs.Searches.{IsSearch, Search}
use Rattle.query_model.specs.declared.query.Query.{Query}
use Rattle.report_model.specs.declared.verdict.Verdict.TheVariants as verdict
use Rattle.report_verify.specs.Supported.{IsOneOf, Need, answer_needs}
use Rattle.report_verify.specs.Supported.Claim.{HasAnswer}
use Rattle.report_model.specs.Writable.{IsWritableVerdict}
use Rattle.spec_model.specs.Completion.{Rankings}
use Rattle.spec_model.specs.Spec.{Spec}
use Rattle.spec_model.specs.declared.question.Question.TheVariants as asked
use Rattle.currency_base.specs.Values.{IsValue}
use Rattle.currency_ask.specs.Answered.{EachLacksOne}
use Rattle.currency_ask.specs.Answering.{AreUnitsAt, IsProvedAt, IsProvedBy}
use Rattle.currency_ask.specs.Goals.{AreClaims, AreProved, IsClaimOf, IsGoalOn, IsProved}
use Rattle.currency_ask.specs.Reported.{IsListedFor}
use Rattle.currency_ask.specs.declared.goal.Goal.{Goal}
use Rattle.currency_ask.specs.declared.goal.Goal.TheVariants.{Answer}
use Rattle.currency_ask.proofs.Places.{at_push, each_has, item_at, item_has}
use Rattle.currency_ask.proofs.GoalFacts.{at_map}

-- ---- places that are left

-- a place that is not gone
abbrev IsLeftAt : List Bool → ℕ → Type 0
IsLeftAt gone place = (place < length gone) × (slice_get gone place ≡ Some false)

not_true : (b : Bool) → not b ≡ true → b ≡ false
not_true true is = absurd (false≢true is)
not_true false is = refl

range_below : (n : ℕ) → All (λ x. x < n) (range_with_len 0 n)
range_below n i d below =
    let here : i < n = omega (arith, below, length-range_with_len 0 n) in
    omega (arith, here, get_or-range_with_len 0 n i d here)

left_at : (gone : List Bool) → All (IsLeftAt gone) (left_of gone)
left_at gone i d below =
    let range = range_with_len 0 (length gone) in
    let inside = All-filter (is_left gone) (λ x. x < length gone) range (range_below (length gone)) i d below in
    let stays = not_true _ (filter_passes (is_left gone) range i d below) in
    (inside, slice_get-get_or gone _ true inside ∙ ap (λ b. Some b) stays)

left_few : (gone : List Bool) → length (left_of gone) ≤ length gone
left_few gone =
    let range = range_with_len 0 (length gone) in
    omega (
      arith,
      length-filter (is_left gone) range,
      count_by-le-length (is_left gone) range,
      length-range_with_len
          0 (length gone),
    )

-- the places that are left are within the tuples
pub left_within : (standing : Standing) (n : ℕ) (places : List ℕ) → length standing.gone ≡ n
    → places ≡ left_of standing.gone → All (λ place. place < n) places
left_within standing n places many are =
    subst (All (λ place. place < n)) (sym are)
    (each_has (λ place. place < n) (left_of standing.gone) (λ k place at.
    let left = item_has (IsLeftAt standing.gone) (left_of standing.gone) (left_at standing.gone) k place at in
    omega (arith, left.0, many)))

-- ---- claims

need_many : (n : ℕ) (tuples : List (List Value)) → length (answer_needs n tuples) ≡ length tuples
need_many n [] = refl
need_many n (tuple ∷ tuples) = ap suc (need_many (n + 1) tuples)

need_at : (n : ℕ) (tuples : List (List Value)) (k : ℕ) (need : Need) → slice_get (answer_needs n tuples) k ≡ Some need
    → (tuple : List Value) × (slice_get tuples k ≡ Some tuple) × (need.claim ≡ HasAnswer tuple)
need_at n [] k need at = let no : ⊥ = cc in absurd no
need_at n (tuple ∷ tuples) zero need at = (tuple, refl, ap (λ (x : Need). x.claim) (sym (same_Some _ need at)))
need_at n (tuple ∷ tuples) (suc k) need at = need_at (n + 1) tuples k need at

-- ---- the answers that are left

-- a search in which the tuples are posed, and in which each is decided
pub record AreDecided (search : Search) (s : Spec) (query : Query) (standing : Standing) (decisions : List Decision) : Type 0 where
  pub search_is : IsSearch search
  pub spec : search.spec ≡ s
  pub posed : search.posed.answers ≡ standing.tuples
  pub candidates : AreCandidates s query standing
  pub decided : AreDecidedUpTo search standing (length standing.tuples) decisions

-- one unit more
pub units_more : (decisions : List Decision) (places : List ℕ) (at place : ℕ) (old new : List ℕ) (step : ℕ)
    → AreUnitsAt decisions places at old → slice_get places at ≡ Some place → IsProvedBy decisions place step
    → new ≡ old ++ step ∷ [] → AreUnitsAt decisions places (at + 1) new
units_more decisions places at place old new step are there proved push = record {
  as_many = ap length push ∙ length-append old (step ∷ []) ∙ ap (λ n. n + 1) are.as_many;
  each = λ k one unit at_k here. pick k one unit at_k
      (at_push old step k unit (ap (λ us. slice_get us k) (sym push) ∙ here));
}
  where
    pick : (k one unit : ℕ) → slice_get places k ≡ Some one → (slice_get old k ≡ Some unit) ⊎
        ((k ≡ length old) × (step ≡ unit)) → IsProvedBy decisions one unit
    pick k one unit at_k (inl before) = are.each k one unit at_k before
    pick k one unit at_k (inr last) =
        let same : place ≡ one = same_Some place one (sym there
        ∙ ap (λ i. slice_get places i) (sym (last.0 ∙ are.as_many)) ∙ at_k) in
        subst (λ p. IsProvedBy decisions p unit) same (subst (IsProvedBy decisions place) last.1 proved)

module _ (search : Search) (s : Spec) (query : Query) (standing : Standing) (decisions : List Decision)
    (are : AreDecided search s query standing decisions) where
  left : List ℕ
  left = left_of standing.gone

  at_left : (k place : ℕ) → slice_get (left_of standing.gone) k ≡ Some place → IsLeftAt standing.gone place
  at_left k place at = item_has (IsLeftAt standing.gone) (left_of standing.gone) (left_at standing.gone) k place at

  within : (k place : ℕ) → slice_get (left_of standing.gone) k ≡ Some place → place < length standing.tuples
  within k place at = omega (arith, (at_left k place at).0, are.candidates.per_tuple)

  tuple_at : (k place : ℕ) → slice_get (left_of standing.gone) k ≡ Some place
      → slice_get search.posed.answers place ≡ Some (slice_index_or standing.tuples place [])
  tuple_at k place at = ap (λ (xs : List (List Value)). slice_get xs place) are.posed
      ∙ slice_get-get_or standing.tuples place [] (within k place at)

  pub goals_on : All (IsGoalOn search.spec search.wanted) (map Answer (left_of standing.gone))
  goals_on =
      each_has (IsGoalOn search.spec search.wanted) (map Answer (left_of standing.gone)) (λ k goal at.
      let found = at_map Answer (left_of standing.gone) k goal at in
      let below = within k found.0 found.1 in
      let many = ap (λ (xs : List (List Value)). length xs) are.posed in
      subst (IsGoalOn search.spec search.wanted) (sym found.2) (omega (arith, below, many, are.search_is.log.as_many)))

  -- a candidate that is not gone is proved
  proved_at : (place : ℕ) (decision : Decision) → slice_get standing.gone place ≡ Some false
      → slice_get decisions place ≡ Some decision → IsDecided search standing place decision
      → IsProvedAt decisions place
  proved_at place Gone stays at gone = absurd (false≢true (same_Some false true (sym stays ∙ gone)))
  proved_at place (Proved step) stays at unit = (step, at)

  pub left_are_proved : All (IsProvedAt decisions) (left_of standing.gone)
  left_are_proved =
      each_has (IsProvedAt decisions) (left_of standing.gone) (λ k place at.
      let below = within k place at in
      let found = item_at decisions place (omega (arith, below, are.decided.as_many)) in
      proved_at place found.0 (at_left k place at).1 found.1 (are.decided.each place found.0 found.1))

  pub units_are : (units : List ℕ) → AreUnitsAt decisions (left_of standing.gone) (length (left_of standing.gone)) units
      → AreProved search (map Answer (left_of standing.gone)) units
  units_are units proved = record {
    as_many = proved.as_many ∙ sym (length-map (left_of standing.gone) Answer);
    each = λ k goal step at_goal at_step.
        let found = at_map Answer (left_of standing.gone) k goal at_goal in
        let unit = are.decided.each found.0 (Proved step) (proved.each k found.0 step found.1 at_step) in
        subst (λ (g : Goal). IsProved search g step) (sym found.2)
        (record { lit = unit.lit; says = unit.says; is_unit = unit.is_unit });
  }

  pub claims_are : AreClaims search.spec search.posed (map Answer (left_of standing.gone)) (answer_needs 0 (left_tuples standing))
  claims_are = record {
    as_many = length-map (left_of standing.gone) Answer
        ∙ sym (length-map (left_of standing.gone) (λ place. slice_index_or standing.tuples place []))
        ∙ sym (need_many 0 (left_tuples standing));
    each = λ k goal need at at_need.
        let found = at_map Answer (left_of standing.gone) k goal at in
        let needed = need_at 0 (left_tuples standing) k need at_need in
        let tuple = at_map (λ place. slice_index_or standing.tuples place []) (left_of standing.gone) k needed.0 needed.1 in
        let one : tuple.0 ≡ found.0 = same_Some tuple.0 found.0 (sym tuple.1 ∙ found.1) in
        let is_tuple : slice_get search.posed.answers found.0 ≡ Some needed.0 =
        tuple_at k found.0 found.1 ∙ ap (λ t. Some t)
        (sym (tuple.2 ∙ ap (λ place. slice_index_or standing.tuples place []) one)) in
        subst (λ (g : Goal). IsClaimOf search.spec search.posed g need.claim) (sym found.2)
        (subst (IsClaimOf search.spec search.posed (Answer found.0)) (sym needed.2) is_tuple);
  }

  pub answers_written : IsWritableVerdict search.spec.relations (verdict.Answers (left_tuples standing))
  answers_written = record {
    few =
        let posed = are.search_is.log.is_posed.few in
        let many = ap (λ (xs : List (List Value)). length xs) are.posed in
        let same = length-map (left_of standing.gone) (λ place. slice_index_or standing.tuples place []) in
        omega (arith, posed, many, same, left_few standing.gone, are.candidates.per_tuple);
    each = each_has (AreFew IsValue) (left_tuples standing) (λ k tuple at.
        let found = at_map (λ place. slice_index_or standing.tuples place []) (left_of standing.gone) k tuple at in
        subst (AreFew IsValue) (sym found.2)
        (item_has (AreFew IsValue) search.posed.answers are.search_is.log.is_posed.values found.0
        (slice_index_or standing.tuples found.0 []) (tuple_at k found.0 found.1)));
  }

  pub answers_listed : LeftAreCommon → (completions : List Rankings) → completions ≡ standing.completions
      → IsListedFor search.spec (asked.Answers query) (verdict.Answers (left_tuples standing)) completions
  answers_listed law completions same =
      let common = law s query standing are.candidates in
      subst (λ (cs : List Rankings). IsListedFor search.spec (asked.Answers query)
      (verdict.Answers (left_tuples standing)) cs) (sym same)
      (subst (λ (x : Spec). IsListedFor x (asked.Answers query) (verdict.Answers (left_tuples standing))
      standing.completions) (sym are.spec)
      (are.candidates.some, query, refl, record { each = common.each; all = common.all }, lacks))
    where
      lacks : EachLacksOne s (asked.Answers query) standing.completions
      lacks own e =
          subst (λ (x : Query). EachRefutes s.relations x standing.completions) (same_Some query own e) are.candidates.refuting

  pub answers_ascend : LeftAreCommon → IsOneOf search.spec (asked.Answers query) (verdict.Answers (left_tuples standing))
  answers_ascend law = (law s query standing are.candidates).ascending
