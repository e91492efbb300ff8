-- Pairs whose units a search has derived hold in every consistent completion: a report that derives them would show it.
use Rattle.std.proofs.Common.{◌≡◌, ◌≢◌, ◌∙◌, ℕ, zero, suc, true, List, [], ◌∷◌, All, Option, Some, None, map, option_map, slice_get, take, refl, sym, ap, subst, arith}
use Rattle.std.proofs.lemmas.List.{length-map}
use Rattle.std.proofs.lemmas.List.Elements.{All-cons, All-nil}
use Rattle.std.proofs.lemmas.Option.{slice_get-map, slice_get_within}
use Rattle.axiom_agreement.specs.Agreement.{OrdersAgree}
use Rattle.log_checker.specs.Accepted.{IsAccepted}
use Rattle.order_search.specs.Searches.{IsSearch, Search}
use Rattle.query_model.specs.declared.query.Query.{Query}
use Rattle.report_model.specs.Verdicts.{is_decided, kind_of}
use Rattle.report_model.specs.declared.report.Part.TheVariants as part
use Rattle.report_model.specs.declared.report.Report.{Report}
use Rattle.report_model.specs.declared.verdict.Verdict.TheVariants as verdict
use Rattle.report_verify.specs.Right.{EachConsistent, IsRight, PairHolds}
use Rattle.report_verify.specs.Shown.{ShowsVerdict}
use Rattle.report_verify.specs.Supported.{IsDerived, needs_of}
use Rattle.report_verify.specs.Supported.Claim.{Holds}
use Rattle.search_logs.specs.Laws.{LogsAreAccepted}
use Rattle.spec_model.specs.Completion.{Rankings}
use Rattle.spec_model.specs.Consistent.{IsConsistent}
use Rattle.spec_model.specs.Facts.{IsSpecification}
use Rattle.spec_model.specs.Questions.{IsAskedPair, IsQuestionOn}
use Rattle.spec_model.specs.Spec.{Spec}
use Rattle.spec_model.specs.declared.question.Asked.{Asked}
use Rattle.spec_model.specs.declared.question.Question.{Question}
use Rattle.spec_model.specs.declared.question.Question.TheVariants as asked
use Rattle.currency_ask.specs.Goals.{AreProved, FailsAfter, TellsGoals}
use Rattle.currency_ask.specs.Deciding.{AreFirstPairs, ProvedHold}
use Rattle.currency_ask.specs.declared.deciding.Decided.{Decided}
use Rattle.currency_ask.specs.declared.deciding.Decided.TheVariants as decided
use Rattle.currency_ask.specs.declared.goal.Goal.{Goal}
use Rattle.currency_ask.specs.declared.goal.Goal.TheVariants.{Pair}
use Rattle.currency_ask.proofs.Derived.{derived_claim}
use Rattle.currency_ask.proofs.Places.{each_has, item_at, item_has}
use Rattle.currency_ask.proofs.GoalFacts.{at_map, at_take, need_of}

-- a verdict that is shown is right
abbrev pub ShownIsRight : Type 0
ShownIsRight =
    (s : Spec) (question : Question) (report : Report) → IsSpecification s → IsQuestionOn s.relations question
    → ShowsVerdict s question report
    → is_decided (kind_of report.verdict) ≡ true → IsRight s question report.verdict

some : {A : Type 0} (x : A) → x ∷ [] ≢ []
some x e = let no : ⊥ = cc in no

module _ (accepted : LogsAreAccepted) (orders : OrdersAgree) (right : ShownIsRight) (search : Search)
    (is : IsSearch search) (unposed : search.posed.query ≡ None) (pairs : List Asked)
    (on : All (IsAskedPair search.spec.relations) pairs) (steps : List ℕ) (proved : AreProved search (map Pair pairs) steps) where
  -- the unit of a pair
  unit : (k : ℕ) (p : Asked) → slice_get pairs k ≡ Some p → IsDerived search.spec.relations search.log (need_of p)
  unit k p at =
      let below = slice_get_within pairs k p at in
      let same = length-map pairs Pair in
      let step = item_at steps k (omega (arith, below, same, proved.as_many)) in
      let one = proved.each k (Pair p) step.0 (slice_get-map Pair pairs k ∙ ap (option_map Pair) at) step.1 in
      derived_claim search.spec search.log part.Verdict (Holds p) step.0 record {
        lit = one.lit;
        is_unit = one.is_unit;
        says = orders search.spec.relations search.log.statements one.lit p.rel p.pair.attr p.pair.earlier p.pair.later one.says;
      }

  units : All (IsDerived search.spec.relations search.log) (needs_of (asked.Certain pairs) verdict.Certain)
  units =
      each_has (IsDerived search.spec.relations search.log) (map need_of pairs) (λ k need at.
      let found = at_map need_of pairs k need at in
      subst (IsDerived search.spec.relations search.log) (sym found.2) (unit k found.0 found.1))

  -- a report that would show that they are certain
  shows : (c : Rankings) → IsConsistent search.spec c
      → ShowsVerdict search.spec (asked.Certain pairs)
      (record { verdict = verdict.Certain; completions = c ∷ []; log = search.log })
  shows c consistent = record {
    sound = record {
      one_of = tt;
      consistent = All-cons (IsConsistent search.spec) c [] consistent (All-nil (IsConsistent search.spec));
      accepted = subst (λ (o : Option Query). IsAccepted search.spec o search.log) unposed
          (accepted search.spec search.posed search.wanted search.log is.within is.log);
    };
    supported = (some c, units);
  }

  pub pairs_hold : All (λ p. EachConsistent search.spec (PairHolds p)) pairs
  pairs_hold =
      each_has (λ p. EachConsistent search.spec (PairHolds p)) pairs (λ k p at c consistent.
      let certain =
      right search.spec (asked.Certain pairs)
      (record { verdict = verdict.Certain; completions = c ∷ []; log = search.log }) is.within.specification on
      (shows c consistent) refl in
      item_has (λ q. EachConsistent search.spec (PairHolds q)) pairs certain.1 k p at c consistent)

-- ---- the pairs before one that fails

front_on : (P : Asked → Type 0) (pairs : List Asked) (n : ℕ) → All P pairs → All P (take n pairs)
front_on P pairs n all = each_has P (take n pairs) (λ k p at. item_has P pairs all k p (at_take pairs n k p at))

take_map : {A B : Type 0} (f : A → B) (xs : List A) (k : ℕ) → take k (map f xs) ≡ map f (take k xs)
take_map f [] zero = refl
take_map f [] (suc k) = refl
take_map f (x ∷ xs) zero = refl
take_map f (x ∷ xs) (suc k) = ap (λ ys. f x ∷ ys) (take_map f xs k)

-- the front of a front that reaches so far
take_front : {A : Type 0} (xs : List A) (n k : ℕ) (x : A) → slice_get (take n xs) k ≡ Some x → take k (take n xs) ≡ take k xs
take_front [] zero k x at = refl
take_front [] (suc n) k x at = refl
take_front (y ∷ ys) zero k x at = let no : ⊥ = cc in absurd no
take_front (y ∷ ys) (suc n) zero x at = refl
take_front (y ∷ ys) (suc n) (suc k) x at = ap (λ zs. y ∷ zs) (take_front ys n k x at)

before : (search : Search) (s : Spec) (pairs : List Asked) (place : ℕ) (steps : List ℕ) → ProvedHold search → search.spec ≡ s
    → All (IsAskedPair s.relations) pairs → AreProved search (map Pair (take place pairs)) steps
    → All (λ other. EachConsistent s (PairHolds other)) (take place pairs)
before search s pairs place steps law same on proved =
    subst (λ (x : Spec). All (λ other. EachConsistent x (PairHolds other)) (take place pairs)) same
    (law (take place pairs) steps (subst (λ (x : Spec). All (IsAskedPair x.relations) (take place pairs)) (sym same)
    (front_on (IsAskedPair s.relations) pairs place on)) proved)

-- those before the first that fails in a completion
pub before_failing : (search : Search) (s : Spec) (pairs : List Asked) (failing : Option ℕ) (goals : List Goal)
    (place : ℕ) (steps : List ℕ) → ProvedHold search
    → search.spec ≡ s → All (IsAskedPair s.relations) pairs → AreFirstPairs pairs failing goals
    → failing ≡ Some place → AreProved search goals steps
    → All (λ other. EachConsistent s (PairHolds other)) (take place pairs)
before_failing search s pairs failing goals place steps law same on are e proved =
    before search s pairs place steps law same on
    (subst (λ (gs : List Goal). AreProved search gs steps) (subst (λ (f : Option ℕ). AreFirstPairs pairs f goals) e are) proved)

-- those before one that fails in a completion that was found for it
pub before_failed : (search : Search) (s : Spec) (pairs : List Asked) (n place left : ℕ) (goals : List Goal)
    (c : Rankings) (d : Decided) → ProvedHold search
    → search.spec ≡ s → All (IsAskedPair s.relations) pairs → goals ≡ map Pair (take n pairs)
    → d ≡ decided.Fails place c → TellsGoals search goals left d
    → All (λ other. EachConsistent s (PairHolds other)) (take place pairs)
before_failed search s pairs n place left goals c d law same on are e told =
    let after : FailsAfter search goals place c = subst (TellsGoals search goals left) e told in
    let found = at_map Pair (take n pairs) place after.fails.goal (ap (λ (gs : List Goal). slice_get gs place)
    (sym are) ∙ after.fails.is_goal) in
    let front = ap (take place) are ∙ take_map Pair (take n pairs) place ∙ ap (map Pair)
    (take_front pairs n place found.0 found.1) in
    before search s pairs place after.steps law same on (subst (λ (gs : List Goal). AreProved search gs after.steps)
    front after.proved)
