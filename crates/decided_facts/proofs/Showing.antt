-- What is shown of one fact after another.
use Rattle.std.proofs.Common.{◌≡◌, ◌⊎◌, ◌∙◌, ◌+◌, ◌<◌, ◌++◌, ◌∷◌, ℕ, zero, suc, Bool, true, List, [], All, Some, length, slice_get, slice_set, inl, inr, ap, arith, refl, subst, sym}
use Rattle.std.proofs.lemmas.List.{append-nil, length-append, length_push, length-set}
use Rattle.std.proofs.lemmas.List.Elements.{All-push}
use Rattle.std.proofs.lemmas.Option.{none-some, same_Some}
use Rattle.spec_parts.proofs.Pairing.{at_push}
use Rattle.fact_trials.specs.Trials.{IsTrial, IsWithout}
use Rattle.fact_trials.specs.declared.trial.Trial.{Trial}
use Rattle.fact_trials.specs.declared.trial.Trial.TheVariants as trial
use Rattle.posed_facts.specs.Facts.{FactIn, IsPosable}
use Rattle.posed_facts.specs.Laws.{FactsAreAsked}
use Rattle.posed_facts.specs.Questions.{fact_question}
use Rattle.posed_facts.specs.declared.fact.Fact.{Fact}
use Rattle.report_verify.specs.Right.{EachConsistent}
use Rattle.spec_model.specs.Completion.{Rankings}
use Rattle.spec_model.specs.Consistent.{IsConsistent}
use Rattle.spec_model.specs.Facts.{IsSpecification}
use Rattle.spec_model.specs.Spec.{Spec}
use Rattle.spec_model.specs.declared.question.Question.{Question}
use Rattle.unit_questions.specs.Facts.{FactHolds}
use Rattle.decided_facts.specs.Decided.{AreShown, IsShown}
use Rattle.decided_facts.specs.Steps.{AreFound, AreShownTo, Extends, IsNear, IsOne}
use Rattle.decided_facts.specs.declared.rest.One.{One}
use Rattle.decided_facts.specs.declared.rest.One.TheVariants as one
use Rattle.decided_facts.specs.declared.shown.Shown.{Shown}
use Rattle.decided_facts.specs.declared.trying.Near.{Near}
use Rattle.decided_facts.specs.declared.trying.Near.TheVariants as near
use Rattle.decided_facts.specs.declared.shown.Shown.TheVariants as shown

-- an item stays at its place, where more come after it
stays : {A : Type 0} (xs ys : List A) (k : ℕ) (x : A) → slice_get xs k ≡ Some x → slice_get (xs ++ ys) k ≡ Some x
stays [] ys k x at = absurd (none-some x at)
stays (y ∷ xs) ys zero x at = at
stays (y ∷ xs) ys (suc k) x at = stays xs ys k x at

-- an item of a list in which one is replaced is that one, or stood there before
set_at : (xs : List Bool) (place k : ℕ) (x : Bool) → slice_get (slice_set xs place x) k ≡ Some true
    → (k ≡ place) ⊎ (slice_get xs k ≡ Some true)
set_at [] place k x at = inr at
set_at (y ∷ xs) zero zero x at = inl refl
set_at (y ∷ xs) zero (suc k) x at = inr at
set_at (y ∷ xs) (suc place) zero x at = inr at
set_at (y ∷ xs) (suc place) (suc k) x at = by (set_at xs place k x at)
  where
    by : (k ≡ place) ⊎ (slice_get xs k ≡ Some true) → (suc k ≡ suc place) ⊎ (slice_get xs k ≡ Some true)
    by (inl same) = inl (ap suc same)
    by (inr before) = inr before

-- what is shown stays so, where more completions are listed
pub stays_shown : (s : Spec) (old new : List Rankings) (f : Fact) (x : Shown) → Extends old new → IsShown s old f x
    → IsShown s new f x
stays_shown s old new f shown.Holds more is = is
stays_shown s old new f (shown.FailsIn place) more is = record {
  completion = is.completion;
  is_there = subst (λ (list : List Rankings). slice_get list place ≡ Some is.completion) (sym more.is_new)
      (stays old more.more place is.completion is.is_there);
  fails = is.fails;
}

-- more completions are not none, where the first were not
still_some : (old new : List Rankings) → Extends old new → 0 < length old → 0 < length new
still_some old new more some = omega (arith, some, length-append old more.more, ap length more.is_new)

-- one more fact is shown
pub one_more : (s : Spec) (facts : List Fact) (count : ℕ) (old new : List Rankings) (list next : List Shown) (f : Fact) (x : Shown)
    → AreShownTo s facts count old list → slice_get facts count ≡ Some f → All (IsConsistent s) new → Extends old new
    → IsShown s new f x → next ≡ list ++ x ∷ [] → AreShownTo s facts (count + 1) new next
one_more s facts count old new list next f x so_far is_fact consistent more is is_next =
    subst (λ (all : List Shown). AreShownTo s facts (count + 1) new all) (sym is_next) record {
      consistent = consistent;
      some = still_some old new more so_far.some;
      as_many = rw (length_push list x) (rw so_far.as_many refl);
      each = λ k g y at there. by k g y at (at_push list x k y there);
    }
  where
    by : (k : ℕ) (g : Fact) (y : Shown) → slice_get facts k ≡ Some g
        → (slice_get list k ≡ Some y) ⊎ ((k ≡ length list) × (x ≡ y)) → IsShown s new g y
    by k g y at (inl before) = stays_shown s old new g y more (so_far.each k g y at before)
    by k g y at (inr last) =
        let same : f ≡ g = same_Some f g
        (sym is_fact ∙ subst (λ (n : ℕ). slice_get facts n ≡ Some g) (last.0 ∙ so_far.as_many) at) in
        subst (λ (h : Fact). IsShown s new h y) same (subst (λ (z : Shown). IsShown s new f z) last.1 is)

-- all facts are shown
pub all_shown : (s : Spec) (facts : List Fact) (count : ℕ) (completions : List Rankings) (list : List Shown)
    → count ≡ length facts → AreShownTo s facts count completions list → AreShown s facts completions list
all_shown s facts count completions list all is = record {
  consistent = is.consistent;
  some = is.some;
  per_fact = is.as_many ∙ all;
  each = is.each;
}

-- the last item of a list with one more
last_at : {A : Type 0} (xs : List A) (y : A) → slice_get (xs ++ y ∷ []) (length xs) ≡ Some y
last_at [] y = refl
last_at (x ∷ xs) y = last_at xs y

-- a completion is listed in which the question for a fact fails
pub listed : FactsAreAsked → (s : Spec) (budget : ℕ) (f : Fact) (q : Question) (c : Rankings) (old new : List Rankings) (x : One)
    → IsSpecification s → IsPosable s.relations f → q ≡ fact_question s.relations f → IsWithout s q c → new ≡ old ++ c ∷ []
    → x ≡ one.Shown (shown.FailsIn (length old)) → IsOne s budget f new x
listed law s budget f q c old new x specification posable is without is_new is_x =
    let asked = law s.relations f specification.relations posable in
    subst (IsOne s budget f new) (sym is_x) record {
      completion = c;
      is_there = subst (λ (list : List Rankings). slice_get list (length old) ≡ Some c) (sym is_new) (last_at old c);
      fails = λ held. without.fails (subst (λ (one : Question). FactHolds s.relations one c) (sym is)
          ((asked.asks c without.consistent.completion).1 held));
    }

-- one more consistent completion
pub consistent_more : (s : Spec) (c : Rankings) (old new : List Rankings) → All (IsConsistent s) old → IsConsistent s c
    → new ≡ old ++ c ∷ [] → All (IsConsistent s) new
consistent_more s c old new all one is = subst (All (IsConsistent s)) (sym is) (All-push (IsConsistent s) old c all one)

-- no more completions
pub no_more : (old : List Rankings) → Extends old old
no_more old = record { more = []; is_new = sym (append-nil old) }

-- a fact is marked that holds in every consistent completion
pub marked : (s : Spec) (facts : List Fact) (completions : List Rankings) (holds : List Bool) (place : ℕ) (f : Fact)
    → AreFound s facts completions holds → slice_get facts place ≡ Some f → EachConsistent s (FactIn s.relations f)
    → AreFound s facts completions (slice_set holds place true)
marked s facts completions holds place f found is_fact certain = record {
  consistent = found.consistent;
  some = found.some;
  marked = record {
    per_fact = length-set holds place true ∙ found.marked.per_fact;
    each = λ k g at there. by k g at there (set_at holds place k true at);
  };
}
  where
    by : (k : ℕ) (g : Fact) → slice_get (slice_set holds place true) k ≡ Some true → slice_get facts k ≡ Some g
        → (k ≡ place) ⊎ (slice_get holds k ≡ Some true) → EachConsistent s (FactIn s.relations g)
    by k g at there (inl same) =
        subst (λ (h : Fact). EachConsistent s (FactIn s.relations h))
        (same_Some f g (sym is_fact ∙ subst (λ (n : ℕ). slice_get facts n ≡ Some g) same there)) certain
    by k g at there (inr before) = found.marked.each k g before there

-- what a part says of a fact that holds
pub holds_of : (s part : Spec) (f : Fact) (x : Near) → x ≡ near.Holds → IsNear s part f x → EachConsistent s (FactIn s.relations f)
holds_of s part f x is near_is = subst (IsNear s part f) is near_is

-- what a trial tells of a completion in which the fact fails
pub without_of : (s : Spec) (q : Question) (budget : ℕ) (t : Trial) (c : Rankings) → t ≡ trial.Fails c → IsTrial s q budget t
    → IsWithout s q c
without_of s q budget t c is told_is = subst (IsTrial s q budget) is told_is

-- what is shown of a fact for which the budget is not spent
pub shown_of : (s : Spec) (budget : ℕ) (f : Fact) (completions : List Rankings) (o : One) (x : Shown) → o ≡ one.Shown x
    → IsOne s budget f completions o → IsShown s completions f x
shown_of s budget f completions o x is one_is = subst (IsOne s budget f completions) is one_is
