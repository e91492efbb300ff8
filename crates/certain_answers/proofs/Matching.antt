-- Matches over a completion are those over its current instance.
use Rattle.std.proofs.Common.{◌≡◌, ◌⊎◌, ◌+◌, ◌∷◌, ◌++◌, ◌∙◌, ℕ, List, [], All, inl, inr, Option, Some, None, Result, Ok, Err, IfOk, IfNone, IfSome, length, slice_get, sym, ap, subst}
use Rattle.std.proofs.lemmas.List.{length-append}
use Rattle.answer_candidates.specs.Candidates.{AreAnswersIn}
use Rattle.answer_laws.specs.Answered.{IsAnswerIn}
use Rattle.answer_laws.specs.Laws.{InstancesAreOne}
use Rattle.currency_base.specs.declared.value.Value.{Value}
use Rattle.match_clauses.specs.Matched.{IsMatchIn}
use Rattle.query_model.specs.Answers.{IsAnswer, IsMatch}
use Rattle.query_model.specs.declared.query.Match.{Match}
use Rattle.query_model.specs.declared.query.Query.{Query}
use Rattle.spec_model.specs.Completion.{Rankings}
use Rattle.spec_model.specs.Current.{IsCurrentInstance}
use Rattle.spec_model.specs.declared.relation.Relation.{Relation}
use Rattle.ucq_answers.specs.Planned.{IndexedQuery}
use Rattle.certain_answers.specs.Deciding.{AreMatches, AreMatchesOver, EachMatch, IsMatchOver}
use Rattle.certain_answers.specs.declared.matched.Matched.{Matched}
use Rattle.certain_answers.proofs.Fronts.{at_push}
use Rattle.certain_answers.proofs.Wanting.{each_then}

abbrev pub indexed_of : Query → List (List (List Value)) → IndexedQuery
indexed_of query instance = record { query = query; instance = instance }

-- what is no answer over the instance is none over the completion
pub none_in : InstancesAreOne → (relations : List Relation) (c : Rankings) (query : Query)
    (instance : List (List (List Value))) (indexed : IndexedQuery)
    (tuple : List Value) → IsCurrentInstance relations c instance → indexed ≡ indexed_of query instance
    → (IsAnswer indexed.query indexed.instance tuple → ⊥) → IsAnswerIn relations query tuple c → ⊥
none_in one relations c query instance indexed tuple current is never answer =
    let same : answer.instance ≡ instance = one relations c answer.instance instance answer.is_current current in
    let here : IsAnswer query instance tuple = subst (λ i. IsAnswer query i tuple) same answer.is_answer in
    never (subst (λ (x : IndexedQuery). IsAnswer x.query x.instance tuple) (sym is) here)

pub none_found : {A P Q E : Type 0} (r : Result (Option A) E) → (P → Q) → IfOk r (λ found. IfNone found P)
    → IfOk r (λ found. IfNone found Q)
none_found (Ok None) f p = f p
none_found (Ok (Some x)) f p = tt
none_found (Err e) f p = tt

pub some_found : {A E : Type 0} {P Q : A → Type 0} (r : Result (Option A) E) → ((x : A) → P x → Q x)
    → IfOk r (λ found. IfSome found P) → IfOk r (λ found. IfSome found Q)
some_found (Ok None) f p = tt
some_found (Ok (Some x)) f p = f x p
some_found (Err e) f p = tt

-- and what is an answer over it is one over the completion
pub is_in : (relations : List Relation) (c : Rankings) (query : Query) (instance : List (List (List Value)))
    (indexed : IndexedQuery) (tuple : List Value)
    → IsCurrentInstance relations c instance → indexed ≡ indexed_of query instance → IsAnswer indexed.query indexed.instance tuple
    → IsAnswerIn relations query tuple c
is_in relations c query instance indexed tuple current is answer = record {
  instance = instance;
  is_current = current;
  is_answer = subst (λ (x : IndexedQuery). IsAnswer x.query x.instance tuple) is answer;
}

-- the answers over a completion are answers over its instance
pub answers_over : InstancesAreOne → (relations : List Relation) (c : Rankings) (query : Query)
    (instance : List (List (List Value))) (indexed : IndexedQuery)
    (tuples : List (List Value)) → IsCurrentInstance relations c instance → indexed ≡ indexed_of query instance
    → AreAnswersIn relations query c tuples
    → All (IsAnswer indexed.query indexed.instance) tuples
answers_over one relations c query instance indexed tuples current is are =
    let same : are.instance ≡ instance = one relations c are.instance instance are.is_current current in
    let here : All (IsAnswer query instance) tuples = subst (λ i. All (IsAnswer query i) tuples) same are.are.each in
    subst (λ (x : IndexedQuery). All (IsAnswer x.query x.instance) tuples) (sym is) here

-- one match more
pub matches_more : (indexed : IndexedQuery) (tuples : List (List Value)) (place : ℕ) (old new : List Match) (m : Match)
    → AreMatchesOver indexed tuples place old → IsMatchOver indexed tuples place m → new ≡ old ++ m ∷ []
    → AreMatchesOver indexed tuples (place + 1) new
matches_more indexed tuples place old new m are is push = record {
  as_many = ap length push ∙ length-append old (m ∷ []) ∙ ap (λ n. n + 1) are.as_many;
  each = λ at found here. pick at found (at_push old m at found (ap (λ ms. slice_get ms at) (sym push) ∙ here));
}
  where
    pick : (at : ℕ) (found : Match) → (slice_get old at ≡ Some found) ⊎ ((at ≡ length old) × (m ≡ found))
        → IsMatchOver indexed tuples at found
    pick at found (inl before) = are.each at found before
    pick at found (inr last) =
        subst (λ k. IsMatchOver indexed tuples k found) (sym (last.0 ∙ are.as_many))
        (subst (IsMatchOver indexed tuples place) last.1 is)

-- matches over the instance are matches over the completion
pub matches_in : (relations : List Relation) (c : Rankings) (query : Query) (instance : List (List (List Value)))
    (indexed : IndexedQuery)
    (tuples : List (List Value)) (matches : List Match) → IsCurrentInstance relations c instance
    → indexed ≡ indexed_of query instance
    → AreMatchesOver indexed tuples (length tuples) matches → AreMatches relations query c tuples matches
matches_in relations c query instance indexed tuples matches current is are = record {
  as_many = are.as_many;
  each = λ place tuple m at here. record {
    instance = instance;
    is_current = current;
    is_match = subst (λ (x : IndexedQuery). IsMatch x.query x.instance tuple m) is (are.each place m here tuple at);
  };
}

-- how a tuple is an answer over the instance is how it is one over the completion
pub each_in : (relations : List Relation) (c : Rankings) (query : Query) (instance : List (List (List Value)))
    (indexed : IndexedQuery) (tuple : List Value) (matched : Matched)
    → IsCurrentInstance relations c instance → indexed ≡ indexed_of query instance
    → EachMatch (IsMatch indexed.query indexed.instance tuple) matched
    → EachMatch (IsMatchIn relations c query tuple) matched
each_in relations c query instance indexed tuple matched current is each =
    each_then (IsMatch indexed.query indexed.instance tuple) (IsMatchIn relations c query tuple) matched
    (λ m found. record {
      instance = instance;
      is_current = current;
      is_match = subst (λ (x : IndexedQuery). IsMatch x.query x.instance tuple m) is found;
    })
    each

pub matches_found : {P Q : List Match → Type 0} {E : Type 0} (r : Result (List Match) E) →
    ((ms : List Match) → P ms → Q ms) → IfOk r P → IfOk r Q
matches_found (Ok ms) f p = f ms p
matches_found (Err e) f p = tt
