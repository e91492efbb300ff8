-- One completion more.
use Rattle.std.proofs.Common.{◌≡◌, ◌≢◌, ◌<◌, ◌≤◌, ◌⊎◌, inl, inr, ℕ, zero, suc, Bool, true, false, true≢false, List, [], ◌∷◌, ◌++◌, Some, Result, Ok, Err, OnOk, length, replicate, take, get_or, slice_get, sym, ap, subst, ◌∙◌, arith}
use Rattle.std.specs.List.{All}
use Rattle.std.proofs.Math.Seq.{take-append_seam}
use Rattle.std.proofs.lemmas.List.{length-replicate, take-append-le}
use Rattle.std.proofs.lemmas.List.Elements.{All-nil, All-push}
use Rattle.std.proofs.lemmas.Option.{get_or_from_slice_get, none-some, same_Some, slice_get-get_or, slice_get_within}
use Rattle.answer_laws.specs.Answered.{IsAnswerIn}
use Rattle.answer_laws.specs.Laws.{InstancesAreOne}
use Rattle.currency_base.specs.declared.value.Value.{Value}
use Rattle.query_model.specs.Answers.{IsAnswer}
use Rattle.query_model.specs.declared.query.Query.{Query}
use Rattle.spec_model.specs.Completion.{Rankings}
use Rattle.spec_model.specs.Consistent.{IsConsistent}
use Rattle.spec_model.specs.Spec.{Spec}
use Rattle.spec_model.specs.declared.relation.Relation.{Relation}
use Rattle.ucq_answers.specs.Planned.{IndexedQuery}
use Rattle.answer_candidates.specs.Candidates.{AreAnswersIn, AreCandidates, AreMarks, EachRefutes, GoesNow, IsCommon, IsMark, IsMarked, IsOver, Refutes, Standing}
use Rattle.answer_candidates.proofs.Marking.{get_end, get_front, get_push}

-- ---- lists

all_at : {A : Type 0} (P : A → Type 0) (xs : List A) (i : ℕ) (x : A) → All P xs → slice_get xs i ≡ Some x → P x
all_at P xs i x all at = subst P (get_or_from_slice_get xs i x x at) (all i x (slice_get_within xs i x at))

all_front : {A : Type 0} (P : A → Type 0) (xs : List A) (y : A) → All P (xs ++ y ∷ []) → All P xs
all_front P xs y all i d below = all_at P (xs ++ y ∷ []) i (get_or xs i d) all
    (get_front xs y i below ∙ slice_get-get_or xs i d below)

all_last : {A : Type 0} (P : A → Type 0) (xs : List A) (y : A) → All P (xs ++ y ∷ []) → P y
all_last P xs y all = all_at P (xs ++ y ∷ []) (length xs) y all (get_end xs y)

all_one : {A : Type 0} (P : A → Type 0) (y : A) → P y → All P (y ∷ [])
all_one P y is = All-push P [] y (All-nil P) is

not_none : {A : Type 0} (xs : List A) (y : A) → (xs ++ y ∷ []) ≢ []
not_none xs y none = none-some y (sym (ap (λ l. slice_get l (length xs)) none) ∙ get_end xs y)

of_replicate : (n k : ℕ) (b g : Bool) → slice_get (replicate n b) k ≡ Some g → b ≡ g
of_replicate zero k b g at = absurd (none-some g at)
of_replicate (suc n) zero b g at = same_Some b g at
of_replicate (suc n) (suc k) b g at = of_replicate n k b g at

-- ---- a completion and its instance

answer_of : InstancesAreOne → (relations : List Relation) (query : Query) (c : Rankings) (indexed : IndexedQuery)
    (tuple : List Value)
    → IsOver relations query c indexed → IsAnswerIn relations query tuple c → IsAnswer indexed.query indexed.instance tuple
answer_of one relations query c indexed tuple over answer =
    let same : answer.instance ≡ indexed.instance = one relations c answer.instance indexed.instance
    answer.is_current over.is_current in
    let here : IsAnswer query indexed.instance tuple = subst (λ i. IsAnswer query i tuple) same answer.is_answer in
    subst (λ q. IsAnswer q indexed.instance tuple) (sym over.of_query) here

answer_in : (relations : List Relation) (query : Query) (c : Rankings) (indexed : IndexedQuery) (tuple : List Value)
    → IsOver relations query c indexed → IsAnswer indexed.query indexed.instance tuple → IsAnswerIn relations query tuple c
answer_in relations query c indexed tuple over is =
    record {
      instance = indexed.instance;
      is_current = over.is_current;
      is_answer =
          subst (λ q. IsAnswer q indexed.instance tuple) over.of_query is;
    }

-- ---- one more is looked at

marked_more : InstancesAreOne → (relations : List Relation) (query : Query) (completions : List Rankings)
    (c : Rankings) (indexed : IndexedQuery)
    → IsOver relations query c indexed → (tuple : List Value) (was is : Bool) → IsMarked relations query completions
    tuple was → IsMark indexed tuple was is
    → IsMarked relations query (completions ++ c ∷ []) tuple is
marked_more one relations query completions c indexed over tuple was true before mark = by mark
  where
    by : (was ≡ true) ⊎ (IsAnswer indexed.query indexed.instance tuple → ⊥) → IsCommon relations query
        (completions ++ c ∷ []) tuple → ⊥
    by (inl gone) common =
        subst (λ b. IsMarked relations query completions tuple b) gone before
        (all_front (IsAnswerIn relations query tuple) completions c common)
    by (inr never) common =
        never (answer_of one relations query c indexed tuple over
        (all_last (IsAnswerIn relations query tuple) completions c common))
marked_more one relations query completions c indexed over tuple was false before mark =
    All-push (IsAnswerIn relations query tuple) completions c
    (subst (λ b. IsMarked relations query completions tuple b) mark.0 before)
    (answer_in relations query c indexed tuple over mark.1)

-- ---- each refutes a tuple

-- a tuple that goes now is refuted by the completion whose instance is looked at
refutes_now : InstancesAreOne → (s : Spec) (query : Query) (old : Standing) (c : Rankings) (indexed : IndexedQuery)
    → AreCandidates s query old → IsOver s.relations query c indexed → (gone : List Bool) (more : Bool)
    → AreMarks indexed old.tuples old.gone (length old.tuples) gone more → GoesNow old.tuples old.gone gone
    → Refutes s.relations query old.completions c
refutes_now one s query old c indexed are over gone more marks goes =
    record {
      tuple = goes.tuple;
      common = are.marked goes.place goes.tuple false goes.at goes.was;
      fails = λ answer. by answer (marks.each goes.place goes.tuple false true goes.at goes.was goes.now);
    }
  where
    by : IsAnswerIn s.relations query goes.tuple c → IsMark indexed goes.tuple false true → ⊥
    by answer (inl was) = true≢false (sym was)
    by answer (inr never) = never (answer_of one s.relations query c indexed goes.tuple over answer)

none_refutes : (relations : List Relation) (query : Query) (c : Rankings) → EachRefutes relations query (c ∷ [])
none_refutes relations query c zero d later at = absurd (omega (arith, later))
none_refutes relations query c (suc place) d later at = absurd (none-some d at)

refutes_more : (relations : List Relation) (query : Query) (completions : List Rankings) (c : Rankings)
    → EachRefutes relations query completions → Refutes relations query completions c
    → EachRefutes relations query (completions ++ c ∷ [])
refutes_more relations query completions c each last place d later at = by (get_push completions c d place at)
  where
    by : (slice_get completions place ≡ Some d) ⊎ ((place ≡ length completions) × (c ≡ d))
        → Refutes relations query (take place (completions ++ c ∷ [])) d
    by (inl before) =
        let inside : place ≤ length completions = let b = slice_get_within completions place d before in omega (arith, b) in
        subst (λ l. Refutes relations query l d) (sym (take-append-le place completions (c ∷ []) inside))
        (each place d later before)
    by (inr (end, same)) =
        let all : completions ≡ take place (completions ++ c ∷ []) = sym (take-append_seam completions (c ∷ []))
        ∙ ap (λ n. take n (completions ++ c ∷ [])) (sym end) in
        subst (λ l. Refutes relations query l d) all (subst (Refutes relations query completions) same last)

-- ---- the standing

pub candidates_more : InstancesAreOne → (s : Spec) (query : Query) (old : Standing) (c : Rankings)
    (indexed : IndexedQuery) → AreCandidates s query old
    → IsConsistent s c → IsOver s.relations query c indexed → (gone : List Bool) (more : Bool)
    → AreMarks indexed old.tuples old.gone (length old.tuples) gone more → more ≡ true
    → AreCandidates s query (record { tuples = old.tuples; completions = old.completions ++ c ∷ []; gone = gone })
candidates_more one s query old c indexed are is over gone more marks more_is =
    record {
      per_tuple = marks.as_many;
      consistent = All-push (IsConsistent s) old.completions c are.consistent is;
      some = not_none old.completions c;
      ascending = are.ascending;
      all = λ tuple common. are.all tuple (all_front (IsAnswerIn s.relations query tuple) old.completions c common);
      marked = λ place tuple now at at_now.
          let was = slice_get-get_or old.gone place true
          (omega (arith, slice_get_within old.tuples place tuple at, are.per_tuple)) in
          marked_more one s.relations query old.completions c indexed over tuple (get_or old.gone place true) now
          (are.marked place tuple _ at was) (marks.each place tuple _ now at was at_now);
      refuting = refutes_more s.relations query old.completions c are.refuting
          (refutes_now one s query old c indexed are over gone more marks (marks.some more_is));
    }

-- the same, of lists that are these
pub candidates_as : (s : Spec) (query : Query) (tuples own : List (List Value)) (completions listed : List Rankings)
    (gone : List Bool) → tuples ≡ own
    → completions ≡ listed → AreCandidates s query (record { tuples = own; completions = listed; gone = gone })
    → AreCandidates s query (record { tuples = tuples; completions = completions; gone = gone })
candidates_as s query tuples own completions listed gone same_tuples same_completions are =
    subst (λ l. AreCandidates s query (record { tuples = tuples; completions = l; gone = gone })) (sym same_completions)
    (subst (λ t. AreCandidates s query (record { tuples = t; completions = listed; gone = gone })) (sym same_tuples) are)

pub marks_as : (indexed : IndexedQuery) (tuples own : List (List Value)) (gone kept new : List Bool) (more : Bool)
    → tuples ≡ own → gone ≡ kept
    → AreMarks indexed tuples gone (length tuples) new more → AreMarks indexed own kept (length own) new more
marks_as indexed tuples own gone kept new more same_tuples same_gone marks =
    subst (λ t. AreMarks indexed t kept (length t) new more) same_tuples
    (subst (λ g. AreMarks indexed tuples g (length tuples) new more) same_gone marks)

pub on_ok_holds : {T E P : Type 0} (r : Result T E) → P → OnOk r P
on_ok_holds (Ok x) is = is
on_ok_holds (Err e) is = tt

-- a tuple that is no answer over an instance is gone, once this is looked at
pub noted_gone : (indexed : IndexedQuery) (tuples : List (List Value)) (old new : List Bool) (more : Bool)
    → AreMarks indexed tuples old (length tuples) new more → length old ≡ length tuples →
    (place : ℕ) (tuple : List Value) → slice_get tuples place ≡ Some tuple
    → (IsAnswer indexed.query indexed.instance tuple → ⊥) → slice_get new place ≡ Some true
noted_gone indexed tuples old new more marks lengths place tuple at never =
    let below = slice_get_within tuples place tuple at in
    let was = slice_get-get_or old place true (omega (arith, below, lengths)) in
    let now = slice_get-get_or new place true (omega (arith, below, marks.as_many)) in
    by (get_or new place true) (marks.each place tuple _ _ at was now) now
  where
    by : (b : Bool) → IsMark indexed tuple (get_or old place true) b → slice_get new place ≡ Some b
        → slice_get new place ≡ Some true
    by true mark is = is
    by false mark is = absurd (never mark.1)

-- a tuple that is gone stays so
pub stays_gone : (indexed : IndexedQuery) (tuples : List (List Value)) (old new : List Bool) (more : Bool)
    → AreMarks indexed tuples old (length tuples) new more → length old ≡ length tuples → (place : ℕ)
    → slice_get old place ≡ Some true
    → slice_get new place ≡ Some true
stays_gone indexed tuples old new more marks lengths place gone =
    let below : place < length tuples = let b = slice_get_within old place true gone in omega (arith, b, lengths) in
    let at = slice_get-get_or tuples place [] below in
    let now = slice_get-get_or new place true (omega (arith, below, marks.as_many)) in
    by (get_or new place true) (marks.each place _ true _ at gone now) now
  where
    by : (b : Bool) → IsMark indexed (get_or tuples place []) true b → slice_get new place ≡ Some b
        → slice_get new place ≡ Some true
    by true mark is = is
    by false mark is = absurd (true≢false mark.0)

-- ---- the first completion

pub candidates_begun : InstancesAreOne → (s : Spec) (query : Query) (c : Rankings) (tuples : List (List Value)) → IsConsistent s c
    → AreAnswersIn s.relations query c tuples
    → AreCandidates s query (record { tuples = tuples; completions = c ∷ []; gone = replicate (length tuples) false })
candidates_begun one s query c tuples is answers =
    record {
      per_tuple = length-replicate (length tuples) false;
      consistent = all_one (IsConsistent s) c is;
      some = not_none [] c;
      ascending = answers.are.ascending;
      all = λ tuple common.
          let answer = all_last (IsAnswerIn s.relations query tuple) [] c common in
          let same : answer.instance ≡ answers.instance = one s.relations c answer.instance answers.instance
          answer.is_current answers.is_current in
          answers.are.all tuple (subst (λ i. IsAnswer query i tuple) same answer.is_answer);
      marked = λ place tuple gone at at_gone.
          let own : IsAnswerIn s.relations query tuple c =
          record {
            instance = answers.instance;
            is_current = answers.is_current;
            is_answer = all_at (IsAnswer query answers.instance) tuples place tuple answers.are.each at;
          } in
          subst (λ b. IsMarked s.relations query (c ∷ []) tuple b) (of_replicate (length tuples) place false gone at_gone)
          (all_one (IsAnswerIn s.relations query tuple) c own);
      refuting = none_refutes s.relations query c;
    }
