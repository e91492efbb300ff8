-- Answers by one disjunct after another.
use Rattle.std.proofs.Common.{◌≡◌, ◌+◌, ◌<◌, ◌≤◌, ◌⊎◌, inl, inr, ℕ, Bool, true, false, List, [], ◌∷◌, ◌++◌, length, get_or, take, Some, slice_get, refl, sym, ap, subst, ◌∙◌, arith}
use Rattle.std.specs.List.{All, Contains}
use Rattle.std.proofs.lemmas.Bool.{false≢true}
use Rattle.std.proofs.lemmas.List.{take-append-drop, take_all, take_more}
use Rattle.std.proofs.lemmas.List.Elements.{All-contains, Contains-append_left, Contains-get_or, Contains-push, Contains-push_cases}
use Rattle.std.proofs.lemmas.Option.{slice_get-get_or}
use Rattle.currency_base.specs.declared.value.Value.{Value}
use Rattle.query_model.specs.Answers.{AreAnswers, AreAscending, HasMore, IsAnswer}
use Rattle.query_model.specs.declared.query.Disjunct.{Disjunct}
use Rattle.query_model.specs.declared.query.Match.{Match}
use Rattle.query_model.specs.declared.query.Query.{Query}
use Rattle.ucq_answers.specs.Found.{Adds, Bounded, IsAnswerBy, IsAnswerOf, IsMatchBy, IsMatchOf}
use Rattle.ucq_answers.proofs.Among.{from_contains}
use Rattle.ucq_answers.proofs.Ascending.{ascending_once}
use Rattle.ucq_answers.proofs.Collecting.{adds_also, adds_none}

-- ---- disjuncts

pub by_one : (instance : List (List (List Value))) (disjuncts : List Disjunct) (d : Disjunct) (tuple : List Value)
    → Contains disjuncts d → IsAnswerBy instance d tuple
    → IsAnswerOf disjuncts instance tuple
by_one instance disjuncts d tuple is by = record {
  disjunct = d;
  is_disjunct = is;
  values = by.values;
  meets =
      by.meets;
  is_head = by.is_head;
}

pub of_one : (instance : List (List (List Value))) (disjuncts : List Disjunct) (tuple : List Value)
    (is : IsAnswerOf disjuncts instance tuple) → IsAnswerBy instance is.disjunct tuple
of_one instance disjuncts tuple is = record { values = is.values; meets = is.meets; is_head = is.is_head }

wider : (instance : List (List (List Value))) (some more : List Disjunct) (tuple : List Value)
    → IsAnswerOf some instance tuple → IsAnswerOf (some ++ more) instance tuple
wider instance some more tuple is = by_one instance (some ++ more) is.disjunct tuple
    (Contains-append_left some more is.disjunct is.is_disjunct) (of_one instance some tuple is)

last_or : (instance : List (List (List Value))) (some : List Disjunct) (d : Disjunct) (tuple : List Value)
    → IsAnswerOf (some ++ d ∷ []) instance tuple
    → IsAnswerOf some instance tuple ⊎ IsAnswerBy instance d tuple
last_or instance some d tuple is = by (Contains-push_cases some d is.disjunct is.is_disjunct)
  where
    by : Contains some is.disjunct ⊎ (d ≡ is.disjunct) → IsAnswerOf some instance tuple ⊎ IsAnswerBy instance d tuple
    by (inl before) = inl (by_one instance some is.disjunct tuple before (of_one instance (some ++ d ∷ []) tuple is))
    by (inr same) = inr (subst (λ e. IsAnswerBy instance e tuple) (sym same) (of_one instance (some ++ d ∷ []) tuple is))

pub union_none : (instance : List (List (List Value))) (old : Bounded) → Adds (IsAnswerOf [] instance) old old false
union_none instance old = adds_none (IsAnswerOf [] instance) old (λ tuple is. from_contains [] is.disjunct is.is_disjunct)

pub union_more : (instance : List (List (List Value))) (disjuncts : List Disjunct) (i : ℕ) (d : Disjunct)
    (old mid new : Bounded) (is_full : Bool) → i < length disjuncts
    → d ≡ get_or disjuncts i d → is_full ≡ false → Adds (IsAnswerOf (take i disjuncts) instance) old mid false
    → Adds (IsAnswerBy instance d) mid new is_full
    → Adds (IsAnswerOf (take (i + 1) disjuncts) instance) old new false
union_more instance disjuncts i d old mid new is_full below is opened adds rest =
    let some = take i disjuncts in
    let next : take (i + 1) disjuncts ≡ some ++ d ∷ [] = take_more disjuncts i d below ∙ ap (λ e. some ++ e ∷ []) (sym is) in
    subst (λ l. Adds (IsAnswerOf l instance) old new false) (sym next)
    (adds_also (IsAnswerOf some instance) (IsAnswerBy instance d) (IsAnswerOf (some ++ d ∷ []) instance) old mid new
    false adds (subst (Adds (IsAnswerBy instance d) mid new) opened rest)
    (λ tuple. to tuple) (λ _ tuple all. last_or instance some d tuple all))
  where
    to : (tuple : List Value) → IsAnswerOf (take i disjuncts) instance tuple ⊎ IsAnswerBy instance d tuple
        → IsAnswerOf (take i disjuncts ++ d ∷ []) instance tuple
    to tuple (inl before) = wider instance (take i disjuncts) (d ∷ []) tuple before
    to tuple (inr here) = by_one instance (take i disjuncts ++ d ∷ []) d tuple (Contains-push (take i disjuncts) d) here

pub union_stopped : (instance : List (List (List Value))) (disjuncts : List Disjunct) (i : ℕ) (d : Disjunct)
    (old mid new : Bounded) (is_full : Bool) → i < length disjuncts
    → d ≡ get_or disjuncts i d → is_full ≡ true → Adds (IsAnswerOf (take i disjuncts) instance) old mid false
    → Adds (IsAnswerBy instance d) mid new is_full
    → Adds (IsAnswerOf disjuncts instance) old new true
union_stopped instance disjuncts i d old mid new is_full below is closed adds rest =
    adds_also (IsAnswerOf (take i disjuncts) instance) (IsAnswerBy instance d) (IsAnswerOf disjuncts instance) old
    mid new true adds (subst (Adds (IsAnswerBy instance d) mid new) closed rest)
    (λ tuple. to tuple) (λ opened. absurd (false≢true (sym opened)))
  where
    there : Contains disjuncts d
    there = subst (Contains disjuncts) (sym is) (Contains-get_or disjuncts i d below)

    to : (tuple : List Value) → IsAnswerOf (take i disjuncts) instance tuple ⊎ IsAnswerBy instance d tuple
        → IsAnswerOf disjuncts instance tuple
    to tuple (inl before) = subst (λ l. IsAnswerOf l instance tuple) (take-append-drop i disjuncts)
        (wider instance (take i disjuncts) _ tuple before)
    to tuple (inr here) = by_one instance disjuncts d tuple there here

pub union_all : (instance : List (List (List Value))) (disjuncts : List Disjunct) (i : ℕ) (old new : Bounded)
    → length disjuncts ≤ i
    → Adds (IsAnswerOf (take i disjuncts) instance) old new false → Adds (IsAnswerOf disjuncts instance) old new false
union_all instance disjuncts i old new all adds = subst (λ l. Adds (IsAnswerOf l instance) old new false)
    (take_all i disjuncts all) adds

-- ---- all answers

pub answers_are : (q : Query) (instance : List (List (List Value))) (at_most : ℕ) (old new : Bounded)
    (is_full : Bool) → old ≡ record { at_most = at_most; tuples = [] }
    → Adds (IsAnswerOf q.disjuncts instance) old new is_full → AreAscending new.tuples → length new.tuples ≤ at_most
    → AreAnswers q instance new.tuples
answers_are q instance at_most old new is_full begun adds ascend few =
    record {
      each = λ k e below. sound (get_or new.tuples k e)
          (adds.sound (get_or new.tuples k e) (Contains-get_or new.tuples k e below));
      all = λ tuple is. adds.complete (opened is_full refl) tuple is;
      ascending = ascend;
    }
  where
    bound : new.at_most ≡ at_most
    bound = adds.at_most ∙ ap (λ (o : Bounded). o.at_most) begun

    sound : (tuple : List Value) → Contains old.tuples tuple ⊎ IsAnswerOf q.disjuncts instance tuple → IsAnswer q instance tuple
    sound tuple (inl was) = absurd (from_contains [] tuple (subst (λ (o : Bounded). Contains o.tuples tuple) begun was))
    sound tuple (inr is) = is

    opened : (b : Bool) → is_full ≡ b → b ≡ false
    opened true closed = let more = adds.full closed in absurd (omega (arith, more, bound, few))
    opened false closed = refl

pub answers_more : (q : Query) (instance : List (List (List Value))) (at_most : ℕ) (old new : Bounded)
    (is_full : Bool) → old ≡ record { at_most = at_most; tuples = [] }
    → Adds (IsAnswerOf q.disjuncts instance) old new is_full → AreAscending new.tuples → at_most < length new.tuples
    → HasMore q instance at_most
answers_more q instance at_most old new is_full begun adds ascend many =
    record {
      some = new.tuples;
      each = λ k e below. sound (get_or new.tuples k e)
          (adds.sound (get_or new.tuples k e) (Contains-get_or new.tuples k e below));
      once = ascending_once new.tuples ascend;
      more = many;
    }
  where
    sound : (tuple : List Value) → Contains old.tuples tuple ⊎ IsAnswerOf q.disjuncts instance tuple → IsAnswer q instance tuple
    sound tuple (inl was) = absurd (from_contains [] tuple (subst (λ (o : Bounded). Contains o.tuples tuple) begun was))
    sound tuple (inr is) = is

-- ---- matches

-- by this disjunct the tuple is no answer
abbrev pub NoAnswerBy : List (List (List Value)) → List Value → Disjunct → Type 0
NoAnswerBy instance tuple d = IsAnswerBy instance d tuple → ⊥

pub no_match : (instance : List (List (List Value))) (disjuncts : List Disjunct) (i : ℕ) (tuple : List Value)
    → length disjuncts ≤ i → All (NoAnswerBy instance tuple) (take i disjuncts)
    → IsAnswerOf disjuncts instance tuple → ⊥
no_match instance disjuncts i tuple all none is =
    let every = subst (All (NoAnswerBy instance tuple)) (take_all i disjuncts all) none in
    All-contains (NoAnswerBy instance tuple) disjuncts is.disjunct every is.is_disjunct (of_one instance disjuncts tuple is)

pub match_by : (instance : List (List (List Value))) (disjuncts : List Disjunct) (i : ℕ) (d : Disjunct) (number : ℕ)
    (tuple : List Value) (m : Match) → i < length disjuncts
    → d ≡ get_or disjuncts i d → number ≡ i → IsMatchBy instance d number tuple m → IsMatchOf disjuncts instance tuple (Some m)
match_by instance disjuncts i d number tuple m below is same by =
    let at : slice_get disjuncts i ≡ Some d = slice_get-get_or disjuncts i d below ∙ ap (λ e. Some e) (sym is) in
    record {
      disjunct = d;
      is_disjunct = ap (slice_get disjuncts) (by.is_number ∙ same) ∙ at;
      meets = by.meets;
      is_head = by.is_head;
      per_atom = by.per_atom;
      atoms = by.atoms;
    }
