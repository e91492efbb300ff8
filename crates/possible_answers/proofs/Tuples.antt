-- The heads of the matches that are possible are the possible answers.
use Rattle.std.proofs.Common.{◌≡◌, ◌∙◌, ◌⊎◌, ℕ, zero, suc, List, [], ◌∷◌, ◌++◌, All, Contains, Option, Some, None, ap, arith, get_or, inl, inr, length}
use Rattle.std.proofs.Common.{map, refl, slice_get, subst, sym}
use Rattle.std.proofs.lemmas.List.Elements.{Contains-append_cases, Contains-append_left, Contains-append_right}
use Rattle.std.proofs.lemmas.Option.{get_or_from_slice_get, none-some, same_Some, slice_get-get_or, slice_get_within}
use Rattle.answer_laws.specs.Laws.{InstancesExist}
use Rattle.axiom_laws.proofs.Standing.{at_contains, contains_at}
use Rattle.currency_base.specs.declared.value.Value.{Value}
use Rattle.match_candidates.specs.Matches.{IsMatch}
use Rattle.possible_values.specs.Candidates.{MatchHolds}
use Rattle.possible_values.specs.Possible.{AreFindings, IsFinding}
use Rattle.possible_values.specs.declared.candidates.Candidate.{Candidate}
use Rattle.possible_values.specs.declared.candidates.Candidate.TheVariants as candidate
use Rattle.possible_values.specs.declared.found.Found.{Found}
use Rattle.query_model.specs.declared.query.Match.{Match}
use Rattle.query_model.specs.declared.query.Query.{Query}
use Rattle.decided_facts.specs.declared.shown.Shown.{Shown}
use Rattle.decided_facts.specs.declared.shown.Shown.TheVariants as shown
use Rattle.spec_model.specs.Completion.{Rankings}
use Rattle.spec_model.specs.Consistent.{IsConsistent}
use Rattle.spec_model.specs.Facts.{AreRelations}
use Rattle.spec_model.specs.Spec.{Spec}
use Rattle.spec_model.specs.declared.question.Question.TheVariants as asked
use Rattle.possible_answers.specs.Answers.{ArePossibleAnswers, IsPossibleAnswer}
use Rattle.possible_answers.specs.Distinct.{AreDistinct}
use Rattle.possible_answers.specs.Heads.{head_if, head_of, heads_from, if_there, match_head}
use Rattle.possible_answers.proofs.Matched.{answer_matches, match_answers}

-- ---- what is a head

-- a tuple is the head of a possible match at a place
record IsHeadAt (query : Query) (candidates : List Candidate) (list : List Shown) (tuple : List Value) : Type 0 where
  place : ℕ
  m : Match
  is_match : slice_get candidates place ≡ Some (candidate.Match m)
  completion : ℕ
  is_shown : slice_get list place ≡ Some (shown.FailsIn completion)
  is_head : head_of query m ≡ Some tuple

-- a head that is there
one_head : (query : Query) (m : Match) (tuple : List Value) → Contains (if_there (head_of query m)) tuple
    → head_of query m ≡ Some tuple
one_head query m tuple is = by (head_of query m) is
  where
    by : (o : Option (List Value)) → Contains (if_there o) tuple → o ≡ Some tuple
    by None is = let at = at_contains [] tuple is in absurd (none-some tuple at.1)
    by (Some x) is = at_one (at_contains (x ∷ []) tuple is)
      where
        at_one : (k : ℕ) × (slice_get (x ∷ []) k ≡ Some tuple) → Some x ≡ Some tuple
        at_one (zero, e) = e
        at_one (suc k, e) = absurd (none-some tuple e)

-- nothing is in no list
none_there : (tuple : List Value) → Contains [] tuple → ⊥
none_there tuple is = let at = at_contains [] tuple is in none-some tuple at.1

first_head : (query : Query) (one : Candidate) (x : Shown) (candidates : List Candidate) (list : List Shown) (tuple : List Value)
    → Contains (head_if query one x) tuple → IsHeadAt query (one ∷ candidates) (x ∷ list) tuple
first_head query (candidate.Match m) (shown.FailsIn completion) candidates list tuple is = record {
  place = 0;
  m = m;
  is_match = refl;
  completion = completion;
  is_shown = refl;
  is_head = one_head query m tuple is;
}
first_head query (candidate.Match m) shown.Holds candidates list tuple is = absurd (none_there tuple is)
first_head query (candidate.Pair p) (shown.FailsIn completion) candidates list tuple is = absurd (none_there tuple is)
first_head query (candidate.Pair p) shown.Holds candidates list tuple is = absurd (none_there tuple is)
first_head query (candidate.Value p) (shown.FailsIn completion) candidates list tuple is = absurd (none_there tuple is)
first_head query (candidate.Value p) shown.Holds candidates list tuple is = absurd (none_there tuple is)

later_head : (query : Query) (one : Candidate) (x : Shown) (candidates : List Candidate) (list : List Shown) (tuple : List Value)
    → IsHeadAt query candidates list tuple → IsHeadAt query (one ∷ candidates) (x ∷ list) tuple
later_head query one x candidates list tuple h = record {
  place = suc h.place;
  m = h.m;
  is_match = h.is_match;
  completion = h.completion;
  is_shown = h.is_shown;
  is_head = h.is_head;
}

in_heads : (query : Query) (candidates : List Candidate) (list : List Shown) (tuple : List Value)
    → Contains (heads_from query candidates list) tuple → IsHeadAt query candidates list tuple
in_heads query [] list tuple is = absurd (none_there tuple is)
in_heads query (one ∷ candidates) [] tuple is = absurd (none_there tuple is)
in_heads query (one ∷ candidates) (x ∷ list) tuple is =
    by (Contains-append_cases (head_if query one x) (heads_from query candidates list) tuple is)
    (in_heads query candidates list tuple)
  where
    by : Contains (head_if query one x) tuple ⊎ Contains (heads_from query candidates list) tuple
        → (Contains (heads_from query candidates list) tuple → IsHeadAt query candidates list tuple)
        → IsHeadAt query (one ∷ candidates) (x ∷ list) tuple
    by (inl here) later = first_head query one x candidates list tuple here
    by (inr there) later = later_head query one x candidates list tuple (later there)

-- ---- the head of each possible match is there

has_head : (query : Query) (m : Match) (tuple : List Value) → head_of query m ≡ Some tuple
    → Contains (if_there (head_of query m)) tuple
has_head query m tuple is =
    subst (λ (o : Option (List Value)). Contains (if_there o) tuple) (sym is) (contains_at (tuple ∷ []) 0 tuple refl)

heads_have : (query : Query) (candidates : List Candidate) (list : List Shown) (k completion : ℕ) (m : Match)
    (tuple : List Value) → slice_get candidates k ≡ Some (candidate.Match m)
    → slice_get list k ≡ Some (shown.FailsIn completion) → head_of query m ≡ Some tuple
    → Contains (heads_from query candidates list) tuple
heads_have query [] list k completion m tuple at at_shown is = absurd (none-some _ at)
heads_have query (one ∷ candidates) [] k completion m tuple at at_shown is = absurd (none-some _ at_shown)
heads_have query (one ∷ candidates) (x ∷ list) zero completion m tuple at at_shown is =
    Contains-append_left (head_if query one x) (heads_from query candidates list) tuple
    (subst (λ (c : Candidate). Contains (head_if query c x) tuple) (sym (same_Some one (candidate.Match m) at))
    (subst (λ (y : Shown). Contains (head_if query (candidate.Match m) y) tuple)
    (sym (same_Some x (shown.FailsIn completion) at_shown)) (has_head query m tuple is)))
heads_have query (one ∷ candidates) (x ∷ list) (suc k) completion m tuple at at_shown is =
    Contains-append_right (head_if query one x) (heads_from query candidates list) tuple
    (heads_have query candidates list k completion m tuple at at_shown is)

-- ---- candidates of a query are its matches

match_at : (matches : List Match) (k : ℕ) (m : Match)
    → slice_get (map (λ x. candidate.Match x) matches) k ≡ Some (candidate.Match m) → slice_get matches k ≡ Some m
match_at [] k m at = absurd (none-some _ at)
match_at (x ∷ matches) zero m at = same at
  where
    same : ◌≡◌ {A = Option Candidate} (Some (candidate.Match x)) (Some (candidate.Match m)) → Some x ≡ Some m
    same e = cc
match_at (x ∷ matches) (suc k) m at = match_at matches k m at

at_match : (matches : List Match) (k : ℕ) (m : Match) → slice_get matches k ≡ Some m
    → slice_get (map (λ x. candidate.Match x) matches) k ≡ Some (candidate.Match m)
at_match [] k m at = absurd (none-some _ at)
at_match (x ∷ matches) zero m at = ap (λ (y : Match). Some (candidate.Match y)) (same_Some x m at)
at_match (x ∷ matches) (suc k) m at = at_match matches k m at

item_of : {A : Type 0} (P : A → Type 0) (xs : List A) → All P xs → (k : ℕ) (x : A) → slice_get xs k ≡ Some x → P x
item_of P xs all k x at = subst P (get_or_from_slice_get xs k x x at) (all k x (slice_get_within xs k x at))

-- ---- together

module _ (instances : InstancesExist) (s : Spec) (are : AreRelations s.relations) (query : Query) (f : Found)
    (findings : AreFindings s (asked.Answers query) f) where
  -- the head of a possible match is a possible answer
  head_answers : (tuple : List Value) → IsHeadAt query f.candidates f.shown tuple → IsPossibleAnswer s query tuple
  head_answers tuple h =
      let found = findings.findings h.place (candidate.Match h.m) (shown.FailsIn h.completion) h.is_match h.is_shown in
      let c = found.completion in
      let consistent = item_of (IsConsistent s) f.completions findings.consistent h.completion c found.is_there in
      let at : slice_get findings.candidates.matches h.place ≡ Some h.m =
      match_at findings.candidates.matches h.place h.m
      (subst (λ (list : List Candidate). slice_get list h.place ≡ Some (candidate.Match h.m)) findings.candidates.are
      h.is_match) in
      let same : query ≡ found.holds.query = same_Some query found.holds.query found.holds.is_query in
      let holds = subst (λ (q : Query). MatchHolds s.relations q h.m c) (sym same) found.holds.holds in (
        c,
        consistent,
        match_answers instances s.relations c are consistent.completion query h.m tuple
            (item_of (IsMatch s.relations query) findings.candidates.matches findings.candidates.are_matches.each h.place h.m at)
            holds h.is_head,
      )

  -- a match that holds in a consistent completion is shown to be possible
  shown_by : (k : ℕ) (m : Match) (x : Shown) (c : Rankings) → IsConsistent s c → MatchHolds s.relations query m c
      → IsFinding s (asked.Answers query) f.completions (candidate.Match m) x → (p : ℕ) × (x ≡ shown.FailsIn p)
  shown_by k m (shown.FailsIn p) c consistent holds finding = (p, refl)
  shown_by k m shown.Holds c consistent holds finding =
      absurd (finding c consistent (record { query = query; is_query = refl; holds = holds }))

  -- each possible answer is the head of a possible match
  answer_heads : (tuple : List Value) → IsPossibleAnswer s query tuple → Contains (heads_from query f.candidates f.shown) tuple
  answer_heads tuple (c, consistent, answer) =
      let is = answer_matches s.relations c are consistent.completion query tuple answer in
      let matches = findings.candidates.matches in
      let at = at_contains matches is.m (findings.candidates.are_matches.all is.m is.is_match) in
      let at_candidate : slice_get f.candidates at.0 ≡ Some (candidate.Match is.m) =
      subst (λ (list : List Candidate). slice_get list at.0 ≡ Some (candidate.Match is.m)) (sym findings.candidates.are)
      (at_match matches at.0 is.m at.1) in
      let inside = slice_get_within f.candidates at.0 (candidate.Match is.m) at_candidate in
      let long = findings.shown_per_candidate in
      let x = get_or f.shown at.0 shown.Holds in
      let at_shown : slice_get f.shown at.0 ≡ Some x = slice_get-get_or f.shown at.0 shown.Holds (omega (arith, inside, long)) in
      let finding = findings.findings at.0 (candidate.Match is.m) x at_candidate at_shown in
      let possible = shown_by at.0 is.m x c consistent is.holds finding in
      heads_have query f.candidates f.shown at.0 possible.0 is.m tuple at_candidate (at_shown ∙ ap Some possible.1) is.is_head

  -- so these are exactly the possible answers
  pub answers_are : (list : List (List Value)) → AreDistinct (heads_from query f.candidates f.shown) list
      → ArePossibleAnswers s query list
  answers_are list h = record {
    each = λ k d inside.
        let tuple = get_or list k d in
        head_answers tuple (in_heads query f.candidates f.shown tuple
        (h.each tuple (contains_at list k tuple (slice_get-get_or list k d inside))));
    all = λ tuple is. h.all tuple (answer_heads tuple is);
    ascending = h.ascending;
  }
