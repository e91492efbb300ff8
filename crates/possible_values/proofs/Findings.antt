-- What is shown of facts tells of which candidates they deny.
use Rattle.std.proofs.Common.{◌≡◌, ◌∙◌, ◌+◌, ◌++◌, ◌∷◌, ◌⊎◌, inl, inr, ℕ, List, [], All, Some, length, slice_get, refl, sym, ap, subst, arith}
use Rattle.std.proofs.lemmas.List.{length_push}
use Rattle.std.proofs.lemmas.List.Elements.{All-push}
use Rattle.std.proofs.lemmas.Option.{same_Some, slice_get_within}
use Rattle.log_axioms.specs.Matches.{match_claims}
use Rattle.match_candidates.specs.Matches.{AreClaimsOf}
use Rattle.match_premises.specs.declared.premise.Premise.{Premise}
use Rattle.posed_facts.specs.Facts.{FactIn, IsCurrent, IsPlaced, IsPosable}
use Rattle.posed_facts.specs.declared.fact.Fact.{Fact}
use Rattle.query_model.specs.declared.query.Disjunct.{Disjunct}
use Rattle.query_model.specs.declared.query.Match.{Match}
use Rattle.query_model.specs.declared.query.Query.{Query}
use Rattle.decided_facts.specs.Decided.{AreShown, IsShown}
use Rattle.decided_facts.specs.declared.shown.Shown.{Shown}
use Rattle.decided_facts.specs.declared.shown.Shown.TheVariants as shown
use Rattle.spec_model.specs.Completion.{IsCompletion, Rankings}
use Rattle.spec_model.specs.Consistent.{IsConsistent}
use Rattle.spec_model.specs.Facts.{AreRelations}
use Rattle.spec_model.specs.Spec.{Spec}
use Rattle.spec_model.specs.declared.question.Question.{Question}
use Rattle.spec_model.specs.declared.relation.Relation.{Relation}
use Rattle.possible_values.specs.Candidates.{AreCandidates, CandidateHolds, IsDenialOf}
use Rattle.possible_values.specs.Possible.{AreFindings, IsFinding}
use Rattle.possible_values.specs.Steps.{AreDenials, IsCandidate}
use Rattle.possible_values.specs.declared.candidates.Candidate.{Candidate}
use Rattle.possible_values.specs.declared.candidates.Candidate.TheVariants as candidate
use Rattle.possible_values.specs.declared.found.Found.{Found}
use Rattle.possible_values.proofs.Deciding.{all_current}
use Rattle.possible_values.proofs.Lists.{all_one, at_push, item_at, item_has}
use Rattle.possible_values.proofs.Turned.{not_both, one_holds}

-- ---- where the fact fails the candidate holds

fails_holds : (relations : List Relation) → AreRelations relations → (q : Question) (one : Candidate) (d : Fact) (c : Rankings)
    → IsCompletion relations c → IsCandidate relations q one → IsPosable relations d → IsDenialOf relations q one d
    → (FactIn relations d c → ⊥) → CandidateHolds relations q one c
fails_holds relations are q (candidate.Pair p) d c completion is posable denies fails =
    one_holds relations are c p completion is
    (λ other. fails (subst (λ (f : Fact). FactIn relations f c) (sym denies) other))
fails_holds relations are q (candidate.Value p) d c completion is posable denies fails =
    All-first (all_current relations are c (p ∷ []) (all_one (IsPlaced relations) p is)
    (λ none. fails (subst (λ (f : Fact). FactIn relations f c) (sym denies) none)))
  where
    All-first : All (λ o. IsCurrent relations o c) (p ∷ []) → IsCurrent relations p c
    All-first all = item_has (λ o. IsCurrent relations o c) (p ∷ []) all 0 p refl
fails_holds relations are q (candidate.Match m) d c completion is posable denies fails =
    let placed = subst (IsPosable relations) denies.denies posable in
    record {
      query = denies.query;
      is_query = denies.is_query;
      holds = record {
        claims = denies.claims;
        are_claims = denies.are_claims;
        hold = all_current relations are c denies.claims placed.1
            (λ none. fails (subst (λ (f : Fact). FactIn relations f c) (sym denies.denies) none));
      };
    }

-- ---- where the fact holds the candidate does not

-- a match has its claims in one way
one_claims : (relations : List Relation) (one other : Query) (m : Match) (claims more : List Premise) → one ≡ other
    → AreClaimsOf relations one m claims → AreClaimsOf relations other m more → claims ≡ more
one_claims relations one other m claims more same are own =
    let there = subst (λ (q : Query). AreClaimsOf relations q m claims) same are in
    let d : there.disjunct ≡ own.disjunct = same_Some there.disjunct own.disjunct (sym there.is_disjunct ∙ own.is_disjunct) in
    same_Some claims more
    (sym there.are
    ∙ ap (λ (x : Disjunct). match_claims relations m.values x.atoms m.entities) d
    ∙ own.are)

holds_not : (relations : List Relation) (q : Question) (one : Candidate) (d : Fact) (c : Rankings)
    → IsCompletion relations c → IsDenialOf relations q one d → FactIn relations d c → CandidateHolds relations q one c → ⊥
holds_not relations q (candidate.Pair p) d c completion denies holds own =
    not_both relations c p completion (subst (λ (f : Fact). FactIn relations f c) denies holds) own
holds_not relations q (candidate.Value p) d c completion denies holds own =
    subst (λ (f : Fact). FactIn relations f c) denies holds (all_one (λ o. IsCurrent relations o c) p own)
holds_not relations q (candidate.Match m) d c completion denies holds own =
    let same : own.query ≡ denies.query = same_Some own.query denies.query (sym own.is_query ∙ denies.is_query) in
    let claims = one_claims relations own.query denies.query m own.holds.claims denies.claims same own.holds.are_claims
    denies.are_claims in
    subst (λ (f : Fact). FactIn relations f c) denies.denies holds
    (subst (All (λ o. IsCurrent relations o c)) claims own.holds.hold)

-- ---- findings

-- what is shown of a fact is a finding of the candidate
finding : (s : Spec) → AreRelations s.relations → (q : Question) (completions : List Rankings) (one : Candidate) (d : Fact)
    (x : Shown) → All (IsConsistent s) completions → IsCandidate s.relations q one → IsPosable s.relations d
    → IsDenialOf s.relations q one d → IsShown s completions d x → IsFinding s q completions one x
finding s are q completions one d shown.Holds consistent is posable denies holds = λ c in_whole own.
    holds_not s.relations q one d c in_whole.completion denies (holds c in_whole) own
finding s are q completions one d (shown.FailsIn place) consistent is posable denies fails =
    let in_whole = item_has (IsConsistent s) completions consistent place fails.completion fails.is_there in
    record {
      completion = fails.completion;
      is_there = fails.is_there;
      holds = fails_holds s.relations are q one d fails.completion in_whole.completion is posable denies fails.fails;
    }

-- all are found
pub are_findings : (s : Spec) → AreRelations s.relations → (q : Question) (f : Found) → AreCandidates s.relations q f.candidates
    → All (IsCandidate s.relations q) f.candidates → AreDenials s.relations q f.candidates (length f.candidates) f.facts
    → AreShown s f.facts f.completions f.shown → AreFindings s q f
are_findings s are q f candidates each denials all = record {
  candidates = candidates;
  consistent = all.consistent;
  some = all.some;
  posable = denials.posable;
  facts_per_candidate = denials.as_many;
  shown_per_candidate = all.per_fact ∙ denials.as_many;
  denials = denials.each;
  findings = λ k one x here at.
      let d = item_at f.facts k (omega (arith, slice_get_within f.candidates k one here, denials.as_many)) in
      finding s are q f.completions one d.0 x all.consistent (item_has (IsCandidate s.relations q) f.candidates each k one here)
      (item_has (IsPosable s.relations) f.facts denials.posable k d.0 d.1) (denials.each k one d.0 here d.1)
      (all.each k d.0 x d.1 at);
}

-- ---- facts that are listed one after another

-- with the fact of one more candidate
pub denials_more : (relations : List Relation) (q : Question) (candidates : List Candidate) (count : ℕ) (facts next : List Fact)
    (one : Candidate) (d : Fact) → AreDenials relations q candidates count facts → slice_get candidates count ≡ Some one
    → IsDenialOf relations q one d → IsPosable relations d → next ≡ facts ++ d ∷ []
    → AreDenials relations q candidates (count + 1) next
denials_more relations q candidates count facts next one d so_far here denies posable is =
    subst (AreDenials relations q candidates (count + 1)) (sym is) record {
      posable = All-push (IsPosable relations) facts d so_far.posable posable;
      as_many = omega (arith, length_push facts d, so_far.as_many);
      each = λ k x f at there. by k x f at (at_push facts d k f there);
    }
  where
    by : (k : ℕ) (x : Candidate) (f : Fact) → slice_get candidates k ≡ Some x
        → (slice_get facts k ≡ Some f) ⊎ ((k ≡ length facts) × (d ≡ f)) → IsDenialOf relations q x f
    by k x f at (inl before) = so_far.each k x f at before
    by k x f at (inr last) =
        let same : one ≡ x = same_Some one x
        (sym here ∙ subst (λ (n : ℕ). slice_get candidates n ≡ Some x) (last.0 ∙ so_far.as_many) at) in
        subst (λ (y : Candidate). IsDenialOf relations q y f) same (subst (IsDenialOf relations q one) last.1 denies)
