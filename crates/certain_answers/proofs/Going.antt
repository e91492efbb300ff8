-- A search that has gone on: what was known of it is known still.
use Rattle.std.proofs.Common.{◌≡◌, ◌∙◌, ◌++◌, ◌∷◌, ◌<◌, ◌⊎◌, ◌+◌, inl, inr, ℕ, zero, suc, List, [], Some, length, slice_get, refl, sym, ap, subst}
use Rattle.std.proofs.lemmas.List.{append_assoc, length-append, map-append}
use Rattle.answer_candidates.specs.Candidates.{AreCandidates, Standing}
use Rattle.answer_laws.specs.Answered.{IsAnswerIn}
use Rattle.currency_base.specs.declared.lit.Lit.{Lit}
use Rattle.currency_base.specs.declared.value.Value.{Value}
use Rattle.log_axioms.specs.Posed.{Posed}
use Rattle.match_clauses.specs.Clauses.{SaysAnswer}
use Rattle.order_literals.specs.declared.wanted.Wanted.{Wanted}
use Rattle.order_search.specs.Searches.{HasGone, Search}
use Rattle.query_model.specs.declared.query.Query.{Query}
use Rattle.refutation_log.specs.Counted.{counted_steps}
use Rattle.refutation_log.specs.Steps.{clause_of, clauses_of}
use Rattle.refutation_log.specs.declared.statement.Statement.{Statement}
use Rattle.refutation_log.specs.declared.step.Step.{Step}
use Rattle.spec_model.specs.Completion.{Rankings}
use Rattle.spec_model.specs.Spec.{Spec}
use Rattle.certain_answers.specs.Deciding.{AreDecidedUpTo, IsDecided, IsProved, IsRefuted, IsSearchFor, StaysGone}
use Rattle.certain_answers.specs.declared.decisions.Decision.{Decision}
use Rattle.certain_answers.specs.declared.decisions.Decision.TheVariants.{Gone, Proved}
use Rattle.certain_answers.proofs.Fronts.{at_push}

-- what stands in a list stands there with more behind
at_front : {A : Type 0} (xs ys : List A) (i : ℕ) (x : A) → slice_get xs i ≡ Some x → slice_get (xs ++ ys) i ≡ Some x
at_front [] ys i x at = let no : ⊥ = cc in absurd no
at_front (z ∷ xs) ys zero x at = at
at_front (z ∷ xs) ys (suc i) x at = at_front xs ys i x at

pub gone_none : (search : Search) → HasGone search search
gone_none search = record {
  spec = refl;
  posed = refl;
  wanted = refl;
  statements = refl;
  added = [];
  steps =
      sym (append_none search.log.steps);
}
  where
    append_none : (xs : List Step) → xs ++ [] ≡ xs
    append_none [] = refl
    append_none (x ∷ xs) = ap (λ (ys : List Step). x ∷ ys) (append_none xs)

pub gone_then : (old middle new : Search) → HasGone old middle → HasGone middle new → HasGone old new
gone_then old middle new one other = record {
  spec = other.spec ∙ one.spec;
  posed = other.posed ∙ one.posed;
  wanted = other.wanted ∙ one.wanted;
  statements = other.statements ∙ one.statements;
  added = one.added ++ other.added;
  steps = other.steps ∙ ap (λ (ss : List Step). ss ++ other.added) one.steps ∙ append_assoc old.log.steps one.added other.added;
}

pub for_later : (s : Spec) (query : Query) (old new : Search) → HasGone old new → IsSearchFor s query old
    → IsSearchFor s query new
for_later s query old new gone is = record {
  spec = gone.spec ∙ is.spec;
  query_is = ap (λ (p : Posed). p.query) gone.posed ∙ is.query_is;
  currents = ap (λ (w : Wanted). w.currents) gone.wanted ∙ is.currents;
}

pub place_later : (old new : Search) (place : ℕ) → HasGone old new → place < length old.posed.answers
    → place < length new.posed.answers
place_later old new place gone below = subst (λ (p : Posed). place < length p.answers) (sym gone.posed) below

pub says_later : (old new : Search) (place : ℕ) (lit : Lit) → HasGone old new → SaysAnswer old.log.statements place
    lit → SaysAnswer new.log.statements place lit
says_later old new place lit gone told = subst (λ (statements : List Statement). SaysAnswer statements place lit)
    (sym gone.statements) told

pub proved_later : (old new : Search) (place step : ℕ) → HasGone old new → IsProved old place step → IsProved new place step
proved_later old new place step gone is = record {
  lit = is.lit;
  says = says_later old new place is.lit gone is.says;
  is_unit =
      ap (λ (ss : List Step). slice_get (clauses_of ss) step) gone.steps
      ∙ ap (λ (cs : List (List Lit)). slice_get cs step) (map-append clause_of old.log.steps gone.added)
      ∙ at_front (clauses_of old.log.steps) (clauses_of gone.added) step (is.lit ∷ []) is.is_unit;
}

pub answers_later : (old new : Search) (tuples : List (List Value)) → HasGone old new → old.posed.answers ≡ tuples
    → new.posed.answers ≡ tuples
answers_later old new tuples gone are = ap (λ (p : Posed). p.answers) gone.posed ∙ are

-- what a loop keeps that decides the tuple at a place, from one search and units on
pub record IsKept (s : Spec) (query : Query) (at : ℕ) (old new : Search) (before left : ℕ) : Type 0 where
  pub gone : HasGone old new
  pub units : counted_steps new.log.steps + left ≡ counted_steps old.log.steps + before
  pub search : IsSearchFor s query new
  pub place : at < length new.posed.answers

-- ---- candidates

-- over a completion that refutes the tuple at a place, it is no answer
pub refuted_at : (s : Spec) (query : Query) (old new : Search) (tuples : List (List Value)) (place : ℕ)
    (c : Rankings) (tuple : List Value) → HasGone old new
    → IsSearchFor s query old → old.posed.answers ≡ tuples → slice_get tuples place ≡ Some tuple → IsRefuted new place c
    → IsAnswerIn s.relations query tuple c → ⊥
refuted_at s query old new tuples place c tuple gone is are at refuted answer =
    let later : IsSearchFor s query new = for_later s query old new gone is in
    refuted.fails query tuple later.query_is (ap (λ (ts : List (List Value)). slice_get ts place)
    (answers_later old new tuples gone are) ∙ at)
    (subst (λ (x : Spec). IsAnswerIn x.relations query tuple c) (sym later.spec) answer)

decided_later : (old new : Search) (before after : Standing) (place : ℕ) (decision : Decision) → HasGone old new
    → StaysGone before after → IsDecided old before place decision
    → IsDecided new after place decision
decided_later old new before after place Gone gone stays was = stays place was
decided_later old new before after place (Proved step) gone stays unit = proved_later old new place step gone unit

-- one candidate more is decided
pub decided_more : (old new : Search) (before after : Standing) (count : ℕ) (decisions more : List Decision)
    (decision : Decision) → HasGone old new → StaysGone before after
    → AreDecidedUpTo old before count decisions → IsDecided new after count decision → more ≡ decisions ++ decision ∷ []
    → AreDecidedUpTo new after (count + 1) more
decided_more old new before after count decisions more decision gone stays are is push = record {
  as_many = ap length push ∙ length-append decisions (decision ∷ []) ∙ ap (λ n. n + 1) are.as_many;
  each = λ place one here. pick place one
      (at_push decisions decision place one (ap (λ ds. slice_get ds place) (sym push) ∙ here));
}
  where
    pick : (place : ℕ) (one : Decision) → (slice_get decisions place ≡ Some one) ⊎
        ((place ≡ length decisions) × (decision ≡ one)) → IsDecided new after place one
    pick place one (inl earlier) = decided_later old new before after place one gone stays (are.each place one earlier)
    pick place one (inr last) =
        subst (λ k. IsDecided new after k one) (sym (last.0 ∙ are.as_many)) (subst (IsDecided new after count) last.1 is)

-- what the loop keeps that decides each candidate
pub record AreKept (s : Spec) (query : Query) (old new : Search) (before after : Standing) (from left : ℕ)
    (count : ℕ) (decisions : List Decision) : Type 0 where
  pub gone : HasGone old new
  pub units : counted_steps new.log.steps + left ≡ counted_steps old.log.steps + from
  pub tuples : after.tuples ≡ before.tuples
  pub candidates : AreCandidates s query after
  pub decided : AreDecidedUpTo new after count decisions
