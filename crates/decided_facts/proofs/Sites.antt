-- Facts over a part of a specification, and completions of it joined with those of the whole.
use Rattle.std.proofs.Common.{◌≡◌, ◌<◌, ◌∷◌, ℕ, List, [], All, length, get_or, subst, sym, arith}
use Rattle.std.proofs.lemmas.List.Elements.{All-head}
use Rattle.fact_trials.specs.Trials.{IsTrial}
use Rattle.fact_trials.specs.declared.trial.Trial.{Trial}
use Rattle.fact_trials.specs.declared.trial.Trial.TheVariants as trial
use Rattle.part_facts.specs.Laws.{FactsWiden, PartsAreAsked}
use Rattle.part_facts.specs.Questions.{IsPartQuestion}
use Rattle.part_join.specs.Fits.{CompletionsFit, FitsPart}
use Rattle.part_join.specs.Joined.{IsJoined}
use Rattle.part_laws.specs.Laws.{PartsJoin, PartsNarrow}
use Rattle.part_laws.specs.Parts.{Places}
use Rattle.part_limits.specs.Laws.{PartsAreWithin}
use Rattle.part_narrow.specs.Laws.{NarrowsExist}
use Rattle.posed_facts.specs.Facts.{FactIn, IsPosable}
use Rattle.posed_facts.specs.Laws.{FactsAreAsked}
use Rattle.posed_facts.specs.Questions.{fact_question}
use Rattle.posed_facts.specs.declared.fact.Fact.{Fact}
use Rattle.report_verify.specs.Right.{EachConsistent}
use Rattle.search_logs.specs.SearchLogs.{IsWithin}
use Rattle.spec_model.specs.Completion.{Rankings}
use Rattle.spec_model.specs.Consistent.{IsConsistent}
use Rattle.spec_model.specs.Facts.{IsSpecification}
use Rattle.spec_model.specs.Spec.{Spec}
use Rattle.spec_model.specs.declared.question.Question.{Question}
use Rattle.spec_parts.specs.Built.{AreClosedPlaces, IsBuilt}
use Rattle.unit_questions.specs.Facts.{FactHolds, IsFactQuestion}
use Rattle.decided_facts.specs.Steps.{IsSite}

-- the part of closed places
pub is_site : PartsAreWithin → (s : Spec) (n : Places) (part : Spec) → IsWithin s → AreClosedPlaces s n → IsBuilt s n part
    → IsSpecification part → IsSite s n part
is_site law s n part whole closed built specification =
    let scope = closed.0 in
    let of = built scope closed.1 closed.2 in
    let none = law s scope n part whole.specification of
    (record { parts = whole.parts; variables_few = whole.variables_few; instances_few = whole.instances_few }) in
    record {
      within = whole;
      part_within = record {
        specification = specification;
        parts = none.parts;
        variables_few = none.variables_few;
        instances_few = none.instances_few;
      };
      specification = whole.specification;
      part_specification = specification;
      scope = scope;
      is_part = of;
    }

-- a consistent completion of the part fits
pub fits : CompletionsFit → (s : Spec) (n : Places) (part : Spec) (narrow : Rankings) → IsSite s n part
    → IsConsistent part narrow → FitsPart s.relations n narrow
fits law s n part narrow site consistent = law s site.scope n part narrow site.is_part consistent.completion

-- joined with a consistent completion of the whole it makes one
pub joined : PartsJoin → (s : Spec) (n : Places) (part : Spec) (other narrow c : Rankings) → IsSite s n part
    → IsConsistent s other → IsConsistent part narrow → IsJoined s.relations n other narrow c → IsConsistent s c
joined law s n part other narrow c site in_whole in_part is =
    law s site.scope n part c other narrow site.specification site.is_part is.shape is.narrowed
    (is.beyond site.scope site.is_part.places) in_part in_whole

-- the same with the first of consistent completions of the whole
pub joined_first : PartsJoin → (s : Spec) (n : Places) (part : Spec) (all : List Rankings) (first narrow c : Rankings)
    → IsSite s n part → All (IsConsistent s) all → 0 < length all → first ≡ get_or all 0 first → IsConsistent part narrow
    → IsJoined s.relations n first narrow c → IsConsistent s c
joined_first law s n part (x ∷ all) first narrow c site consistent some is in_part joined_is =
    joined law s n part first narrow c site
    (subst (IsConsistent s) (sym is) (All-head (IsConsistent s) x all consistent)) in_part joined_is
joined_first law s n part [] first narrow c site consistent some is in_part joined_is = absurd (omega (arith, some))

-- the question for a fact of the whole is one of the part, where it asks the same there
pub asked_near : FactsAreAsked → PartsAreAsked → (s : Spec) (n : Places) (part : Spec) (f : Fact) (q : Question) → IsSite s n part
    → IsPosable s.relations f → q ≡ fact_question s.relations f → IsPartQuestion n q q → IsFactQuestion part.relations q
asked_near law parts s n part f q site posable is same =
    let asked = law s.relations f site.specification.relations posable in
    parts s site.scope n part q q site.specification site.is_part
    (subst (IsFactQuestion s.relations) (sym is) asked.question) same

-- a fact that holds in every consistent completion of the part does so in every one of the whole
pub holds_widely : FactsAreAsked → FactsWiden → NarrowsExist → PartsNarrow → (s : Spec) (n : Places) (part : Spec) (f : Fact)
    (q : Question)
    → IsSite s n part → IsPosable s.relations f → q ≡ fact_question s.relations f → IsPartQuestion n q q
    → EachConsistent part (FactHolds part.relations q) → EachConsistent s (FactIn s.relations f)
holds_widely law widen exist narrow_law s n part f q site posable is same holds c consistent =
    let asked = law s.relations f site.specification.relations posable in
    let one = exist s site.scope n part c site.is_part consistent.completion in
    let narrow = one.narrow in
    let in_part = narrow_law s site.scope n part c narrow site.specification site.is_part one.shape one.narrowed consistent in
    let wide : FactHolds s.relations q c =
    widen s site.scope n part c narrow q q site.specification site.is_part consistent.completion one.shape one.narrowed
    (subst (IsFactQuestion s.relations) (sym is) asked.question) same (holds narrow in_part) in
    (asked.asks c consistent.completion).0 (subst (λ (one : Question). FactHolds s.relations one c) is wide)

-- the same, as a trial over the part tells it
pub holds_near : FactsAreAsked → FactsWiden → NarrowsExist → PartsNarrow → (s : Spec) (n : Places) (part : Spec) (f : Fact)
    (q : Question) (budget : ℕ) (t : Trial)
    → IsSite s n part → IsPosable s.relations f → q ≡ fact_question s.relations f → IsPartQuestion n q q → t ≡ trial.Holds
    → IsTrial part q budget t → EachConsistent s (FactIn s.relations f)
holds_near law widen exist narrow_law s n part f q budget t site posable is same holds is_trial =
    holds_widely law widen exist narrow_law s n part f q site posable is same (subst (IsTrial part q budget) holds is_trial)
