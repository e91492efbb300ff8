-- What is known of facts while one part after another is searched.
use Rattle.std.specs.Prelude.{◌≡◌, ◌<◌, ◌++◌, ℕ, Bool, true, List, All, Option, Some, IfSome, length, slice_get}
use Rattle.fact_trials.specs.Trials.{IsSpent}
use Rattle.match_premises.specs.declared.premise.Premise.{Premise}
use Rattle.part_laws.specs.Parts.{IsPartOf, Places, Scope}
use Rattle.posed_facts.specs.Facts.{FactIn, IsCurrent, IsPosable}
use Rattle.posed_facts.specs.Questions.{fact_question}
use Rattle.posed_facts.specs.declared.fact.Fact.{Fact}
use Rattle.report_verify.specs.Right.{EachConsistent}
use Rattle.search_logs.specs.SearchLogs.{IsWithin}
use Rattle.spec_model.specs.Completion.{Rankings}
use Rattle.spec_model.specs.Consistent.{IsConsistent}
use Rattle.spec_model.specs.Facts.{IsSpecification}
use Rattle.spec_model.specs.Spec.{Spec}
use Rattle.decided_facts.specs.Decided.{IsShown}
use Rattle.decided_facts.specs.declared.rest.One.{One}
use Rattle.decided_facts.specs.declared.rest.One.TheVariants as one
use Rattle.decided_facts.specs.declared.shown.Shown.{Shown}
use Rattle.decided_facts.specs.declared.trying.Near.{Near}
use Rattle.decided_facts.specs.declared.trying.Near.TheVariants as near

-- ---- what is given

-- facts of a specification within its limits
pub record IsTask (s : Spec) (facts : List Fact) : Type 0 where
  pub within : IsWithin s
  pub specification : IsSpecification s
  pub posable : All (IsPosable s.relations) facts

-- a part of a specification, both within their limits
pub record IsSite (s : Spec) (n : Places) (part : Spec) : Type 0 where
  pub within : IsWithin s
  pub part_within : IsWithin part
  pub specification : IsSpecification s
  pub part_specification : IsSpecification part
  pub scope : Scope
  pub is_part : IsPartOf s scope n part

-- ---- what is found

-- the marked facts hold in every consistent completion
pub record AreMarked (s : Spec) (facts : List Fact) (holds : List Bool) : Type 0 where
  pub per_fact : length holds ≡ length facts
  pub each : (k : ℕ) (f : Fact) → slice_get holds k ≡ Some true → slice_get facts k ≡ Some f
      → EachConsistent s (FactIn s.relations f)

-- some consistent completions, and the marked facts
pub record AreFound (s : Spec) (facts : List Fact) (completions : List Rankings) (holds : List Bool) : Type 0 where
  pub consistent : All (IsConsistent s) completions
  pub some : 0 < length completions
  pub marked : AreMarked s facts holds

-- the claim that was tried last holds in every consistent completion, if that is said
abbrev pub IsCertain : Spec → Option Premise → Bool → Type 0
IsCertain s claim certain = certain ≡ true → IfSome claim (λ q. EachConsistent s (IsCurrent s.relations q))

-- what a part says of a fact: that it holds in every consistent completion of the whole; or there is a consistent completion of
-- the part
abbrev pub IsNear : Spec → Spec → Fact → Near → Type 0
IsNear s part f near.Holds = EachConsistent s (FactIn s.relations f)
IsNear s part f (near.Fails narrow) = IsConsistent part narrow
IsNear s part f near.Unknown = Unit {0}

-- ---- what is left

-- more completions are listed
pub record Extends (old new : List Rankings) : Type 0 where
  pub more : List Rankings
  pub is_new : new ≡ old ++ more

-- so many facts are shown
pub record AreShownTo (s : Spec) (facts : List Fact) (count : ℕ) (completions : List Rankings) (list : List Shown) : Type 0
  where
    pub consistent : All (IsConsistent s) completions
    pub some : 0 < length completions
    pub as_many : length list ≡ count
    pub each : (k : ℕ) (f : Fact) (x : Shown) → slice_get facts k ≡ Some f → slice_get list k ≡ Some x
        → IsShown s completions f x

-- what is shown of one fact, or the budget is spent
abbrev pub IsOne : Spec → ℕ → Fact → List Rankings → One → Type 0
IsOne s budget f completions (one.Shown x) = IsShown s completions f x
IsOne s budget f completions (one.Open report) = IsSpent s (fact_question s.relations f) budget report
