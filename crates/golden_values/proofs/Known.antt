-- What is known of a first completion, and what is decided of its values.
use Rattle.std.proofs.Common.{◌≡◌, ◌<◌, ◌∷◌, ℕ, List, [], All, length, subst, sym, arith}
use Rattle.std.proofs.lemmas.List.Elements.{All-cons, All-nil}
use Rattle.posed_facts.specs.Facts.{IsPosable}
use Rattle.posed_facts.specs.declared.fact.Fact.{Fact}
use Rattle.decided_facts.specs.Decided.{IsFactOutcome}
use Rattle.decided_facts.specs.declared.shown.FactOutcome.{FactOutcome}
use Rattle.decided_facts.specs.declared.shown.FactOutcome.TheVariants as outcome
use Rattle.decided_facts.specs.declared.shown.Shown.{Shown}
use Rattle.spec_model.specs.Completion.{Rankings}
use Rattle.spec_model.specs.Consistent.{IsConsistent}
use Rattle.spec_model.specs.Spec.{Spec}
use Rattle.golden_values.specs.Steps.{AreClaims, AreClaimsShown, IsKnown}
use Rattle.golden_values.proofs.Posable.{claims_posable}

pub is_known : (s : Spec) (rel : ℕ) (facts : List Fact) (c : Rankings) (known : List Rankings) → known ≡ c ∷ []
    → IsConsistent s c → AreClaims s.relations rel c facts → IsKnown s rel facts known
is_known s rel facts c known is consistent claims = record {
  completion = c;
  is_known = is;
  consistent = consistent;
  claims = claims;
}

-- it is consistent, and there
pub known_consistent : (s : Spec) (rel : ℕ) (facts : List Fact) (known : List Rankings) → IsKnown s rel facts known
    → All (IsConsistent s) known
known_consistent s rel facts known is =
    subst (All (IsConsistent s)) (sym is.is_known)
    (All-cons (IsConsistent s) is.completion [] is.consistent (All-nil (IsConsistent s)))

pub known_some : (s : Spec) (rel : ℕ) (facts : List Fact) (known : List Rankings) → IsKnown s rel facts known → 0 < length known
known_some s rel facts known is = subst (λ (list : List Rankings). 0 < length list) (sym is.is_known) (omega arith)

-- the facts can be asked for
pub known_posable : (s : Spec) (rel : ℕ) (facts : List Fact) (known : List Rankings) → IsKnown s rel facts known
    → All (IsPosable s.relations) facts
known_posable s rel facts known is = claims_posable s.relations rel is.completion facts is.claims

-- what is shown of them
pub shown_claims : (s : Spec) (rel budget : ℕ) (facts : List Fact) (known completions : List Rankings) (list : List Shown)
    (x : FactOutcome) → IsKnown s rel facts known → x ≡ outcome.All completions list → IsFactOutcome s facts budget x
    → AreClaimsShown s rel facts list
shown_claims s rel budget facts known completions list x is outcome_is outcomes_are = record {
  completion = is.completion;
  consistent = is.consistent;
  claims = is.claims;
  completions = completions;
  shown = subst (IsFactOutcome s facts budget) outcome_is outcomes_are;
}
