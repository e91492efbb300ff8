-- A model that is known on every part is a model.
use Rattle.std.specs.Prelude.{◌≡◌, ℕ, Bool, List, All, Contains, Option, length}
use Rattle.currency_base.specs.Literals.{var_of}
use Rattle.currency_base.specs.declared.lit.Lit.{Lit}
use Rattle.spec_model.specs.Facts.{IsSpecification}
use Rattle.refutation_log.specs.Steps.{clauses_of}
use Rattle.refutation_log.specs.declared.step.Label.{Label}
use Rattle.refutation_log.specs.declared.step.Step.{Step}
use Rattle.order_literals.specs.Numbers.{Numbers}
use Rattle.order_literals.specs.Said.{IsClauseTrue}
use Rattle.order_clauses.specs.Clauses.{AreAxioms, IsAxiomStep}
use Rattle.order_adequacy.specs.Laws.{IsModelOf}
use Rattle.completion_build.specs.Ranked.{IsRankedBy}
use Rattle.known_models.specs.Changes.{AreModelOf, HasValue, IsTrueBy}
use Rattle.known_models.specs.Known.{IsKnown, IsParted, IsWhole, KnownModel, PartedSpec, variables_in, vars_in}

-- where every part is done, the truths put the rows in the order of the completion
abbrev pub KnownRanks : Type 0
KnownRanks = (p : PartedSpec) (n : Numbers) (k : KnownModel) → IsSpecification p.spec → IsParted n p → IsKnown p k → IsWhole k
    → IsRankedBy p.spec.relations (variables_in p) k.truths k.completion

-- they are the truth in it, and it is consistent; the steps are the axioms that are brought in from the start
abbrev pub KnownIsModel : Type 0
KnownIsModel = (p : PartedSpec) (n : Numbers) (k : KnownModel) (steps : List Step) → IsSpecification p.spec → IsParted n p
    → AreAxioms p.spec p.wanted.currents (variables_in p) steps → IsKnown p k → IsWhole k
    → IsModelOf p.spec p.wanted k.truths k.completion

-- and each axiom is true under them, one that is brought in later too
abbrev pub KnownMakesTrue : Type 0
KnownMakesTrue = (p : PartedSpec) (n : Numbers) (k : KnownModel) (steps : List Step) → IsSpecification p.spec → IsParted n p
    → AreAxioms p.spec p.wanted.currents (variables_in p) steps → IsKnown p k → IsWhole k
    → (l : Label) (lits : List Lit) (taken : Step) → IsAxiomStep p.spec (variables_in p) l lits taken
    → IsClauseTrue k.truths lits

-- values are a model of a part where each of its variables has one, and each of the axioms from the start whose variables are of
-- the part is true by them, as it stands among the steps
abbrev pub ValuesAreModels : Type 0
ValuesAreModels = (p : PartedSpec) (part : ℕ) (given : List (Option Bool)) (steps : List Step)
    → AreAxioms p.spec p.wanted.currents (variables_in p) steps → length given ≡ length (variables_in p)
    → All (HasValue given) (vars_in p part)
    → ((lits : List Lit) → Contains (clauses_of steps) lits → All (λ lit. Contains (vars_in p part) (var_of lit)) lits
    → IsTrueBy given lits) → AreModelOf p given part
