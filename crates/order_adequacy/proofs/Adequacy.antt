-- The laws of adequacy, for whatever are answers. They stand on the law of rules, which a crate above has of the
-- function that states it.
use Rattle.std.proofs.Common.{◌≡◌, ◌⊎◌, ℕ, Bool, true, false, List, refl, inl, inr}
use Rattle.std.proofs.lemmas.Bool.{false≢true}
use Rattle.order_adequacy.specs.Laws.{AxiomsAreTrueOver, TruthsAreModelsOver, TruthsAreThere, ModelsAreCompletions, ModelsAreOneOver, TruthsRankOver, RankingsAreOne, passing}
use Rattle.order_literals.specs.Truth.{IsTruth}
use Rattle.refutation_log.specs.declared.statement.Statement.{Statement}
use Rattle.spec_model.specs.Completion.{Rankings}
use Rattle.spec_model.specs.declared.relation.Relation.{Relation}
use Rattle.order_adequacy.proofs.Assigned as assigned
use Rattle.order_adequacy.proofs.OrderAxioms.{RulesByInstances}
use Rattle.order_adequacy.proofs.Sound.{axiom_true}
use Rattle.order_adequacy.proofs.Truths as truths

pub axioms_are_true : RulesByInstances → (answers : ℕ → Type 0) → AxiomsAreTrueOver answers
axioms_are_true by_instances answers = axiom_true by_instances answers

pub truths_are_models : RulesByInstances → (answers : ℕ → Type 0) → TruthsAreModelsOver answers
truths_are_models by_instances answers = truths.truths_are_models by_instances answers

pub models_are_completions : RulesByInstances → ModelsAreCompletions
models_are_completions by_instances = assigned.models_are_completions by_instances

pub models_are_one : (answers others : ℕ → Type 0) → ModelsAreOneOver answers others
models_are_one answers others = truths.models_are_one answers others

pub truths_rank : (answers : ℕ → Type 0) → TruthsRankOver answers
truths_rank answers = truths.truths_rank answers

pub rankings_are_one : RankingsAreOne
rankings_are_one = truths.rankings_are_one

-- what the statements say in rankings is an assignment, for whatever are answers, if it is decided of each tuple
pub truth_there : (answers : ℕ → Type 0) → ((tuple : ℕ) → answers tuple ⊎ (answers tuple → ⊥)) →
    (relations : List Relation) (c : Rankings)
    (statements : List Statement) → (truths : List Bool) × IsTruth relations c answers statements truths
truth_there answers each relations c statements = truths.truth_there answers each relations c statements

passes_or : (test : Bool) → (test ≡ true) ⊎ (test ≡ true → ⊥)
passes_or true = inl refl
passes_or false = inr false≢true

pub truths_are_there : TruthsAreThere
truths_are_there answers relations c statements = truth_there (passing answers) (λ tuple. passes_or (answers tuple))
    relations c statements
