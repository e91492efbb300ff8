-- Adequacy: the axioms say what consistent completions are.
use Rattle.std.specs.Prelude.{◌≡◌, ℕ, Bool, true, List, All, length}
use Rattle.currency_base.specs.declared.lit.Lit.{Lit}
use Rattle.spec_model.specs.Spec.{Spec}
use Rattle.spec_model.specs.Completion.{Rankings, IsCompletion}
use Rattle.spec_model.specs.Consistent.{IsConsistent}
use Rattle.spec_model.specs.Facts.{IsSpecification}
use Rattle.spec_model.specs.declared.relation.Relation.{Relation}
use Rattle.refutation_log.specs.Steps.{clauses_of}
use Rattle.refutation_log.specs.declared.statement.Statement.{Statement}
use Rattle.refutation_log.specs.declared.statement.Statement.TheVariants as says
use Rattle.refutation_log.specs.declared.step.Label.{Label}
use Rattle.refutation_log.specs.declared.step.Step.{Step}
use Rattle.order_literals.specs.declared.wanted.Wanted.{Wanted}
use Rattle.order_literals.specs.Numbers.{numbers_of}
use Rattle.order_literals.specs.Statements.{statements_of}
use Rattle.order_literals.specs.Said.{Said, positive, IsClauseTrue, IsSaidTrue}
use Rattle.order_literals.specs.Truth.{IsTruth, OneHolds}
use Rattle.order_literals.specs.Axioms.{IsAxiom}
use Rattle.order_clauses.specs.Clauses.{IsAxiomStep, AreAxioms}
use Rattle.completion_build.specs.Ranked.{IsRankedBy}

-- every axiom is true in every consistent completion, whichever tuples are answers
abbrev pub AxiomsAreTrueOver : (ℕ → Type 0) → Type 0
AxiomsAreTrueOver answers = (s : Spec) → IsSpecification s → (c : Rankings) → IsConsistent s c
    → (l : Label) (clause : List Said) → IsAxiom s l clause → OneHolds s.relations c answers clause

-- the statements of a specification, where these are wanted
abbrev pub variables : Spec → Wanted → List Statement
variables s wanted = statements_of (numbers_of s.relations wanted)

-- the truth of the statements in a consistent completion makes every axiom true
abbrev pub TruthsAreModelsOver : (ℕ → Type 0) → Type 0
TruthsAreModelsOver answers = (s : Spec) (wanted : Wanted) → IsSpecification s → (c : Rankings) → IsConsistent s c
    → (truths : List Bool) → IsTruth s.relations c answers (variables s wanted) truths
    → (l : Label) (lits : List Lit) (step : Step) → IsAxiomStep s (variables s wanted) l lits step → IsClauseTrue truths lits

-- the tuples of which a test says that they are answers. A clause ranges over tests; that the laws hold for whatever are
-- answers, and not for tests alone, is said by the lemmas of proofs/Adequacy
abbrev pub passing : (ℕ → Bool) → ℕ → Type 0
passing answers tuple = answers tuple ≡ true

abbrev pub AxiomsAreTrue : Type 0
AxiomsAreTrue = (answers : ℕ → Bool) → AxiomsAreTrueOver (passing answers)

abbrev pub TruthsAreModels : Type 0
TruthsAreModels = (answers : ℕ → Bool) → TruthsAreModelsOver (passing answers)

-- what the statements say in rankings, whatever these are, is an assignment
abbrev pub TruthsAreThere : Type 0
TruthsAreThere = (answers : ℕ → Bool) (relations : List Relation) (c : Rankings) (statements : List Statement)
    → (truths : List Bool) × IsTruth relations c (passing answers) statements truths

-- the answers that an assignment says
abbrev pub said_answers : Spec → Wanted → List Bool → ℕ → Type 0
said_answers s wanted truths tuple = IsSaidTrue (variables s wanted) truths (positive (says.Answer tuple))

-- an assignment that makes the axioms true, and that ranks the rows, is the truth in a consistent completion
pub record IsModelOf (s : Spec) (wanted : Wanted) (truths : List Bool) (c : Rankings) : Type 0 where
  pub consistent : IsConsistent s c
  pub truth : IsTruth s.relations c (said_answers s wanted truths) (variables s wanted) truths

abbrev pub ModelsAreCompletions : Type 0
ModelsAreCompletions = (s : Spec) (wanted : Wanted) → IsSpecification s → (steps : List Step)
    → AreAxioms s wanted.currents (variables s wanted) steps → (truths : List Bool) → length truths ≡ length (variables s wanted)
    → All (IsClauseTrue truths) (clauses_of steps)
    → (c : Rankings) → IsRankedBy s.relations (variables s wanted) truths c → IsModelOf s wanted truths c

-- and it is the truth in one completion alone, whichever tuples are answers in the one and in the other
abbrev pub ModelsAreOneOver : (ℕ → Type 0) → (ℕ → Type 0) → Type 0
ModelsAreOneOver answers others = (s : Spec) (wanted : Wanted) → IsSpecification s → (truths : List Bool) (c d : Rankings)
    → IsConsistent s c → IsTruth s.relations c answers (variables s wanted) truths
    → IsConsistent s d → IsTruth s.relations d others (variables s wanted) truths → c ≡ d

abbrev pub ModelsAreOne : Type 0
ModelsAreOne = (answers others : ℕ → Bool) → ModelsAreOneOver (passing answers) (passing others)

-- the truth of the statements in a completion puts the rows in its order
abbrev pub TruthsRankOver : (ℕ → Type 0) → Type 0
TruthsRankOver answers = (s : Spec) (wanted : Wanted) → IsSpecification s → (c : Rankings) → IsCompletion s.relations c
    → (truths : List Bool) → IsTruth s.relations c answers (variables s wanted) truths → IsRankedBy s.relations
    (variables s wanted) truths c

abbrev pub TruthsRank : Type 0
TruthsRank = (answers : ℕ → Bool) → TruthsRankOver (passing answers)

-- and one assignment puts the rows in one order
abbrev pub RankingsAreOne : Type 0
RankingsAreOne = (relations : List Relation) (statements : List Statement) (truths : List Bool) (c d : Rankings)
    → IsRankedBy relations statements truths c → IsRankedBy relations statements truths d → c ≡ d
