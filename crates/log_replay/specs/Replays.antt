-- Why a step of a log is refused.
use Rattle.std.specs.Prelude.{◌≡◌, ◌⊎◌, ◌<◌, ◌≤◌, ℕ, List, [], ◌∷◌, ◌++◌, Option, Some, None, length}
use Rattle.currency_base.specs.Literals.{negation}
use Rattle.currency_base.specs.declared.lit.Lit.{Lit}
use Rattle.refutation_log.specs.Follows.{AreFalse, IsOnlyOpen, HasTwoOpen, clause_at, IsUnknownHint, IsNoUnit, ComesToNoConflict}
use Rattle.log_replay.specs.declared.clause_state.ClauseState.{ClauseState}
use Rattle.log_replay.specs.declared.clause_state.ClauseState.TheVariants.{Falsified, Unit, Unresolved}
use Rattle.log_replay.specs.declared.fault.StepFault.{StepFault}
use Rattle.log_replay.specs.declared.fault.StepFault.TheVariants.{NotUnit, NoConflict, UnknownHint, NoMemory}

-- a clause is not added for this cause; want of memory is none
abbrev pub IsStepRefusal : List (List Lit) → List Lit → List ℕ → StepFault → Type 0
IsStepRefusal earlier clause hints (NotUnit place) = IsNoUnit earlier clause hints place
IsStepRefusal earlier clause hints NoConflict = ComesToNoConflict earlier clause hints
IsStepRefusal earlier clause hints (UnknownHint place) = IsUnknownHint earlier clause hints place
IsStepRefusal earlier clause hints NoMemory = ⊥

-- ---- what one hint does

-- what the literals that are false leave of a clause
abbrev pub IsState : List Lit → List Lit → ClauseState → Type 0
IsState falses clause Falsified = AreFalse falses clause
IsState falses clause (Unit lit) = IsOnlyOpen falses clause lit
IsState falses clause Unresolved = HasTwoOpen falses clause

-- what they leave of the clause that a hint names, if there is such an earlier clause
abbrev pub IsHintState : List (List Lit) → List Lit → ℕ → Option ClauseState → Type 0
IsHintState earlier falses hint None = length earlier ≤ hint
IsHintState earlier falses hint (Some state) = (hint < length earlier) × IsState falses (clause_at earlier hint) state

-- a hint that is an earlier clause leaves at most one literal open, whose negation is then false too
abbrev pub IsUsed : List (List Lit) → List Lit → ℕ → List Lit → Type 0
IsUsed earlier falses hint new = (hint < length earlier)
    × ((AreFalse falses (clause_at earlier hint) × (new ≡ falses))
    ⊎ ((lit : Lit) × IsOnlyOpen falses (clause_at earlier hint) lit × (new ≡ falses ++ negation lit ∷ [])))

-- the hint at a place, which is not the last, fails for this cause
abbrev pub HintFails : List (List Lit) → List Lit → ℕ → ℕ → StepFault → Type 0
HintFails earlier falses hint place (NotUnit at) =
    (at ≡ place) × (hint < length earlier) × HasTwoOpen falses (clause_at earlier hint)
HintFails earlier falses hint place (UnknownHint at) = (at ≡ place) × (length earlier ≤ hint)
HintFails earlier falses hint place NoConflict = ⊥
HintFails earlier falses hint place NoMemory = ⊥
