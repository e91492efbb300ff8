-- What a trimmed log keeps.
use Rattle.std.specs.Prelude.{◌≡◌, ◌<◌, ℕ, Bool, List, length, map, take, Some, slice_get}
use Rattle.currency_base.specs.declared.lit.Lit.{Lit}
use Rattle.currency_base.specs.declared.value.Value.{Value}
use Rattle.refutation_log.specs.Follows.{FollowsFrom}
use Rattle.refutation_log.specs.Steps.{clauses_of}
use Rattle.refutation_log.specs.declared.log.Log.{Log}
use Rattle.refutation_log.specs.declared.statement.Statement.{Statement}
use Rattle.refutation_log.specs.declared.step.Step.{Step}
use Rattle.refutation_log.specs.declared.step.Step.TheVariants as step
use Rattle.log_trim.specs.Trimmed.{Reaches, IsUsedVar, IsUsedAnswer, IsTrimmed, AreInPlace, lits_at, rank, renumbered_lit, renumbered_step, renumbered_statement}
use Rattle.log_trim.specs.declared.trimming.Trimmed.{Trimmed}

-- each clause that is to follow does so from the clauses before it, with its hints
abbrev pub AllFollow : List Step → Type 0
AllFollow steps =
    (place : ℕ) (lits : List Lit) (hints : List ℕ) (counted : Bool)
    → slice_get steps place ≡ Some (step.Learn lits hints counted)
    → FollowsFrom (clauses_of (take place steps)) lits hints

-- where each clause of a log follows, each clause of the trimmed log does
abbrev pub TrimmedFollows : Type 0
TrimmedFollows =
    (log : Log) (goals : List ℕ) (trimmed : Trimmed) → IsTrimmed log goals trimmed → AllFollow log.steps
    → AllFollow trimmed.log.steps

-- each step that is kept stands, renumbered, at its new place
abbrev pub StepsKeep : Type 0
StepsKeep =
    (log : Log) (goals : List ℕ) (trimmed : Trimmed) (t : IsTrimmed log goals trimmed) (place : ℕ) (s : Step)
    → Reaches log.steps goals place
    → slice_get log.steps place ≡ Some s
    → slice_get trimmed.log.steps (rank t.step_kept place) ≡ Some (renumbered_step t.step_kept t.statement_kept s)

-- the clause of each step that is kept stands, renumbered, at its new place
abbrev pub ClausesKeep : Type 0
ClausesKeep =
    (log : Log) (goals : List ℕ) (trimmed : Trimmed) (t : IsTrimmed log goals trimmed) (place : ℕ)
    → Reaches log.steps goals place
    → place < length log.steps
    → slice_get (clauses_of trimmed.log.steps) (rank t.step_kept place)
    ≡ Some (map (renumbered_lit t.statement_kept) (lits_at log.steps place))

-- each statement that is kept stands, renumbered, at its new place
abbrev pub StatementsKeep : Type 0
StatementsKeep =
    (log : Log) (goals : List ℕ) (trimmed : Trimmed) (t : IsTrimmed log goals trimmed) (var : ℕ) (s : Statement)
    → IsUsedVar log.steps goals var
    → slice_get log.statements var ≡ Some s
    → slice_get trimmed.log.statements (rank t.statement_kept var) ≡ Some (renumbered_statement t.answer_kept s)

-- each answer that is kept stands at its new place
abbrev pub AnswersKeep : Type 0
AnswersKeep =
    (log : Log) (goals : List ℕ) (trimmed : Trimmed) (t : IsTrimmed log goals trimmed) (tuple : ℕ) (answer : List Value)
    → IsUsedAnswer log goals tuple → slice_get log.answers tuple ≡ Some answer
    → slice_get trimmed.log.answers (rank t.answer_kept tuple) ≡ Some answer

-- each goal is told by its new place
abbrev pub GoalsKeep : Type 0
GoalsKeep =
    (log : Log) (goals : List ℕ) (trimmed : Trimmed) (t : IsTrimmed log goals trimmed) (k goal : ℕ)
    → slice_get goals k ≡ Some goal
    → slice_get trimmed.goals k ≡ Some (rank t.step_kept goal)

-- where the numbers of a log are places in its lists, those of the trimmed log are places in its own
abbrev pub StaysInPlace : Type 0
StaysInPlace =
    (log : Log) (goals : List ℕ) (trimmed : Trimmed) → IsTrimmed log goals trimmed → AreInPlace log goals
    → AreInPlace trimmed.log trimmed.goals
