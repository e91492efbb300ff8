-- What a trimmed log keeps of what a log shows.
use Rattle.std.specs.Prelude.{◌≡◌, ℕ, Bool, List, map, Contains, Option, Some, option_map, slice_get}
use Rattle.currency_base.specs.declared.lit.Lit.{Lit}
use Rattle.query_model.specs.declared.query.Query.{Query}
use Rattle.spec_model.specs.Spec.{Spec}
use Rattle.refutation_log.specs.Steps.{clauses_of}
use Rattle.refutation_log.specs.declared.log.Log.{Log}
use Rattle.refutation_log.specs.declared.statement.Statement.TheVariants.{Answer}
use Rattle.log_axioms.specs.Truth.{meaning}
use Rattle.log_axioms.specs.declared.signed.Signed.{Signed}
use Rattle.log_checker.specs.Accepted.{IsAccepted}
use Rattle.refutation_log.specs.Numbered.{IsNumbered}
use Rattle.log_trim.specs.Trimmed.{AreInPlace, IsTrimmed, lits_at, rank, renumbered_lit, renumbered_statement}
use Rattle.log_trim.specs.declared.trimming.Trimmed.{Trimmed}

-- a trimmed log is accepted where the log is
abbrev pub TrimmedAreAccepted : Type 0
TrimmedAreAccepted =
    (s : Spec) (query : Option Query) (log : Log) (goals : List ℕ) (trimmed : Trimmed) → AreInPlace log goals
    → IsAccepted s query log
    → IsTrimmed log goals trimmed → IsAccepted s query trimmed.log

-- a trimmed log can be checked where the log can
abbrev pub TrimmedAreNumbered : Type 0
TrimmedAreNumbered =
    (log : Log) (goals : List ℕ) (trimmed : Trimmed) → AreInPlace log goals → IsNumbered log.statements log.steps
    → IsTrimmed log goals trimmed → IsNumbered trimmed.log.statements trimmed.log.steps

-- ---- goals

-- a statement with its sign, and the answer that it names renumbered
abbrev pub renumbered_signed : (ℕ → Bool) → Signed → Signed
renumbered_signed answers s = record { statement = renumbered_statement answers s.statement; negative = s.negative }

-- the clause of each goal stands, with its literals renumbered, at the goal's new place
abbrev pub GoalClausesKeep : Type 0
GoalClausesKeep =
    (log : Log) (goals : List ℕ) (trimmed : Trimmed) → AreInPlace log goals → (t : IsTrimmed log goals trimmed)
    → (k goal : ℕ) → slice_get goals k ≡ Some goal
    → (new : ℕ) × (slice_get trimmed.goals k ≡ Some new)
    × (slice_get (clauses_of trimmed.log.steps) new ≡ Some (map (renumbered_lit t.statement_kept) (lits_at log.steps goal)))

-- a literal of a goal's clause, renumbered, says in the trimmed log what it says in the log, but for the number of an answer
abbrev pub GoalMeaningsKeep : Type 0
GoalMeaningsKeep =
    (log : Log) (goals : List ℕ) (trimmed : Trimmed) → AreInPlace log goals → (t : IsTrimmed log goals trimmed)
    → (goal : ℕ) (lit : Lit) → Contains goals goal → Contains (lits_at log.steps goal) lit
    → meaning trimmed.log.statements (renumbered_lit t.statement_kept lit)
    ≡ option_map (renumbered_signed t.answer_kept) (meaning log.statements lit)

-- an answer that a literal of a goal's clause names is the same in the trimmed log, at its new number
abbrev pub GoalAnswersKeep : Type 0
GoalAnswersKeep =
    (log : Log) (goals : List ℕ) (trimmed : Trimmed) → AreInPlace log goals → (t : IsTrimmed log goals trimmed)
    → (goal : ℕ) (lit : Lit) → Contains goals goal → Contains (lits_at log.steps goal) lit → (tuple : ℕ) (negative : Bool)
    → meaning log.statements lit ≡ Some (record { statement = Answer tuple; negative = negative })
    → slice_get trimmed.log.answers (rank t.answer_kept tuple) ≡ slice_get log.answers tuple
