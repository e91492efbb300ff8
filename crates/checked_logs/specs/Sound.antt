-- What an accepted log says of the consistent completions of its specification.
use Rattle.std.specs.Prelude.{ℕ, Bool, [], All, Contains, Option}
use Rattle.query_model.specs.declared.query.Query.{Query}
use Rattle.spec_model.specs.Spec.{Spec}
use Rattle.spec_model.specs.Facts.{IsSpecification}
use Rattle.spec_model.specs.Completion.{Rankings}
use Rattle.spec_model.specs.Consistent.{IsConsistent, IsSatisfiable}
use Rattle.refutation_log.specs.Steps.{clauses_of}
use Rattle.refutation_log.specs.declared.log.Log.{Log}
use Rattle.log_axioms.specs.Posed.{AreAnswersOver, passing, posed_by}
use Rattle.log_axioms.specs.Truth.{ClauseHolds}
use Rattle.log_checker.specs.Accepted.{IsAccepted}

-- the clause of each step of an accepted log is true in every consistent completion, where each tuple is one of the
-- answers that the query has as an answer over the current instance
abbrev pub AcceptedAreTrueOver : (ℕ → Type 0) → Type 0
AcceptedAreTrueOver answers =
    (s : Spec) → IsSpecification s → (c : Rankings) → IsConsistent s c → (query : Option Query) (log : Log)
    → AreAnswersOver s.relations (posed_by query log) c answers → IsAccepted s query log
    → All (ClauseHolds s.relations c answers log.statements) (clauses_of log.steps)

-- a clause ranges over tests of which tuples are answers; that it holds for whatever are answers, where this is
-- decided, is said by the lemma accepted_are_true of proofs/Accepted
abbrev pub AcceptedAreTrue : Type 0
AcceptedAreTrue = (answers : ℕ → Bool) → AcceptedAreTrueOver (passing answers)

-- a specification with an accepted log that has the empty clause has no consistent completion
abbrev pub EmptyMeansNone : Type 0
EmptyMeansNone =
    (s : Spec) → IsSpecification s → (query : Option Query) (log : Log) → IsAccepted s query log
    → Contains (clauses_of log.steps) [] → IsSatisfiable s → ⊥
