-- The answers over a completion are those that the axioms of matches say.
use Rattle.std.specs.Prelude.{◌≡◌, ◌⊎◌, ◌<◌, ℕ, true, Bool, List, All, Contains}
use Rattle.currency_base.specs.declared.ids.EntId.{EntId}
use Rattle.currency_base.specs.declared.lit.Lit.{Lit}
use Rattle.currency_base.specs.declared.value.Value.{Value}
use Rattle.query_model.specs.Answers.{IsAnswer, IsMatch}
use Rattle.query_model.specs.Fitting.{IsQuery}
use Rattle.query_model.specs.declared.query.Disjunct.{Disjunct}
use Rattle.query_model.specs.declared.query.Match.{Match}
use Rattle.query_model.specs.declared.query.Query.{Query}
use Rattle.spec_model.specs.Completion.{Rankings, IsCompletion}
use Rattle.spec_model.specs.Consistent.{IsConsistent}
use Rattle.spec_model.specs.Current.{IsCurrentInstance}
use Rattle.spec_model.specs.Facts.{IsSpecification}
use Rattle.spec_model.specs.Spec.{Spec}
use Rattle.answer_laws.specs.Answered.{IsAnswerIn}
use Rattle.refutation_log.specs.declared.statement.Statement.TheVariants as says
use Rattle.refutation_log.specs.declared.step.Label.TheVariants as label
use Rattle.log_axioms.specs.Axioms.{is_axiom}
use Rattle.log_axioms.specs.Posed.{Posed}
use Rattle.order_literals.specs.Numbers.{is_wanted}
use Rattle.order_literals.specs.Said.{IsClauseTrue, IsSaidTrue, Said, positive}
use Rattle.order_literals.specs.declared.wanted.Wanted.{Wanted}
use Rattle.match_clauses.specs.Clauses.{IsCurrentDenied, SaysAnswer}
use Rattle.match_clauses.specs.Matched.{IsPosedAt}
use Rattle.order_adequacy.specs.Laws.{IsModelOf, variables}
use Rattle.axiom_models.specs.Models.{AllAxioms, AreAllAxioms, IsModelOfOne, MakesTrue}

-- the query is posed, the current values of its relations are wanted, and the tuple stands first at a place that is numbered
pub record IsAskedAt (wanted : Wanted) (posed : Posed) (query : Query) (tuple : List Value) (answer : ℕ) : Type 0 where
  pub posed_at : IsPosedAt posed query tuple answer
  pub within : answer < wanted.answers
  pub are_wanted : (d : Disjunct) → Contains query.disjuncts d
      → All (λ atom. is_wanted wanted.currents atom.relation.0 ≡ true) d.atoms

-- a match has an axiom of which one literal says that the tuple at a place is an answer, and each other is false in a completion:
-- it denies a value that is current there
pub record HasAxiom (s : Spec) (wanted : Wanted) (posed : Posed) (c : Rankings) (answer : ℕ) (m : Match) : Type 0 where
  pub lits : List Lit
  pub is_axiom : is_axiom s posed (variables s wanted) (label.Match m.disjunct m.entities m.values) lits ≡ true
  pub has_answer : (lit : Lit) × Contains lits lit × SaysAnswer (variables s wanted) answer lit
  pub others : (lit : Lit) → Contains lits lit → SaysAnswer (variables s wanted) answer lit
      ⊎ IsCurrentDenied s.relations c (variables s wanted) lit

-- each match over the current instance of a completion has such an axiom for its tuple
abbrev pub MatchesHaveAxioms : Type 0
MatchesHaveAxioms = (s : Spec) (wanted : Wanted) (posed : Posed) (query : Query) → IsSpecification s
    → (c : Rankings) → IsCompletion s.relations c → (instance : List (List (List Value)))
    → IsCurrentInstance s.relations c instance
    → (tuple : List Value) (answer : ℕ) → IsAskedAt wanted posed query tuple answer
    → (m : Match) → IsMatch query instance tuple m → HasAxiom s wanted posed c answer m

-- so an answer over it has a match with such an axiom
abbrev pub AnswersHaveMatches : Type 0
AnswersHaveMatches = (s : Spec) (wanted : Wanted) (posed : Posed) (query : Query) → IsSpecification s
    → (c : Rankings) → IsCompletion s.relations c → (instance : List (List (List Value)))
    → IsCurrentInstance s.relations c instance
    → (tuple : List Value) (answer : ℕ) → IsAskedAt wanted posed query tuple answer
    → IsAnswer query instance tuple → (m : Match) × IsMatch query instance tuple m × HasAxiom s wanted posed c answer m

-- and what has such an axiom is an answer over it
abbrev pub AxiomsMakeAnswers : Type 0
AxiomsMakeAnswers = (s : Spec) (wanted : Wanted) (posed : Posed) (query : Query)
    → (c : Rankings) → IsCompletion s.relations c → (instance : List (List (List Value)))
    → IsCurrentInstance s.relations c instance
    → (tuple : List Value) (answer : ℕ) → IsAskedAt wanted posed query tuple answer
    → (m : Match) → HasAxiom s wanted posed c answer m → IsAnswer query instance tuple

-- ---- assignments

-- every axiom of a match is true under an assignment
abbrev pub MatchesAreTrue : Spec → Wanted → Posed → List Bool → Type 0
MatchesAreTrue s wanted posed truths = (disjunct : ℕ) (entities : List EntId) (values : List Value) (lits : List Lit)
    → is_axiom s posed (variables s wanted) (label.Match disjunct entities values) lits ≡ true → IsClauseTrue truths lits

-- that the tuple at a place is none
abbrev pub no_answer : ℕ → Said
no_answer answer = record { statement = says.Answer answer; negative = true }

-- an assignment that makes these true says of each answer over the completion of which it is the truth that it is one
abbrev pub AnswersAreSaid : Type 0
AnswersAreSaid = (s : Spec) (wanted : Wanted) (posed : Posed) (query : Query) → IsSpecification s
    → (truths : List Bool) → MatchesAreTrue s wanted posed truths → (c : Rankings) → IsModelOf s wanted truths c
    → (instance : List (List (List Value))) → IsCurrentInstance s.relations c instance
    → (tuple : List Value) (answer : ℕ) → IsAskedAt wanted posed query tuple answer
    → IsAnswer query instance tuple → IsSaidTrue (variables s wanted) truths (positive (says.Answer answer))

-- and a tuple that is no answer over a consistent completion is said to be none by an assignment that makes all axioms true,
-- those of matches too, and is the truth in this completion
abbrev pub OthersAreDenied : Type 0
OthersAreDenied = (s : Spec) (wanted : Wanted) (posed : Posed) (query : Query) → IsSpecification s
    → (axioms : AllAxioms) → AreAllAxioms s wanted axioms
    → (c : Rankings) → IsConsistent s c → (instance : List (List (List Value))) → IsCurrentInstance s.relations c instance
    → (tuple : List Value) (answer : ℕ) → IsAskedAt wanted posed query tuple answer → (IsAnswer query instance tuple → ⊥)
    → (truths : List Bool) × MakesTrue s wanted axioms truths × MatchesAreTrue s wanted posed truths
    × IsModelOfOne s wanted truths c × IsSaidTrue (variables s wanted) truths (no_answer answer)

-- ---- certain answers

-- a tuple that is an answer over every consistent completion is said to be one by every assignment that makes all axioms true,
-- those of matches too
abbrev pub CertainAnswersAreSaid : Type 0
CertainAnswersAreSaid = (s : Spec) (wanted : Wanted) (posed : Posed) (query : Query) → IsSpecification s
    → (axioms : AllAxioms) → AreAllAxioms s wanted axioms
    → (tuple : List Value) (answer : ℕ) → IsAskedAt wanted posed query tuple answer
    → ((c : Rankings) → IsConsistent s c → IsAnswerIn s.relations query tuple c)
    → (truths : List Bool) → MakesTrue s wanted axioms truths → MatchesAreTrue s wanted posed truths
    → IsSaidTrue (variables s wanted) truths (positive (says.Answer answer))

-- and one that every such assignment says to be an answer is one over every consistent completion
abbrev pub SaidAnswersAreCertain : Type 0
SaidAnswersAreCertain = (s : Spec) (wanted : Wanted) (posed : Posed) (query : Query) → IsSpecification s → IsQuery query
    → (axioms : AllAxioms) → AreAllAxioms s wanted axioms
    → (tuple : List Value) (answer : ℕ) → IsAskedAt wanted posed query tuple answer
    → ((truths : List Bool) → MakesTrue s wanted axioms truths → MatchesAreTrue s wanted posed truths
    → IsSaidTrue (variables s wanted) truths (positive (says.Answer answer)))
    → (c : Rankings) → IsConsistent s c → IsAnswerIn s.relations query tuple c
