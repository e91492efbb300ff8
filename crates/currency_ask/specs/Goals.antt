-- What is decided for a question, and what comes of it.
use Rattle.std.specs.Prelude.{◌≡◌, ◌≢◌, ◌<◌, ℕ, true, List, [], ◌∷◌, Option, Some, None, length, slice_get, take}
use Rattle.currency_base.specs.declared.lit.Lit.{Lit}
use Rattle.currency_base.specs.declared.row.Row.{Row}
use Rattle.denial_rules.specs.Instances.{field_value}
use Rattle.partial_orders.specs.Pairs.{entity_of}
use Rattle.spec_model.specs.Completion.{Rankings}
use Rattle.spec_model.specs.Consistent.{IsConsistent}
use Rattle.spec_model.specs.Current.{current_value}
use Rattle.spec_model.specs.Questions.{IsAskedPair}
use Rattle.spec_model.specs.Spec.{Spec}
use Rattle.spec_model.specs.declared.relation.Relation.{Relation}
use Rattle.value_names.specs.Names.{name_of}
use Rattle.certain_answers.specs.Deciding.{IsEnd}
use Rattle.refutation_log.specs.Steps.{clauses_of}
use Rattle.refutation_log.specs.declared.statement.Statement.TheVariants as says
use Rattle.log_axioms.specs.Posed.{Posed}
use Rattle.answer_laws.specs.Answered.{IsAnswerIn}
use Rattle.query_model.specs.declared.query.Query.{Query}
use Rattle.currency_base.specs.declared.value.Value.{Value}
use Rattle.order_literals.specs.Numbers
use Rattle.order_literals.specs.Said.{Said, Says, before, last, positive}
use Rattle.order_literals.specs.declared.wanted.Wanted.{Wanted}
use Rattle.order_search.specs.Searches.{Search}
use Rattle.order_search.specs.declared.outcome.Outcome.{Outcome}
use Rattle.order_search.specs.declared.outcome.Outcome.TheVariants.{Model, Proved, Empty, Spent}
use Rattle.report_verify.specs.Right.{PairHolds}
use Rattle.report_verify.specs.Supported.{Claim, Need}
use Rattle.report_verify.specs.Supported.Claim.{Holds, HasValue, HasAnswer}
use Rattle.currency_ask.specs.declared.deciding.Decided.{Decided}
use Rattle.currency_ask.specs.declared.deciding.Decided.TheVariants as decided
use Rattle.currency_ask.specs.declared.goal.Goal.{Goal}
use Rattle.currency_ask.specs.declared.goal.Goal.TheVariants.{Pair, Current, Answer}
use Rattle.current_claims.specs.declared.claims.CurrentRow.{CurrentRow}

-- ---- goals

-- a row of an entity of a relation whose current values are wanted, and one of its attributes
pub record IsCurrentGoal (s : Spec) (wanted : Wanted) (p : CurrentRow) : Type 0 where
  pub relation : Relation
  pub is_relation : slice_get s.relations p.rel.0 ≡ Some relation
  pub attr_within : p.attr.0 < length relation.attrs
  pub ent_within : p.ent.0 < length relation.entities
  pub of_entity : entity_of relation.rows p.row.0 ≡ Some p.ent.0
  pub row_within : p.row.0 < length relation.rows
  pub is_wanted : Numbers.is_wanted wanted.currents p.rel.0 ≡ true

-- a goal that can be decided
abbrev pub IsGoalOn : Spec → Wanted → Goal → Type 0
IsGoalOn s wanted (Pair p) = IsAskedPair s.relations p
IsGoalOn s wanted (Current p) = IsCurrentGoal s wanted p
IsGoalOn s wanted (Answer place) = place < wanted.answers

-- one on a pair or on a current value, whose list is brought in first
abbrev pub IsListGoalOn : Spec → Wanted → Goal → Type 0
IsListGoalOn s wanted (Answer place) = ⊥
IsListGoalOn s wanted goal = IsGoalOn s wanted goal

-- the rows of a relation, if it is there
abbrev pub rows_at : Option Relation → List Row
rows_at None = []
rows_at (Some r) = r.rows

-- what is said of a goal by a statement
abbrev pub said_of : Spec → Goal → Said
said_of s (Pair p) = before p.rel p.pair.attr p.pair.earlier p.pair.later
said_of s (Current p) = last p.rel p.attr (name_of (rows_at (slice_get s.relations p.rel.0)) p.attr.0 p.row)
said_of s (Answer place) = positive (says.Answer place)

-- a goal does not hold in a completion
abbrev pub Fails : Spec → Posed → Goal → Rankings → Type 0
Fails s posed (Pair p) c = PairHolds p c → ⊥
Fails s posed (Current p) c = (r : Relation) → slice_get s.relations p.rel.0 ≡ Some r
    → current_value c p.rel.0 r.rows p.attr.0 p.ent.0 ≢ field_value r.rows (Some p.row) p.attr.0
Fails s posed (Answer place) c = (query : Query) (tuple : List Value) → posed.query ≡ Some query
    → slice_get posed.answers place ≡ Some tuple
    → IsAnswerIn s.relations query tuple c → ⊥

-- ---- what comes of deciding

-- a step of the log is the unit of a literal that says the goal
pub record IsProved (search : Search) (goal : Goal) (step : ℕ) : Type 0 where
  pub lit : Lit
  pub says : Says search.log.statements lit (said_of search.spec goal)
  pub is_unit : slice_get (clauses_of search.log.steps) step ≡ Some (lit ∷ [])

-- what deciding a goal tells, with so many units left: a consistent completion in which it fails; the step that is its
-- unit; or an end
abbrev pub TellsGoal : Search → Goal → ℕ → Outcome → Type 0
TellsGoal search goal left (Model truths c) = IsConsistent search.spec c × Fails search.spec search.posed goal c
TellsGoal search goal left (Proved step) = IsProved search goal step
TellsGoal search goal left (Empty step) = IsEnd search left (Empty step)
TellsGoal search goal left Spent = IsEnd search left Spent

-- these steps are the units of these goals, one after another
pub record AreProved (search : Search) (goals : List Goal) (steps : List ℕ) : Type 0 where
  pub as_many : length steps ≡ length goals
  pub each : (k : ℕ) (goal : Goal) (step : ℕ) → slice_get goals k ≡ Some goal → slice_get steps k ≡ Some step
      → IsProved search goal step

-- one of these goals fails in a consistent completion
pub record FailsAt (s : Spec) (posed : Posed) (goals : List Goal) (place : ℕ) (c : Rankings) : Type 0 where
  pub goal : Goal
  pub is_goal : slice_get goals place ≡ Some goal
  pub consistent : IsConsistent s c
  pub fails : Fails s posed goal c

-- one of these goals fails in a consistent completion, and the steps before it are the units of the goals before it
pub record FailsAfter (search : Search) (goals : List Goal) (place : ℕ) (c : Rankings) : Type 0 where
  pub fails : FailsAt search.spec search.posed goals place c
  pub steps : List ℕ
  pub proved : AreProved search (take place goals) steps

-- what deciding goals one after another came to, with so many units left
abbrev pub TellsGoals : Search → List Goal → ℕ → Decided → Type 0
TellsGoals search goals left (decided.Proved steps) = AreProved search goals steps
TellsGoals search goals left (decided.Fails place c) = FailsAfter search goals place c
TellsGoals search goals left (decided.Ended outcome) = IsEnd search left outcome

-- ---- claims

-- a goal is what is claimed
abbrev pub IsClaimOf : Spec → Posed → Goal → Claim → Type 0
IsClaimOf s posed (Pair p) (Holds q) = p ≡ q
IsClaimOf s posed (Current p) (HasValue rel attr ent v) = (p.rel ≡ rel) × (p.attr ≡ attr) × (p.ent ≡ ent)
    × ((r : Relation) → slice_get s.relations p.rel.0 ≡ Some r → field_value r.rows (Some p.row) p.attr.0 ≡ Some v)
IsClaimOf s posed (Answer place) (HasAnswer tuple) = slice_get posed.answers place ≡ Some tuple
IsClaimOf s posed goal claim = ⊥

-- these goals are what is claimed, one after another
pub record AreClaims (s : Spec) (posed : Posed) (goals : List Goal) (needs : List Need) : Type 0 where
  pub as_many : length goals ≡ length needs
  pub each : (k : ℕ) (goal : Goal) (need : Need) → slice_get goals k ≡ Some goal → slice_get needs k ≡ Some need
      → IsClaimOf s posed goal need.claim
