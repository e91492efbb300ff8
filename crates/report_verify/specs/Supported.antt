-- What a verdict asks of the listed completions and of the log.
use Rattle.std.specs.Prelude.{◌≡◌, ◌≢◌, ◌+◌, ℕ, true, List, [], ◌∷◌, ◌++◌, All, Contains, map}
use Rattle.std.specs.List.{list_any}
use Rattle.currency_base.specs.declared.ids.AttrId.{AttrId}
use Rattle.currency_base.specs.declared.ids.EntId.{EntId}
use Rattle.currency_base.specs.declared.ids.RelId.{RelId}
use Rattle.currency_base.specs.declared.value.Value.{Value}
use Rattle.common_answers.specs.Common.{AreCommon}
use Rattle.log_axioms.specs.Axioms.{before}
use Rattle.log_checker.specs.Shown.{is_empty}
use Rattle.log_units.specs.Units.{HasAnswerUnit, HasLastUnit, HasUnit}
use Rattle.query_model.specs.Answers.{AreAscending}
use Rattle.refutation_log.specs.Counted.{counted_steps}
use Rattle.refutation_log.specs.Steps.{clauses_of}
use Rattle.refutation_log.specs.declared.log.Log.{Log}
use Rattle.spec_model.specs.Completion.{Rankings}
use Rattle.spec_model.specs.declared.question.Asked.{Asked}
use Rattle.spec_model.specs.declared.question.Question.{Question}
use Rattle.spec_model.specs.declared.question.Question.TheVariants as asked
use Rattle.spec_model.specs.declared.relation.Relation.{Relation}
use Rattle.spec_model.specs.Spec.{Spec}
use Rattle.report_model.specs.declared.report.Part.{Part}
use Rattle.report_model.specs.declared.report.Part.TheVariants as part
use Rattle.report_model.specs.declared.verdict.Current.{Current}
use Rattle.report_model.specs.declared.verdict.Verdict.{Verdict}
use Rattle.report_model.specs.declared.verdict.Verdict.TheVariants as verdict
use Rattle.report_verify.specs.Asked.{AreItemsOf}
use Rattle.report_verify.specs.Right.{PairHolds, DifferAt}

-- ---- the shape of a verdict

-- a verdict is one of the question's: `inconsistent` and `undecided` are of every question; the pair of `not certain` is
-- asked; the place of `not same` is of an asked relation; the items of `same` are those of the asked relations; the answers
-- ascend
abbrev pub IsOneOf : Spec → Question → Verdict → Type 0
IsOneOf s q verdict.Inconsistent = Unit {0}
IsOneOf s q (verdict.Undecided counted) = Unit {0}
IsOneOf s asked.Consistent verdict.Consistent = Unit {0}
IsOneOf s (asked.Certain pairs) verdict.Certain = Unit {0}
IsOneOf s (asked.Certain pairs) (verdict.NotCertain p) = Contains pairs p
IsOneOf s (asked.Same rels) (verdict.Same items) = AreItemsOf s.relations rels items
IsOneOf s (asked.Same rels) (verdict.NotSame rel attr ent) = Contains rels rel
IsOneOf s (asked.Answers query) (verdict.Answers tuples) = AreAscending tuples
IsOneOf s q v = ⊥

-- ---- what must hold in every consistent completion

-- what is claimed of every consistent completion
pub data Claim : Type 0 where
  Holds : Asked → Claim
  HasValue : RelId → AttrId → EntId → Value → Claim
  HasAnswer : List Value → Claim

-- a claim, and the part of the report that makes it
pub record Need : Type 0 where
  pub part : Part
  pub claim : Claim

-- that each of these pairs holds
abbrev pub pair_needs : List Asked → List Need
pair_needs pairs = map (λ p. record { part = part.Verdict; claim = Holds p }) pairs

-- that each of these values, from an attribute on, is the current one of an entity
abbrev pub value_needs : ℕ → RelId → EntId → ℕ → List Value → List Need
value_needs item rel ent attr [] = []
value_needs item rel ent attr (v ∷ values) =
    record { part = part.Item item; claim = HasValue rel (record { 0 = attr }) ent v } ∷ value_needs item rel ent
    (attr + 1) values

-- the same for each of these items, which are numbered from one on
abbrev pub item_needs : ℕ → List Current → List Need
item_needs at [] = []
item_needs at (item ∷ items) = value_needs at item.rel item.ent 0 item.values ++ item_needs (at + 1) items

-- that each of these tuples is an answer; they are numbered from one on
abbrev pub answer_needs : ℕ → List (List Value) → List Need
answer_needs at [] = []
answer_needs at (tuple ∷ tuples) = record { part = part.Item at; claim = HasAnswer tuple } ∷ answer_needs (at + 1) tuples

-- what a verdict claims of every consistent completion
abbrev pub needs_of : Question → Verdict → List Need
needs_of (asked.Certain pairs) verdict.Certain = pair_needs pairs
needs_of q (verdict.Same items) = item_needs 0 items
needs_of q (verdict.Answers tuples) = answer_needs 0 tuples
needs_of q v = []

-- ---- units and the empty clause

-- the log has the unit of a claim
abbrev pub IsDerived : List Relation → Log → Need → Type 0
IsDerived relations log need = of need.claim
  where
    of : Claim → Type 0
    of (Holds p) = HasUnit relations log (before p.rel p.pair.attr p.pair.earlier p.pair.later)
    of (HasValue rel attr ent v) = HasLastUnit relations log rel attr ent v
    of (HasAnswer tuple) = HasAnswerUnit relations log tuple

-- a step of the log is the empty clause
abbrev pub HasEmpty : Log → Type 0
HasEmpty log = list_any is_empty (clauses_of log.steps) ≡ true

-- ---- what is listed

-- one of the completions is one in which a pair fails
pub record FailsInOne (p : Asked) (completions : List Rankings) : Type 0 where
  pub rankings : Rankings
  pub listed : Contains completions rankings
  pub fails : PairHolds p rankings → ⊥

-- two of the completions differ at a place
pub record TwoDiffer (relations : List Relation) (rel : RelId) (attr : AttrId) (ent : EntId)
    (completions : List Rankings) : Type 0 where
  pub one : Rankings
  pub other : Rankings
  pub one_listed : Contains completions one
  pub other_listed : Contains completions other
  pub differ : DifferAt relations rel attr ent one other

-- what a verdict asks of the completions and of the log: `inconsistent` the empty clause; each other decided verdict a
-- completion; `certain`, `same` and answers the unit of each claim; answers besides that they are those that the completions
-- have in common; `not certain` a completion in which the pair fails; `not same` two that differ; `undecided` exactly as many
-- counted steps
abbrev pub IsSupported : Spec → Question → Verdict → List Rankings → Log → Type 0
IsSupported s q verdict.Inconsistent completions log = HasEmpty log
IsSupported s q verdict.Consistent completions log = completions ≢ []
IsSupported s q verdict.Certain completions log =
    (completions ≢ []) × All (IsDerived s.relations log) (needs_of q verdict.Certain)
IsSupported s q (verdict.NotCertain p) completions log = FailsInOne p completions
IsSupported s q (verdict.Same items) completions log =
    (completions ≢ []) × All (IsDerived s.relations log) (needs_of q (verdict.Same items))
IsSupported s q (verdict.NotSame rel attr ent) completions log = TwoDiffer s.relations rel attr ent completions
IsSupported s (asked.Answers query) (verdict.Answers tuples) completions log =
    (completions ≢ []) × All (IsDerived s.relations log) (needs_of (asked.Answers query) (verdict.Answers tuples))
    × AreCommon s.relations query tuples completions
IsSupported s q (verdict.Answers tuples) completions log = ⊥
IsSupported s q (verdict.Undecided counted) completions log = counted_steps log.steps ≡ counted
