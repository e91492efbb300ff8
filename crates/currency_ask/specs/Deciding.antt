-- What is kept while the goals of a question are decided.
use Rattle.std.specs.Prelude.{◌≡◌, ◌+◌, ◌<◌, ◌≤◌, ℕ, All, List, Option, Some, length, map, slice_get, take, unwrap_or}
use Rattle.currency_base.specs.declared.ids.RelId.{RelId}
use Rattle.spec_model.specs.Completion.{Rankings}
use Rattle.spec_model.specs.Questions.{IsAskedPair}
use Rattle.spec_model.specs.Spec.{Spec}
use Rattle.spec_model.specs.declared.question.Asked.{Asked}
use Rattle.refutation_log.specs.Counted.{counted_steps}
use Rattle.order_search.specs.Searches.{Search}
use Rattle.report_verify.specs.Right.{EachConsistent, PairHolds}
use Rattle.current_claims.specs.Claims.{AreClaimsOf}
use Rattle.currency_ask.specs.Goals.{AreProved, TellsGoals}
use Rattle.currency_ask.specs.declared.currents.AskedValues.{AskedValues}
use Rattle.currency_ask.specs.declared.deciding.Decided.{Decided}
use Rattle.currency_ask.specs.declared.goal.Goal.{Goal}
use Rattle.currency_ask.specs.declared.goal.Goal.TheVariants.{Pair, Current}

-- the pair at a place fails in a completion
pub record FailsFirst (pairs : List Asked) (c : Rankings) (place : ℕ) : Type 0 where
  pub within : place < length pairs
  pub fails : (p : Asked) → slice_get pairs place ≡ Some p → PairHolds p c → ⊥

-- the goals are the pairs before a place, or all of them
abbrev pub AreFirstPairs : List Asked → Option ℕ → List Goal → Type 0
AreFirstPairs pairs failing goals = goals ≡ map Pair (take (unwrap_or failing (length pairs)) pairs)

-- pairs that a search has proved hold in every consistent completion
abbrev pub ProvedHold : Search → Type 0
ProvedHold search =
    (pairs : List Asked) (steps : List ℕ) → All (IsAskedPair search.spec.relations) pairs → AreProved search
    (map Pair pairs) steps
    → All (λ p. EachConsistent search.spec (PairHolds p)) pairs

-- goals were decided, within a budget
pub record HasDecided (search : Search) (goals : List Goal) (budget : ℕ) (decided : Decided) : Type 0 where
  pub left : ℕ
  pub units : counted_steps search.log.steps + left ≡ budget
  pub comes_to : TellsGoals search goals left decided

-- the values are those of a completion, which are few enough to be listed, and the goals are that they are current
pub record AreValuesIn (s : Spec) (rels : List RelId) (c : Rankings) (v : AskedValues) : Type 0 where
  pub claims : AreClaimsOf s.relations rels c v.claims
  pub few : length v.claims.items ≤ 4294967294
  pub goals : v.goals ≡ map Current v.claims.rows
