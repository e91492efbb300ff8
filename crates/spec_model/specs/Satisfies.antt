-- When a completion satisfies a rule.
use Rattle.std.specs.Prelude.{◌≡◌, ◌⊎◌, ◌<◌, ℕ, true, List, [], ◌∷◌, length, All, Option, Some, slice_get, slice_index_or}
use Rattle.currency_base.specs.declared.ids.RowId.{RowId}
use Rattle.currency_base.specs.declared.row.Row.{Row}
use Rattle.denial_rules.specs.Instances.{operand_value, is_compared}
use Rattle.denial_rules.specs.declared.rule.Conclusion.{Conclusion}
use Rattle.denial_rules.specs.declared.rule.Conclusion.TheVariants as conclusion
use Rattle.denial_rules.specs.declared.rule.OrderAtom.{OrderAtom}
use Rattle.denial_rules.specs.declared.rule.Predicate.{Predicate}
use Rattle.denial_rules.specs.declared.rule.Predicate.TheVariants.{Order, Compare}
use Rattle.denial_rules.specs.declared.rule.Rule.{Rule}
use Rattle.partial_orders.specs.Pairs.{entity_of}
use Rattle.spec_model.specs.Completion.{Before}

-- the lists of a relation: per attribute and entity
abbrev pub Lists : Type 0
Lists = List (List (List RowId))

-- one row for each of so many variables, all of one entity and not necessarily different rows
pub record IsChoice (table : List Row) (vars : ℕ) (rows : List RowId) : Type 0 where
  pub one_each : length rows ≡ vars
  pub ent : ℕ
  pub of_entity : All (λ row. entity_of table row.0 ≡ Some ent) rows

-- the first of two rows stands before the second
abbrev pub StandsBefore : List (List RowId) → Option RowId → Option RowId → Type 0
StandsBefore lists (Some earlier) (Some later) = Before lists earlier later
StandsBefore lists earlier later = ⊥

-- the row of the atom's earlier variable stands before that of its later one, in the atom's attribute
abbrev pub AtomHolds : Lists → List RowId → OrderAtom → Type 0
AtomHolds lists rows atom = StandsBefore (slice_index_or lists atom.attr.0 []) (slice_get rows atom.earlier)
    (slice_get rows atom.later)

-- a predicate holds of the rows that are taken for the variables
abbrev pub PredicateHolds : List Row → Lists → List RowId → Predicate → Type 0
PredicateHolds table lists rows (Order atom) = AtomHolds lists rows atom
PredicateHolds table lists rows (Compare left cmp right) = is_compared (operand_value table rows left) cmp
    (operand_value table rows right) ≡ true

-- the conclusion holds of the rows that are taken for the variables; `false` never does
abbrev pub ConclusionHolds : Lists → List RowId → Conclusion → Type 0
ConclusionHolds lists rows conclusion.Never = ⊥
ConclusionHolds lists rows (conclusion.Order atom) = AtomHolds lists rows atom

-- if all predicates hold of the rows, the conclusion does
abbrev pub IsSatisfiedBy : List Row → Lists → Rule → List RowId → Type 0
IsSatisfiedBy table lists rule rows = All (PredicateHolds table lists rows) rule.predicates → ConclusionHolds lists
    rows rule.conclusion

-- a rule is satisfied: for every choice of one row per variable, all of one entity, the conclusion holds if all
-- predicates do
abbrev pub SatisfiesRule : List Row → Lists → Rule → Type 0
SatisfiesRule table lists rule = (rows : List RowId) → IsChoice table rule.vars rows → IsSatisfiedBy table lists rule rows

-- rows for which all predicates hold and the conclusion does not
pub record IsBrokenBy (table : List Row) (lists : Lists) (rule : Rule) (rows : List RowId) : Type 0 where
  pub choice : IsChoice table rule.vars rows
  pub predicates : All (PredicateHolds table lists rows) rule.predicates
  pub conclusion : ConclusionHolds lists rows rule.conclusion → ⊥

-- of two lists of rows, the first stands before the second: by the first place where they differ
abbrev pub AreRowsBefore : List RowId → List RowId → Type 0
AreRowsBefore [] rows = ⊥
AreRowsBefore (r ∷ rs) [] = ⊥
AreRowsBefore (r ∷ rs) (s ∷ ss) = (r.0 < s.0) ⊎ ((r ≡ s) × AreRowsBefore rs ss)
