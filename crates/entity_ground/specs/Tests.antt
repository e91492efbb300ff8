-- What a choice of rows is tested for, and when enough of its rows are known.
use Rattle.std.specs.Prelude.{◌+◌, ◌==◌, ◌||◌, ℕ, Bool, not, max, nat_lt, List, is_some}
use Rattle.std.specs.List.{list_all}
use Rattle.currency_base.specs.declared.ids.RowId.{RowId}
use Rattle.currency_base.specs.declared.row.Row.{Row}
use Rattle.currency_base.specs.declared.value.ValueKind.{ValueKind}
use Rattle.denial_rules.specs.Instances.{atom_pair, is_compared, operand_value}
use Rattle.denial_rules.specs.Rules.{IsRuleOn}
use Rattle.denial_rules.specs.declared.rule.Operand.{Operand}
use Rattle.denial_rules.specs.declared.rule.Operand.TheVariants.{Field, Constant}
use Rattle.denial_rules.specs.declared.rule.Predicate.{Predicate}
use Rattle.denial_rules.specs.declared.rule.Predicate.TheVariants.{Order, Compare}
use Rattle.denial_rules.specs.declared.rule.Rule.{Rule}

-- of how many of the first variables an operand needs the rows
abbrev pub operand_needs : Operand → ℕ
operand_needs (Field var attr) = var + 1
operand_needs (Constant value) = 0

-- of how many of the first variables a predicate needs the rows
abbrev pub needs : Predicate → ℕ
needs (Order atom) = max (atom.earlier + 1) (atom.later + 1)
needs (Compare left cmp right) = max (operand_needs left) (operand_needs right)

-- the comparison holds, or the order atom has two rows
abbrev pub passes : List Row → List RowId → Predicate → Bool
passes table rows (Order atom) = is_some (atom_pair rows atom)
passes table rows (Compare left cmp right) = is_compared (operand_value table rows left) cmp (operand_value table rows right)

-- all predicates pass that need the rows of just so many variables
abbrev pub passes_at : ℕ → Rule → List Row → List RowId → Bool
passes_at depth rule table rows = list_all (λ p. not (needs p == depth) || passes table rows p) rule.predicates

-- all predicates pass that need the rows of so many variables or more
abbrev pub passes_from : ℕ → Rule → List Row → List RowId → Bool
passes_from depth rule table rows = list_all (λ p. nat_lt (needs p) depth || passes table rows p) rule.predicates

-- a rule whose variables and predicates fit some relation
pub record IsFitting (rule : Rule) : Type 0 where
  pub kinds : List ValueKind
  pub fits : IsRuleOn kinds rule
