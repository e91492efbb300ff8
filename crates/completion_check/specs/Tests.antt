-- What the places of rows say of a rule, for rows that are taken for its variables: tests that stand for the definition.
use Rattle.std.specs.Prelude.{ℕ, ◌&&◌, Bool, false, not, nat_lt, max, List, [], Option, Some, slice_get, slice_index, slice_index_or}
use Rattle.std.specs.List.{list_all}
use Rattle.currency_base.specs.declared.ids.RowId.{RowId}
use Rattle.currency_base.specs.declared.row.Row.{Row}
use Rattle.denial_rules.specs.Instances.{operand_value, is_compared}
use Rattle.denial_rules.specs.declared.rule.Conclusion.{Conclusion}
use Rattle.denial_rules.specs.declared.rule.Conclusion.TheVariants as conclusion
use Rattle.denial_rules.specs.declared.rule.Operand.{Operand}
use Rattle.denial_rules.specs.declared.rule.Operand.TheVariants.{Field, Constant}
use Rattle.denial_rules.specs.declared.rule.OrderAtom.{OrderAtom}
use Rattle.denial_rules.specs.declared.rule.Predicate.{Predicate}
use Rattle.denial_rules.specs.declared.rule.Predicate.TheVariants.{Order, Compare}
use Rattle.denial_rules.specs.declared.rule.Rule.{Rule}

-- the places of a relation's rows: per attribute, and in it per row
abbrev pub Places : Type 0
Places = List (List ℕ)

-- the first of two rows has the smaller place
abbrev pub is_before : List ℕ → Option RowId → Option RowId → Bool
is_before places (Some earlier) (Some later) = nat_lt (slice_index places earlier.0) (slice_index places later.0)
is_before places earlier later = false

-- the row of the atom's earlier variable has the smaller place in its attribute
abbrev pub atom_test : Places → List RowId → OrderAtom → Bool
atom_test places rows atom = is_before (slice_index_or places atom.attr.0 []) (slice_get rows atom.earlier)
    (slice_get rows atom.later)

-- the predicate holds
abbrev pub predicate_test : List Row → Places → List RowId → Predicate → Bool
predicate_test table places rows (Order atom) = atom_test places rows atom
predicate_test table places rows (Compare left cmp right) = is_compared (operand_value table rows left) cmp
    (operand_value table rows right)

-- the conclusion holds
abbrev pub conclusion_test : Places → List RowId → Conclusion → Bool
conclusion_test places rows conclusion.Never = false
conclusion_test places rows (conclusion.Order atom) = atom_test places rows atom

-- the rows break the rule: all predicates hold, and the conclusion does not
unfoldable pub breaks : List Row → Places → Rule → List RowId → Bool
breaks table places rule rows = list_all (predicate_test table places rows) rule.predicates
    && not (conclusion_test places rows rule.conclusion)

-- the variable of an operand, and 0 for a constant
abbrev pub operand_var : Operand → ℕ
operand_var (Field var attr) = var
operand_var (Constant value) = 0

-- the greatest variable of a predicate, and 0 where it has none
abbrev pub last_var : Predicate → ℕ
last_var (Order atom) = max atom.earlier atom.later
last_var (Compare left cmp right) = max (operand_var left) (operand_var right)
