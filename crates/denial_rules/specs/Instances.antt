-- What a rule says of rows that are taken for its variables, the place of a row in the list being the variable's number.
use Rattle.std.specs.Prelude.{◌==◌, ℕ, Bool, true, false, List, [], ◌∷◌, Option, Some, None, option_map, if◌then◌else◌, slice_get}
use Rattle.std.specs.List.{list_all}
use Rattle.currency_base.specs.Values.{value_test}
use Rattle.currency_base.specs.declared.ids.AttrId.{AttrId}
use Rattle.currency_base.specs.declared.ids.RowId.{RowId}
use Rattle.currency_base.specs.declared.pair.Pair.{Pair}
use Rattle.currency_base.specs.declared.row.Row.{Row}
use Rattle.currency_base.specs.declared.value.Cmp.{Cmp}
use Rattle.currency_base.specs.declared.value.Value.{Value}
use Rattle.denial_rules.specs.declared.rule.Conclusion.{Conclusion}
use Rattle.denial_rules.specs.declared.rule.Conclusion.TheVariants as conclusion
use Rattle.denial_rules.specs.declared.rule.Operand.{Operand}
use Rattle.denial_rules.specs.declared.rule.Operand.TheVariants.{Field, Constant}
use Rattle.denial_rules.specs.declared.rule.OrderAtom.{OrderAtom}
use Rattle.denial_rules.specs.declared.rule.Predicate.{Predicate}
use Rattle.denial_rules.specs.declared.rule.Predicate.TheVariants.{Order, Compare}
use Rattle.denial_rules.specs.declared.rule.Rule.{Rule}
use Rattle.denial_rules.specs.declared.instance.RuleInstance.{RuleInstance}

-- ---- comparisons

-- the value of an attribute in a row, if there is one
abbrev pub value_in : Option Row → ℕ → Option Value
value_in None attr = None
value_in (Some r) attr = slice_get r.values attr

-- the value of an attribute in the row of that number, if there is one
abbrev pub field_value : List Row → Option RowId → ℕ → Option Value
field_value table None attr = None
field_value table (Some row) attr = value_in (slice_get table row.0) attr

-- the value of an operand, if it has one
abbrev pub operand_value : List Row → List RowId → Operand → Option Value
operand_value table rows (Field var attr) = field_value table (slice_get rows var) attr.0
operand_value table rows (Constant value) = Some value

-- a comparison of two values holds; where one is missing it does not
abbrev pub is_compared : Option Value → Cmp → Option Value → Bool
is_compared (Some a) cmp (Some b) = value_test cmp a b
is_compared a cmp b = false

-- the predicate holds, if it is a comparison
abbrev pub comparison_holds : List Row → List RowId → Predicate → Bool
comparison_holds table rows (Order atom) = true
comparison_holds table rows (Compare left cmp right) = is_compared (operand_value table rows left) cmp
    (operand_value table rows right)

-- every comparison of a rule holds
abbrev pub values_hold : Rule → List Row → List RowId → Bool
values_hold rule table rows = list_all (comparison_holds table rows) rule.predicates

-- ---- order atoms

-- two rows as a pair of an attribute, where they are two
abbrev pub pair_at : AttrId → Option RowId → Option RowId → Option Pair
pair_at attr (Some earlier) (Some later) =
    if earlier.0 == later.0 then None else Some record { attr = attr; earlier = earlier; later = later }
pair_at attr earlier later = None

-- the pair that an order atom says, unless it has one row twice
abbrev pub atom_pair : List RowId → OrderAtom → Option Pair
atom_pair rows atom = pair_at atom.attr (slice_get rows atom.earlier) (slice_get rows atom.later)

-- one more pair at the front, where all are there
abbrev pub pair_and : Option Pair → Option (List Pair) → Option (List Pair)
pair_and (Some p) (Some ps) = Some (p ∷ ps)
pair_and p ps = None

-- the pairs that the order predicates say, unless one of them has one row twice
abbrev pub premises_of : List RowId → List Predicate → Option (List Pair)
premises_of rows [] = Some []
premises_of rows (Order atom ∷ more) = pair_and (atom_pair rows atom) (premises_of rows more)
premises_of rows (Compare left cmp right ∷ more) = premises_of rows more

-- the pair that a rule concludes, unless it concludes what never holds or has one row twice
abbrev pub concluded : List RowId → Conclusion → Option Pair
concluded rows conclusion.Never = None
concluded rows (conclusion.Order atom) = atom_pair rows atom

-- the instance of a rule for these rows. There is none where a comparison fails, or an order predicate has one row twice
abbrev pub instance_of : Rule → List Row → List RowId → Option RuleInstance
instance_of rule table rows =
    if values_hold rule table rows
    then option_map (λ premises. record { premises = premises; conclusion = concluded rows rule.conclusion })
    (premises_of rows rule.predicates)
    else None
