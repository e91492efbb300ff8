-- Rows of two relations with the same values, of which the same stand before others, satisfy the same rules.
use Rattle.std.proofs.Common.{◌≡◌, ◌<◌, ◌∙◌, ℕ, List, [], Option, length, slice_get, slice_index_or, refl, sym, ap}
use Rattle.currency_base.specs.declared.ids.RowId.{RowId}
use Rattle.currency_base.specs.declared.row.Row.{Row}
use Rattle.currency_base.specs.declared.value.Value.{Value}
use Rattle.currency_base.specs.declared.value.ValueKind.{ValueKind}
use Rattle.denial_rules.specs.Instances.{field_value, operand_value, is_compared}
use Rattle.denial_rules.specs.Rules.{IsPredicate, IsConclusion, IsRuleOn}
use Rattle.denial_rules.specs.declared.rule.Conclusion.{Conclusion}
use Rattle.denial_rules.specs.declared.rule.Conclusion.TheVariants as conclusion
use Rattle.denial_rules.specs.declared.rule.Operand.{Operand}
use Rattle.denial_rules.specs.declared.rule.Operand.TheVariants.{Field, Constant}
use Rattle.denial_rules.specs.declared.rule.Predicate.{Predicate}
use Rattle.denial_rules.specs.declared.rule.Predicate.TheVariants.{Order, Compare}
use Rattle.denial_rules.specs.declared.rule.Rule.{Rule}
use Rattle.spec_model.specs.Satisfies.{Lists, StandsBefore, PredicateHolds, ConclusionHolds, IsSatisfiedBy}

-- rows of a relation, and its lists
pub record Scene : Type 0 where
  pub table : List Row
  pub lists : Lists
  pub rows : List RowId

-- one row of the scene stands before another in an attribute
abbrev pub Stands : Scene → ℕ → ℕ → ℕ → Type 0
Stands a attr x y = StandsBefore (slice_index_or a.lists attr []) (slice_get a.rows x) (slice_get a.rows y)

-- the same values, and the same orders in so many attributes
pub record AreAlike (attrs : ℕ) (a b : Scene) : Type 0 where
  pub value : (var attr : ℕ) → field_value a.table (slice_get a.rows var) attr ≡ field_value b.table (slice_get b.rows var) attr
  pub forth : (attr x y : ℕ) → attr < attrs → Stands a attr x y → Stands b attr x y
  pub back : (attr x y : ℕ) → attr < attrs → Stands b attr x y → Stands a attr x y

pub alike_back : (attrs : ℕ) (a b : Scene) → AreAlike attrs a b → AreAlike attrs b a
alike_back attrs a b are = record { value = λ var attr. sym (are.value var attr); forth = are.back; back = are.forth }

operands : (attrs : ℕ) (a b : Scene) (o : Operand) → AreAlike attrs a b → operand_value a.table a.rows o ≡
    operand_value b.table b.rows o
operands attrs a b (Field var attr) are = are.value var attr.0
operands attrs a b (Constant value) are = refl

predicates : (vars : ℕ) (kinds : List ValueKind) (a b : Scene) (p : Predicate) → AreAlike (length kinds) a b
    → IsPredicate vars kinds p
    → PredicateHolds a.table a.lists a.rows p → PredicateHolds b.table b.lists b.rows p
predicates vars kinds a b (Order atom) are is holds = are.forth atom.attr.0 atom.earlier atom.later is.attr holds
predicates vars kinds a b (Compare left cmp right) are is holds =
    ap (λ (v : Option Value). is_compared v cmp (operand_value b.table b.rows right)) (sym (operands (length kinds) a b left are))
    ∙ (ap (λ (v : Option Value). is_compared (operand_value a.table a.rows left) cmp v)
    (sym (operands (length kinds) a b right are))
    ∙ holds)

conclusions : (vars : ℕ) (kinds : List ValueKind) (a b : Scene) (q : Conclusion) → AreAlike (length kinds) a b
    → IsConclusion vars kinds q
    → ConclusionHolds a.lists a.rows q → ConclusionHolds b.lists b.rows q
conclusions vars kinds a b conclusion.Never are is holds = holds
conclusions vars kinds a b (conclusion.Order atom) are is holds = are.forth atom.attr.0 atom.earlier atom.later is.attr holds

-- where one satisfies a rule the other does
pub satisfied_alike : (kinds : List ValueKind) (rule : Rule) (a b : Scene) → AreAlike (length kinds) a b → IsRuleOn kinds rule
    → IsSatisfiedBy a.table a.lists rule a.rows → IsSatisfiedBy b.table b.lists rule b.rows
satisfied_alike kinds rule a b are is satisfied all =
    let back = alike_back (length kinds) a b are in
    conclusions rule.vars kinds a b rule.conclusion are is.conclusion
    (satisfied (λ at d below. predicates rule.vars kinds b a (slice_index_or rule.predicates at d) back (is.predicates at d below)
    (all at d below)))
