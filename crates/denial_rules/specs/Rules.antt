-- Rules that fit a relation, and rows that can be taken for their variables.
use Rattle.std.specs.Prelude.{◌≡◌, ◌<◌, ◌≤◌, ℕ, List, length, All, Option, Some, slice_get}
use Rattle.currency_base.specs.Values.{kind_of}
use Rattle.currency_base.specs.declared.value.ValueKind.{ValueKind}
use Rattle.denial_rules.specs.declared.rule.Conclusion.{Conclusion}
use Rattle.denial_rules.specs.declared.rule.Conclusion.TheVariants as conclusion
use Rattle.denial_rules.specs.declared.rule.Operand.{Operand}
use Rattle.denial_rules.specs.declared.rule.Operand.TheVariants.{Field, Constant}
use Rattle.denial_rules.specs.declared.rule.OrderAtom.{OrderAtom}
use Rattle.denial_rules.specs.declared.rule.Predicate.{Predicate}
use Rattle.denial_rules.specs.declared.rule.Predicate.TheVariants.{Order, Compare}
use Rattle.denial_rules.specs.declared.rule.Rule.{Rule}

-- the kind of an operand in a relation whose attributes have these kinds, where its attribute is there
abbrev pub operand_kind : List ValueKind → Operand → Option ValueKind
operand_kind kinds (Field var attr) = slice_get kinds attr.0
operand_kind kinds (Constant value) = Some (kind_of value)

-- an operand of a variable below the bound
abbrev pub IsOperand : ℕ → Operand → Type 0
IsOperand vars (Field var attr) = var < vars
IsOperand vars (Constant value) = Unit {0}

-- an order atom of variables below the bound and of an attribute
pub record IsAtom (vars : ℕ) (kinds : List ValueKind) (atom : OrderAtom) : Type 0 where
  pub earlier : atom.earlier < vars
  pub later : atom.later < vars
  pub attr : atom.attr.0 < length kinds

-- two operands of one kind
pub record AreComparable (vars : ℕ) (kinds : List ValueKind) (left right : Operand) : Type 0 where
  pub left_is : IsOperand vars left
  pub right_is : IsOperand vars right
  pub kind : ValueKind
  pub left_kind : operand_kind kinds left ≡ Some kind
  pub right_kind : operand_kind kinds right ≡ Some kind

-- a predicate of variables below the bound and of attributes of these kinds
abbrev pub IsPredicate : ℕ → List ValueKind → Predicate → Type 0
IsPredicate vars kinds (Order atom) = IsAtom vars kinds atom
IsPredicate vars kinds (Compare left cmp right) = AreComparable vars kinds left right

-- a conclusion of variables below the bound and of attributes of these kinds
abbrev pub IsConclusion : ℕ → List ValueKind → Conclusion → Type 0
IsConclusion vars kinds conclusion.Never = Unit {0}
IsConclusion vars kinds (conclusion.Order atom) = IsAtom vars kinds atom

-- a rule on a relation whose attributes have these kinds: of one to four variables and at most sixteen predicates
pub record IsRuleOn (kinds : List ValueKind) (rule : Rule) : Type 0 where
  pub some_var : 0 < rule.vars
  pub few_vars : rule.vars ≤ 4
  pub few_predicates : length rule.predicates ≤ 16
  pub predicates : All (IsPredicate rule.vars kinds) rule.predicates
  pub conclusion : IsConclusion rule.vars kinds rule.conclusion
