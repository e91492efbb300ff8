-- The rule that a tree says of a specification, or its first fault: first the names that are unknown, in the order of the
-- text, then those that stand twice, then the terms that are of two kinds.
use Rattle.std.specs.Prelude.{ℕ, Bool, true, false, List, [], ◌∷◌, ◌++◌, length, map, Option, Some, None, option_map, is_some, Result, Ok, Err, if◌then◌else◌, slice_get}
use Rattle.currency_base.specs.Values.{kind_of}
use Rattle.currency_base.specs.declared.error_code.ErrorCode.TheVariants.{UnknownName, DuplicateName, Mismatch}
use Rattle.currency_base.specs.declared.value.ValueKind.{ValueKind}
use Rattle.currency_base.specs.declared.value.ValueKind.TheVariants.{Text, Int}
use Rattle.text_grammar.specs.declared.named.Named.{Named}
use Rattle.rule_syntax.specs.declared.trees.RuleTree.{RuleTree}
use Rattle.rule_syntax.specs.declared.trees.PredicateTree.{PredicateTree}
use Rattle.rule_syntax.specs.declared.trees.PredicateTree.TheVariants as predicate_tree
use Rattle.rule_syntax.specs.declared.trees.OrderAtomTree.{OrderAtomTree}
use Rattle.rule_syntax.specs.declared.trees.TermTree.{TermTree}
use Rattle.rule_syntax.specs.declared.trees.TermTree.TheVariants as term_tree
use Rattle.rule_syntax.specs.declared.trees.ConclusionTree.{ConclusionTree}
use Rattle.rule_syntax.specs.declared.trees.ConclusionTree.TheVariants as conclusion_tree
use Rattle.bind_faults.specs.Faults.{refused_at, found_or, and_then, unless, or_else, all_of, first_of}
use Rattle.bind_faults.specs.declared.fault.BindFault.{BindFault}
use Rattle.bind_faults.specs.declared.fault.BindFault.TheVariants.{Refused}
use Rattle.denial_rules.specs.declared.rule.Conclusion.{Conclusion}
use Rattle.denial_rules.specs.declared.rule.Conclusion.TheVariants as conclusion
use Rattle.denial_rules.specs.declared.rule.Operand.{Operand}
use Rattle.denial_rules.specs.declared.rule.Operand.TheVariants as operand
use Rattle.denial_rules.specs.declared.rule.OrderAtom.{OrderAtom}
use Rattle.denial_rules.specs.declared.rule.Predicate.{Predicate}
use Rattle.denial_rules.specs.declared.rule.Predicate.TheVariants as predicate
use Rattle.denial_rules.specs.declared.rule.Rule.{Rule}
use Rattle.spec_model.specs.Spec.{Spec}
use Rattle.spec_model.specs.Facts.{kinds_of}
use Rattle.spec_model.specs.declared.relation.Relation.{Relation}
use Rattle.spec_names.specs.Names.{place_of}

-- ---- names to numbers: `vars` are the names of the rule's variables, `attrs` those of its relation's attributes

-- the place of a name, or the refusal of an unknown one
abbrev pub named_in : List (List ℕ) → Named → Result ℕ BindFault
named_in names named = found_or (place_of names named.name) (refused_at UnknownName named) Ok

-- the order atom that a tree says
abbrev pub atom_of : List (List ℕ) → List (List ℕ) → OrderAtomTree → Result OrderAtom BindFault
atom_of vars attrs tree =
    and_then (named_in vars tree.earlier) (λ earlier. and_then (named_in vars tree.later) (λ later.
    and_then (named_in attrs tree.attr) (λ attr. Ok record { earlier = earlier; later = later; attr = record { 0 = attr } })))

-- the field that a variable and an attribute say
abbrev pub field_of : List (List ℕ) → List (List ℕ) → Named → Named → Result Operand BindFault
field_of vars attrs var attr =
    and_then (named_in vars var) (λ v. and_then (named_in attrs attr) (λ a. Ok (operand.Field v (record { 0 = a }))))

-- the operand that a term says
abbrev pub operand_of : List (List ℕ) → List (List ℕ) → TermTree → Result Operand BindFault
operand_of vars attrs (term_tree.Field var attr) = field_of vars attrs var attr
operand_of vars attrs (term_tree.Constant constant) = Ok (operand.Constant constant.value)

-- the predicate that a tree says
abbrev pub predicate_of : List (List ℕ) → List (List ℕ) → PredicateTree → Result Predicate BindFault
predicate_of vars attrs (predicate_tree.Order tree) = and_then (atom_of vars attrs tree) (λ atom. Ok (predicate.Order atom))
predicate_of vars attrs (predicate_tree.Compare left cmp right) =
    and_then (operand_of vars attrs left) (λ l. and_then (operand_of vars attrs right) (λ r. Ok (predicate.Compare l cmp r)))

-- the conclusion that a tree says
abbrev pub conclusion_of : List (List ℕ) → List (List ℕ) → ConclusionTree → Result Conclusion BindFault
conclusion_of vars attrs conclusion_tree.Never = Ok conclusion.Never
conclusion_of vars attrs (conclusion_tree.Order tree) = and_then (atom_of vars attrs tree) (λ atom. Ok (conclusion.Order atom))

-- ---- names that stand twice

-- the refusal of a name that is one of these
abbrev pub taken : List (List ℕ) → Named → Option BindFault
taken names named = option_map (λ place. refused_at DuplicateName named) (place_of names named.name)

-- the names with one more, unless it is there already
abbrev pub with_name : List (List ℕ) → List ℕ → List (List ℕ)
with_name names name = if is_some (place_of names name) then names else names ++ name ∷ []

-- the refusal of the first variable that stands before itself, or among the names before the list
abbrev pub repeated : List (List ℕ) → List Named → Option BindFault
repeated before [] = None
repeated before (named ∷ more) = or_else (taken before named) (repeated (with_name before named.name) more)

-- ---- terms of two kinds

-- the kind that stands at a place
abbrev pub kind_at : List ValueKind → Option ℕ → Option ValueKind
kind_at kinds None = None
kind_at kinds (Some place) = slice_get kinds place

-- the kind of a term, where its attribute is there
abbrev pub term_kind : List (List ℕ) → List ValueKind → TermTree → Option ValueKind
term_kind attrs kinds (term_tree.Field var attr) = kind_at kinds (place_of attrs attr.name)
term_kind attrs kinds (term_tree.Constant constant) = Some (kind_of constant.value)

-- two kinds, and not one
abbrev pub differ : Option ValueKind → Option ValueKind → Bool
differ (Some Text) (Some Int) = true
differ (Some Int) (Some Text) = true
differ a b = false

-- the line of a term's first token
abbrev pub line_of : TermTree → ℕ
line_of (term_tree.Field var attr) = var.line
line_of (term_tree.Constant constant) = constant.line

-- the refusal of a comparison of two kinds, at its left term
abbrev pub mismatch : List (List ℕ) → List ValueKind → PredicateTree → Option BindFault
mismatch attrs kinds (predicate_tree.Order tree) = None
mismatch attrs kinds (predicate_tree.Compare left cmp right) =
    if differ (term_kind attrs kinds left) (term_kind attrs kinds right)
    then Some (Refused record { code = Mismatch; document = None; line = line_of left })
    else None

-- ---- the rule

-- the names of the listed variables after those before the list, each where it stands first. A variable's number is its
-- place in these
abbrev pub names_of_vars : List (List ℕ) → List Named → List (List ℕ)
names_of_vars before [] = before
names_of_vars before (named ∷ more) = names_of_vars (with_name before named.name) more

-- the names of the attributes of a relation
abbrev pub names_of_attrs : Relation → List (List ℕ)
names_of_attrs r = map (λ a. a.name) r.attrs

-- what is refused once every name is known, where earlier rules have these names: the rule's own name where it is one of
-- them, then a variable that is listed twice, then a comparison of two kinds
abbrev pub refused_later : List (List ℕ) → Relation → RuleTree → Option BindFault
refused_later rules r tree =
    or_else (taken rules tree.name)
    (or_else (repeated [] tree.vars) (first_of (mismatch (names_of_attrs r) (kinds_of r)) tree.predicates))

-- the rule of these parts
abbrev pub rule_of : RuleTree → ℕ → List Predicate → Conclusion → Rule
rule_of tree rel predicates conclusion = record {
  name = tree.name.name;
  relation = record { 0 = rel };
  vars = length tree.vars;
  predicates = predicates;
  conclusion = conclusion;
}

-- the rule that a tree says of the relation at a place, where earlier rules have these names
unfoldable pub ruled_on : List (List ℕ) → ℕ → Relation → RuleTree → Result Rule BindFault
ruled_on rules rel r tree =
    and_then (all_of (predicate_of (names_of_vars [] tree.vars) (names_of_attrs r)) tree.predicates) (λ predicates.
    and_then (conclusion_of (names_of_vars [] tree.vars) (names_of_attrs r) tree.conclusion) (λ conclusion.
    unless (refused_later rules r tree) (Ok (rule_of tree rel predicates conclusion))))

-- the same, where a relation is there
abbrev pub ruled_at : List (List ℕ) → ℕ → Option Relation → RuleTree → Result Rule BindFault
ruled_at rules rel None tree = Err (refused_at UnknownName tree.relation)
ruled_at rules rel (Some r) tree = ruled_on rules rel r tree

-- the rule that a tree says of a specification: an unknown relation is refused first
unfoldable pub ruled : Spec → RuleTree → Result Rule BindFault
ruled s tree =
    and_then (named_in (map (λ r. r.name) s.relations) tree.relation)
    (λ rel. ruled_at (map (λ rule. rule.name) s.rules) rel (slice_get s.relations rel) tree)
