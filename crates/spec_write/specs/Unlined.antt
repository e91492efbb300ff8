-- Trees without their lines: every line is 0.
use Rattle.std.specs.Prelude.{map, option_map}
use Rattle.text_grammar.specs.declared.named.Const.{Const}
use Rattle.text_grammar.specs.declared.named.Named.{Named}
use Rattle.text_grammar.specs.declared.named.NamedPair.{NamedPair}
use Rattle.rule_syntax.specs.declared.trees.ConclusionTree.{ConclusionTree}
use Rattle.rule_syntax.specs.declared.trees.ConclusionTree.TheVariants as conclusion
use Rattle.rule_syntax.specs.declared.trees.OrderAtomTree.{OrderAtomTree}
use Rattle.rule_syntax.specs.declared.trees.PredicateTree.{PredicateTree}
use Rattle.rule_syntax.specs.declared.trees.PredicateTree.TheVariants as predicate
use Rattle.rule_syntax.specs.declared.trees.RuleTree.{RuleTree}
use Rattle.rule_syntax.specs.declared.trees.TermTree.{TermTree}
use Rattle.rule_syntax.specs.declared.trees.TermTree.TheVariants.{Field, Constant}
use Rattle.copy_syntax.specs.declared.trees.CopyTree.{CopyTree}
use Rattle.copy_syntax.specs.declared.trees.Mappings.{Mappings}
use Rattle.copy_syntax.specs.declared.trees.Mappings.TheVariants.{Inline, Table}
use Rattle.spec_syntax.specs.declared.trees.AttrTree.{AttrTree}
use Rattle.spec_syntax.specs.declared.trees.OrderingTree.{OrderingTree}
use Rattle.spec_syntax.specs.declared.trees.SpecTree.{SpecTree}
use Rattle.spec_syntax.specs.declared.trees.StatementTree.{StatementTree}
use Rattle.spec_syntax.specs.declared.trees.StatementTree.TheVariants.{Relation, Order, Orders, Rule, Copy}

-- a name
abbrev pub unlined_name : Named → Named
unlined_name n = record { name = n.name; line = 0 }

-- a constant
abbrev pub unlined_const : Const → Const
unlined_const c = record { value = c.value; line = 0 }

-- an attribute
abbrev pub unlined_attr : AttrTree → AttrTree
unlined_attr a = record { name = unlined_name a.name; kind = a.kind }

-- two names
abbrev pub unlined_pair : NamedPair → NamedPair
unlined_pair p = record { first = unlined_name p.first; second = unlined_name p.second }

-- an ordering
abbrev pub unlined_ordering : OrderingTree → OrderingTree
unlined_ordering o = record { relation = unlined_name o.relation; attr = unlined_name o.attr; pairs = map unlined_pair o.pairs }

-- an order atom
abbrev pub unlined_atom : OrderAtomTree → OrderAtomTree
unlined_atom a = record { earlier = unlined_name a.earlier; later = unlined_name a.later; attr = unlined_name a.attr }

-- a term
abbrev pub unlined_term : TermTree → TermTree
unlined_term (Field var attr) = Field (unlined_name var) (unlined_name attr)
unlined_term (Constant c) = Constant (unlined_const c)

-- a predicate
abbrev pub unlined_predicate : PredicateTree → PredicateTree
unlined_predicate (predicate.Order atom) = predicate.Order (unlined_atom atom)
unlined_predicate (predicate.Compare left cmp right) = predicate.Compare (unlined_term left) cmp (unlined_term right)

-- a conclusion
abbrev pub unlined_conclusion : ConclusionTree → ConclusionTree
unlined_conclusion conclusion.Never = conclusion.Never
unlined_conclusion (conclusion.Order atom) = conclusion.Order (unlined_atom atom)

-- a rule
abbrev pub unlined_rule : RuleTree → RuleTree
unlined_rule r = record {
  name = unlined_name r.name;
  relation = unlined_name r.relation;
  vars = map unlined_name r.vars;
  predicates = map unlined_predicate r.predicates;
  conclusion = unlined_conclusion r.conclusion;
}

-- mappings
abbrev pub unlined_mappings : Mappings → Mappings
unlined_mappings (Inline pairs) = Inline (map unlined_pair pairs)
unlined_mappings (Table document) = Table (unlined_name document)

-- a copy
abbrev pub unlined_copy : CopyTree → CopyTree
unlined_copy c = record {
  name = unlined_name c.name;
  target = unlined_name c.target;
  target_attrs = map unlined_name c.target_attrs;
  source = unlined_name c.source;
  source_attrs = map unlined_name c.source_attrs;
  mappings = unlined_mappings c.mappings;
}

-- a statement
abbrev pub unlined_statement : StatementTree → StatementTree
unlined_statement (Relation name document row entity attrs) =
    Relation (unlined_name name) (unlined_name document) (option_map unlined_name row) (unlined_name entity)
    (map unlined_attr attrs)
unlined_statement (Order ordering) = Order (unlined_ordering ordering)
unlined_statement (Orders relation document) = Orders (unlined_name relation) (unlined_name document)
unlined_statement (Rule rule) = Rule (unlined_rule rule)
unlined_statement (Copy copy) = Copy (unlined_copy copy)

-- a specification
abbrev pub unlined_spec : SpecTree → SpecTree
unlined_spec spec = record { statements = map unlined_statement spec.statements }
