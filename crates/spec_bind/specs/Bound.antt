-- What a specification's statements and tables say: a relation between trees, documents and specifications.
use Rattle.std.specs.Prelude.{◌≡◌, ◌⊎◌, ℕ, List, [], ◌∷◌, Result, Ok, Err, MatchResult}
use Rattle.copy_functions.specs.Copies.{CopyFunction}
use Rattle.spec_model.specs.Spec.{Spec}
use Rattle.spec_model.specs.declared.relation.Relation.{Relation}
use Rattle.text_grammar.specs.declared.named.Named.{Named}
use Rattle.copy_syntax.specs.declared.trees.CopyTree.{CopyTree}
use Rattle.spec_syntax.specs.declared.trees.OrderingTree.{OrderingTree}
use Rattle.spec_syntax.specs.declared.trees.SpecTree.{SpecTree}
use Rattle.spec_syntax.specs.declared.trees.StatementTree.{StatementTree}
use Rattle.spec_syntax.specs.declared.trees.StatementTree.TheVariants as statement
use Rattle.rule_syntax.specs.declared.trees.RuleTree.{RuleTree}
use Rattle.relation_bind.specs.Declarations.{Declared}
use Rattle.relation_bind.specs.Relations.{IsDeclared, IsTableOf}
use Rattle.order_bind.specs.Orders.{ordered}
use Rattle.order_bind.specs.TableOrders.{IsOrdersMade, IsOrdersTable}
use Rattle.rule_bind.specs.Ruled.{ruled}
use Rattle.copy_bind.specs.Made.{IsCopyMade, IsCopyTable}
use Rattle.bound_spec.specs.Growth.{nothing, relation_names, with_relation, with_rule, with_copy, limited, limited_at_last}
use Rattle.bind_faults.specs.Faults.{and_then}
use Rattle.bind_faults.specs.declared.fault.BindFault.{BindFault}

-- ---- statements

-- what a declaration makes of what was declared before it
abbrev pub IsRelationMade : List (List ℕ × List ℕ) → Spec → Declared → Result Spec BindFault → Type 0
IsRelationMade told done d made =
    (relation : Result Relation BindFault) × IsDeclared told (relation_names done) d relation
    × (made ≡ and_then relation (λ r. Ok (with_relation done r)))

-- the specification with other given pairs at its relations
abbrev pub with_relations : Spec → Result (List Relation) BindFault → Result Spec BindFault
with_relations done relations = and_then relations (λ rs. Ok (record done { relations = rs }))

-- what an ordering makes of it
abbrev pub after_order : Spec → OrderingTree → Result Spec BindFault
after_order done o = with_relations done (ordered done.relations o)

-- what a table of given pairs makes of it
abbrev pub IsTableMade : List (List ℕ × List ℕ) → Spec → Named → Named → Result Spec BindFault → Type 0
IsTableMade told done relation doc made =
    (relations : Result (List Relation) BindFault) × IsOrdersMade told done.relations relation doc relations ×
    (made ≡ with_relations done relations)

-- what a rule makes of it
abbrev pub after_rule : Spec → RuleTree → Result Spec BindFault
after_rule done t = and_then (ruled done t) (λ rule. Ok (with_rule done rule))

-- what a copy makes of it
abbrev pub IsCopyingMade : List (List ℕ × List ℕ) → Spec → CopyTree → Result Spec BindFault → Type 0
IsCopyingMade told done t made =
    (copy : Result CopyFunction BindFault) × IsCopyMade told done t copy × (made ≡ and_then copy (λ c. Ok (with_copy done c)))

-- what a statement makes of what was declared before it, given the told documents: more relations, given pairs, rules or
-- copy functions, or the first check that fails
abbrev pub IsMade : List (List ℕ × List ℕ) → Spec → StatementTree → Result Spec BindFault → Type 0
IsMade told done (statement.Relation name doc row entity attrs) made =
    IsRelationMade told done (record { name = name; document = doc; row = row; entity = entity; attrs = attrs }) made
IsMade told done (statement.Order o) made = made ≡ after_order done o
IsMade told done (statement.Orders relation doc) made = IsTableMade told done relation doc made
IsMade told done (statement.Rule t) made = made ≡ after_rule done t
IsMade told done (statement.Copy t) made = IsCopyingMade told done t made

-- what something makes, unless that exceeds one of limits 4 to 9
abbrev pub IsLimited : (Result Spec BindFault → Type 0) → Result Spec BindFault → Type 0
IsLimited makes step = (made : Result Spec BindFault) × makes made × (step ≡ and_then made limited)

-- what a statement makes, unless that exceeds a limit
abbrev pub IsStep : List (List ℕ × List ℕ) → Spec → StatementTree → Result Spec BindFault → Type 0
IsStep told done s = IsLimited (IsMade told done s)

-- what statements make of what was declared before them: each whole before the next, up to the first that is refused
abbrev pub IsBound : List (List ℕ × List ℕ) → Spec → List StatementTree → Result Spec BindFault → Type 0
IsBound told done [] outcome = outcome ≡ Ok done
IsBound told done (s ∷ rest) outcome = (step : Result Spec BindFault) × IsStep told done s step
    × MatchResult step (λ next. IsBound told next rest outcome) (λ fault. outcome ≡ Err fault)

-- what a tree says: what its statements make of nothing, unless that exceeds limit 10 or 11
abbrev pub IsSpecBound : List (List ℕ × List ℕ) → SpecTree → Result Spec BindFault → Type 0
IsSpecBound told tree outcome =
    (bound : Result Spec BindFault) × IsBound told nothing tree.statements bound × (outcome ≡ and_then bound limited_at_last)

-- ---- tables

-- what stands before a statement's table in its checks is right, and the table is the document of this name
abbrev pub ReadsTableOf : Spec → StatementTree → List ℕ → Type 0
ReadsTableOf done (statement.Relation name doc row entity attrs) table =
    IsTableOf (relation_names done) (record { name = name; document = doc; row = row; entity = entity; attrs = attrs }) table
ReadsTableOf done (statement.Orders relation doc) table = IsOrdersTable done.relations relation doc table
ReadsTableOf done (statement.Copy t) table = IsCopyTable done t table
ReadsTableOf done other table = ⊥

-- a table of this name is due to be read: by the first of the statements, or by a later one, once those before it are bound
abbrev pub TableDue : List (List ℕ × List ℕ) → Spec → List StatementTree → List ℕ → Type 0
TableDue told done [] table = ⊥
TableDue told done (s ∷ rest) table =
    ReadsTableOf done s table ⊎ ((next : Spec) × IsStep told done s (Ok next) × TableDue told next rest table)
