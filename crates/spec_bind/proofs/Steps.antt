-- What the step of a statement is that has one part, and perhaps a table, where the shelf tells its documents.
use Rattle.std.proofs.Common.{◌≡◌, ℕ, List, Option, Some, None, Result, Ok, Err, IfSome, ap, sym, subst, refl}
use Rattle.bind_faults.specs.Faults.{and_then, IsDue, IsDetermined, IsReadFaultOf}
use Rattle.bind_faults.specs.declared.fault.BindFault.{BindFault}
use Rattle.spec_model.specs.Spec.{Spec}
use Rattle.spec_model.specs.declared.relation.Relation.{Relation}
use Rattle.spec_syntax.specs.declared.trees.StatementTree.{StatementTree}
use Rattle.relation_bind.specs.Declarations.{Declared}
use Rattle.relation_bind.specs.Relations.{IsDeclared, IsTableOf}
use Rattle.bound_spec.specs.Growth.{limited, relation_names}
use Rattle.bind_faults.specs.declared.fault.BindFault.TheVariants.{Refused, CopyDiffers, Limit, ReadFault, NoMemory}
use Rattle.text_grammar.specs.declared.named.Named.{Named}
use Rattle.order_bind.specs.Orders.{Steps}
use Rattle.order_bind.specs.TableOrders.{IsOrdersMade}
use Rattle.spec_limits.specs.Limits.{exceeded}
use Rattle.spec_bind.specs.Bound.{IsLimited, IsStep, IsTableMade, with_relations}
use Rattle.spec_bind.proofs.Given.{IsGivenMore, given_limited}
use Rattle.bind_faults.proofs.Outcomes.{determined_fault, same_read_fault_of}
use Rattle.spec_bind.proofs.Dues.{due_determined}

-- the documents that a shelf tells
abbrev pub Docs : Type 0
Docs = List (List ℕ × List ℕ)

-- what a part gives, and the specification with it
abbrev pub Becomes : {A : Type 0} → (Result A BindFault → Type 0) → (A → Spec) → Result Spec BindFault → Type 0
Becomes {A} gives next made = (given : Result A BindFault) × gives given × (made ≡ and_then given (λ a. Ok (next a)))

-- a part that is refused
pub part_refused : {A : Type 0} (texts : Option Docs) (gives : Docs → Result A BindFault → Type 0) (next : A → Spec)
    (fault : BindFault)
    → (IsDetermined {A = A} (Err fault) → IfSome texts (λ told. gives told (Err fault)))
    → IsDetermined {A = Spec} (Err fault) → IfSome texts (λ told. IsLimited (Becomes (gives told) next) (Err fault))
part_refused None gives next fault is determined = tt
part_refused {A} (Some told) gives next fault is determined =
    (Err fault, (Err fault, is (determined_fault Spec A fault determined), refl), refl)

-- a part that is added, or is above a limit
pub part_step : {A : Type 0} (texts : Option Docs) (gives : Docs → Result A BindFault → Type 0) (next : A → Spec)
    (a : A) (result : Result Spec BindFault)
    → IfSome texts (λ told. gives told (Ok a)) → IsDue (limited (next a)) result
    → IsDetermined result → IfSome texts (λ told. IsLimited (Becomes (gives told) next) result)
part_step None gives next a result is due determined = tt
part_step (Some told) gives next a result is due determined =
    (Ok (next a), (Ok a, is, refl), sym (due_determined (limited (next a)) result due determined))

-- the names that a declaration is checked with are those of the relations
pub declared_with : (texts : Option Docs) (done : Spec) (d : Declared) (taken : List (List ℕ))
    (r : Result Relation BindFault) → taken ≡ relation_names done
    → IfSome texts (λ told. IsDeclared told taken d r) → IfSome texts (λ told. IsDeclared told (relation_names done) d r)
declared_with None done d taken r same is = tt
declared_with (Some told) done d taken r same is = subst (λ (names : List (List ℕ)). IsDeclared told names d r) same is

-- the table of a declaration that could not be read
pub relation_table : (done : Spec) (d : Declared) (taken : List (List ℕ)) (fault : BindFault) (table : List ℕ)
    → taken ≡ relation_names done
    → ((name : List ℕ) → IsReadFaultOf {A = Relation} (Err fault) name → IsTableOf taken d name)
    → IsReadFaultOf {A = Spec} (Err fault) table
    → IsTableOf (relation_names done) d table
relation_table done d taken fault table same named h =
    subst (λ (names : List (List ℕ)). IsTableOf names d table) same (named table (same_read_fault_of Spec Relation fault table h))

-- what is a step of the parts of a statement is one of the statement
pub statement_step : (texts : Option Docs) (done : Spec) (s t : StatementTree) (result : Result Spec BindFault) → s ≡ t
    → IfSome texts (λ told. IsStep told done t result) → IfSome texts (λ told. IsStep told done s result)
statement_step None done s t result is step = tt
statement_step (Some told) done s t result is step = subst (λ (x : StatementTree). IsStep told done x result) (sym is) step

-- the table of a part that could not be read
pub part_table : (A : Type 0) (due : List ℕ → Type 0) (fault : BindFault) (table : List ℕ)
    → ((name : List ℕ) → IsReadFaultOf {A = A} (Err fault) name → due name) → IsReadFaultOf {A = Spec} (Err fault)
    table → due table
part_table A due fault table named h = named table (same_read_fault_of Spec A fault table h)

-- ---- tables of given pairs

-- a determined refusal is what is made
steps_determined : (new : List Relation) (made : Result (List Relation) BindFault) (fault : BindFault)
    → Steps new made (Err fault)
    → IsDetermined {A = Spec} (Err fault) → made ≡ Err fault
steps_determined new made (Refused refusal) steps determined = steps
steps_determined new made (CopyDiffers document line target source) steps determined = steps
steps_determined new made (Limit k) steps determined = steps
steps_determined new made (ReadFault name) steps determined = steps
steps_determined new made NoMemory steps determined = absurd determined

-- what a table makes of relations, as a step that leaves these
abbrev pub TableSteps : Docs → Spec → Spec → Named → Named → Result (Unit {0}) BindFault → Type 0
TableSteps told old new relation doc result =
    (made : Result (List Relation) BindFault) × IsOrdersMade told old.relations relation doc made × Steps
    new.relations made result

pub table_refused : (texts : Option Docs) (old new : Spec) (relation doc : Named) (fault : BindFault)
    → (IsDetermined {A = Unit {0}} (Err fault) → IfSome texts (λ told. TableSteps told old new relation doc (Err fault)))
    → IsDetermined {A = Spec} (Err fault) → IfSome texts (λ told. IsLimited (IsTableMade told old relation doc) (Err fault))
table_refused None old new relation doc fault is determined = tt
table_refused (Some told) old new relation doc fault is determined =
    let step = is (determined_fault Spec (Unit {0}) fault determined) in
    let same : step.0 ≡ Err fault = steps_determined new.relations step.0 fault step.2 determined in
    let made : with_relations old step.0 ≡ Err fault = ap (with_relations old) same in
    (Err fault, (step.0, step.1, sym made), refl)

pub table_step : (texts : Option Docs) (old new : Spec) (relation doc : Named) → IfSome texts
    (λ told. TableSteps told old new relation doc (Ok tt))
    → IsGivenMore old new → exceeded old ≡ None → IfSome texts (λ told. IsLimited (IsTableMade told old relation doc) (Ok new))
table_step None old new relation doc is more within = tt
table_step (Some told) old new relation doc is more within =
    (with_relations old is.0, (is.0, is.1, refl), sym (given_limited old new is.0 is.2 more within))
