-- What a table of given pairs makes of the relations, where the shelf tells its documents.
use Rattle.std.proofs.Common.{◌≡◌, ◌∙◌, ◌<◌, ℕ, List, length, map, not, Option, Some, None, Result, Ok, Err, MatchOption, IfSome, refl, sym, ap, subst, arith, get_or}
use Rattle.std.specs.Prelude.{is_some}
use Rattle.std.specs.List.{enumerate_from, position, slice_get}
use Rattle.std.proofs.lemmas.List.{length-map}
use Rattle.std.proofs.lemmas.Option.{slice_get_read}
use Rattle.currency_base.specs.declared.error_code.ErrorCode.{ErrorCode}
use Rattle.currency_base.specs.declared.error_code.ErrorCode.TheVariants.{UnknownName, UnknownRow}
use Rattle.currency_base.specs.declared.pair.Pair.{Pair}
use Rattle.currency_base.specs.declared.row.Row.{Row}
use Rattle.currency_base.specs.declared.value.Value.{Value}
use Rattle.currency_csv.specs.declared.table.Column.{Column}
use Rattle.text_grammar.specs.declared.named.Named.{Named}
use Rattle.table_bind.specs.Tuples.{AreTuples}
use Rattle.table_rows.specs.Rows.{text_at}
use Rattle.spec_model.specs.Spec.{Spec}
use Rattle.spec_model.specs.declared.relation.Relation.{Relation}
use Rattle.spec_names.specs.NameLists.{NameLists}
use Rattle.spec_names.specs.Names.{all_names_of, place_of}
use Rattle.bind_faults.specs.Faults.{all_of, and_then, found_or, refused_at, refused_in, IsReadFault, IsReadFaultOf, IsDetermined}
use Rattle.bind_faults.specs.declared.fault.BindFault.{BindFault}
use Rattle.bind_faults.proofs.Outcomes.{all_reads, determined_fault, same_read_fault_of, then_reads}
use Rattle.order_bind.specs.Orders.{giving_pairs, is_of_one_entity, Steps}
use Rattle.order_bind.proofs.OrderFaults.{pair_reads}
use Rattle.order_bind.proofs.OrderPairs.{found_place, steps_same}
use Rattle.order_bind.specs.TableOrders.{checked, giving_tuples, line_at, order_columns, orders_at, pair_in, pairs_of_tuples}
use Rattle.order_bind.specs.TableOrders.{place_in, record_in, relation_at, unless_wrong, IsOrdersMade, IsOrdersTable}
use Rattle.order_bind.specs.TableOrders.{IsTableGiven}
use Rattle.order_bind.specs.declared.tables.records.PairRecord.{PairRecord}

-- ---- pairs that are due are no read fault

place_reads : (table : List ℕ) (code : ErrorCode) (line : ℕ) (names : List (List ℕ)) (name : List ℕ) → IsReadFault
    (place_in table code line names name) → ⊥
place_reads table code line names name h = by (place_of names name) h
  where
    by : (place : Option ℕ) → IsReadFault (found_or place (refused_in table code line) Ok) → ⊥
    by None none = none
    by (Some k) none = none

pub record_reads : (table : List ℕ) (attrs : List (List ℕ)) (n : ℕ × List Value) → IsReadFault (record_in table attrs n) → ⊥
record_reads table attrs (place, tuple) h =
    then_reads (place_in table UnknownName (line_at place) attrs (text_at tuple 0))
    (λ attr. Ok record { line = line_at place; attr = record { 0 = attr }; earlier = text_at tuple 1; later = text_at tuple 2 })
    (place_reads table UnknownName (line_at place) attrs (text_at tuple 0)) (λ attr none. none) h

pub pair_in_reads : (table : List ℕ) (rows : List (List ℕ)) (r : PairRecord) → IsReadFault (pair_in table rows r) → ⊥
pair_in_reads table rows r h =
    pair_reads r.attr.0 (place_in table UnknownRow r.line rows r.earlier) (place_in table UnknownRow r.line rows r.later)
    (place_reads table UnknownRow r.line rows r.earlier) (place_reads table UnknownRow r.line rows r.later) h

pub checked_reads : (table : List ℕ) (rows : List Row) (pairs : List Pair) → IsReadFault (checked table rows pairs) → ⊥
checked_reads table rows pairs h = by (position (λ p. not (is_of_one_entity rows p)) pairs) h
  where
    by : (wrong : Option ℕ) → IsReadFault (unless_wrong table pairs wrong) → ⊥
    by None none = none
    by (Some wrong) none = none

pub tuples_read : (r : Relation) (table : List ℕ) (tuples : List (List Value)) → IsReadFault (pairs_of_tuples r table tuples) → ⊥
unfolding pairs_of_tuples
tuples_read r table tuples h =
    let attrs : List (List ℕ) = map (λ a. a.name) r.attrs in
    let rows : List (List ℕ) = map (λ row. row.name) r.rows in
    then_reads (all_of (record_in table attrs) (enumerate_from 0 tuples))
    (λ records. and_then (all_of (pair_in table rows) records) (checked table r.rows))
    (all_reads (record_in table attrs) (record_reads table attrs) (enumerate_from 0 tuples))
    (λ records. then_reads (all_of (pair_in table rows) records) (checked table r.rows)
    (all_reads (pair_in table rows) (pair_in_reads table rows) records)
    (checked_reads table r.rows)) h

-- ---- the relation of a place

-- the relation that stands there
pub relation_there : (done : Spec) (rel : ℕ) (relations : List Relation) (r : Relation) → rel < length done.relations
    → relations ≡ done.relations
    → r ≡ get_or relations rel r → slice_get done.relations rel ≡ Some r
relation_there done rel relations r lt are is =
    slice_get_read done.relations (length done.relations) rel r refl lt (is ∙ ap (λ s. get_or s rel r) are)

-- what is due there
pub due_there : (done : List Relation) (rel : ℕ) (table : List ℕ) (tuples : List (List Value)) (r : Relation)
    → slice_get done rel ≡ Some r
    → orders_at done rel table tuples ≡ giving_pairs done rel r (pairs_of_tuples r table tuples)
due_there done rel table tuples r here = ap (giving_tuples done rel table tuples) here

-- ---- the relation of a name

-- the names of relations, as they are known
known : (names : NameLists) (list : List (List ℕ)) (done : Spec) → names ≡ all_names_of done → list ≡ names.relations
    → list ≡ map (λ r. r.name) done.relations
known names list done same listed = listed ∙ ap (λ (n : NameLists). n.relations) same

-- the name is found
pub name_found : (names : NameLists) (list : List (List ℕ)) (done : Spec) (relation : Named) (rel : ℕ)
    → names ≡ all_names_of done → list ≡ names.relations
    → ◌≡◌ {A = Result ℕ BindFault} (Ok rel) (found_or (place_of list relation.name) (refused_at UnknownName relation) Ok)
    → relation_at done.relations relation ≡ Some rel
name_found names list done relation rel same listed is =
    ap (λ ns. place_of ns relation.name) (sym (known names list done same listed))
    ∙ found_place (place_of list relation.name) (refused_at UnknownName relation) rel (sym is)

-- its relation is there
pub rel_within : (names : NameLists) (list : List (List ℕ)) (done : Spec) (rel : ℕ) → names ≡ all_names_of done
    → list ≡ names.relations
    → rel < length list → rel < length done.relations
rel_within names list done rel same listed within =
    omega (arith, ap length (known names list done same listed), length-map done.relations (λ (r : Relation). r.name), within)

-- the name is not found
missing : (place : Option ℕ) (fault e : BindFault) → ◌≡◌ {A = Result ℕ BindFault} (Err e) (found_or place fault Ok) →
    (place ≡ None) × (e ≡ fault)
missing None fault e is = (refl, cc)
missing (Some k) fault e is = absurd (cc)

-- ---- what is made

-- an unknown relation
pub unknown_made : (texts : Option (List (List ℕ × List ℕ))) (names : NameLists) (list : List (List ℕ)) (done : Spec)
    (relation document : Named)
    (new : List Relation) (e : BindFault) (result : Result (Unit {0}) BindFault) → names ≡ all_names_of done
    → list ≡ names.relations
    → ◌≡◌ {A = Result ℕ BindFault} (Err e) (found_or (place_of list relation.name) (refused_at UnknownName relation)
    Ok) → result ≡ Err e
    → IfSome texts (λ told. (made : Result (List Relation) BindFault) × IsOrdersMade told done.relations relation
    document made × Steps new made result)
unfolding IsOrdersMade
unknown_made None names list done relation document new e result same listed is ends = tt
unknown_made (Some told) names list done relation document new e result same listed is ends =
    let no = missing (place_of list relation.name) (refused_at UnknownName relation) e is in
    let at : relation_at done.relations relation ≡ None = ap (λ ns. place_of ns relation.name)
    (sym (known names list done same listed)) ∙ no.0 in
    let made : ◌≡◌ {A = Result (List Relation) BindFault} (Err e) (Err (refused_at UnknownName relation)) = ap Err no.1 in
    (Err e, rw at made, rw ends (steps_same new (Err e) e refl))

-- a table that is not read
pub unread_made : (texts : Option (List (List ℕ × List ℕ))) (done : List Relation) (relation document : Named)
    (rel : ℕ) (new : List Relation) (e : BindFault)
    (result : Result (Unit {0}) BindFault) → relation_at done relation ≡ Some rel
    → (IsDetermined {A = List (List Value)} (Err e) → IfSome texts (λ told. AreTuples told document.name order_columns (Err e)))
    → result ≡ Err e → IsDetermined result
    → IfSome texts (λ told. (made : Result (List Relation) BindFault) × IsOrdersMade told done relation document made
    × Steps new made result)
unfolding IsOrdersMade
unread_made None done relation document rel new e result at read ends determined = tt
unread_made (Some told) done relation document rel new e result at read ends determined =
    let tuples = read (determined_fault (Unit {0}) (List (List Value)) e (subst IsDetermined ends determined)) in
    (Err e, rw at (Err e, tuples, refl), rw ends (steps_same new (Err e) e refl))

-- a table that is read
pub read_made : (texts : Option (List (List ℕ × List ℕ))) (done : List Relation) (relation document : Named)
    (rel : ℕ) (new : List Relation)
    (tuples : List (List Value)) (result : Result (Unit {0}) BindFault) → relation_at done relation ≡ Some rel
    → IfSome texts (λ told. AreTuples told document.name order_columns (Ok tuples))
    → Steps new (orders_at done rel document.name tuples) result
    → IfSome texts (λ told. (made : Result (List Relation) BindFault) × IsOrdersMade told done relation document made
    × Steps new made result)
unfolding IsOrdersMade
read_made None done relation document rel new tuples result at read steps = tt
read_made (Some told) done relation document rel new tuples result at read steps =
    (orders_at done rel document.name tuples, rw at (Ok tuples, read, refl), steps)

-- the table that is not read is the statement's
pub table_not_given : (done : List Relation) (relation document : Named) (rel : ℕ) (e : BindFault)
    (result : Result (Unit {0}) BindFault)
    → relation_at done relation ≡ Some rel → ((table : List ℕ) → IsReadFaultOf {A = List (List Value)} (Err e) table
    → document.name ≡ table)
    → result ≡ Err e → (table : List ℕ) → IsReadFaultOf result table → IsOrdersTable done relation document table
table_not_given done relation document rel e result at named ends table h = (
  ap is_some at,
  named table (same_read_fault_of (Unit {0}) (List (List Value)) e table
      (subst (λ (r : Result (Unit {0}) BindFault). IsReadFaultOf r table) ends h)),
)

-- ---- one outcome

-- told documents, a name and columns have one outcome at most
abbrev pub OneTable : Type 0
OneTable = (told : List (List ℕ × List ℕ)) (name : List ℕ) (columns : List Column) (a b : Result (List (List Value)) BindFault)
    → AreTuples told name columns a → AreTuples told name columns b → a ≡ b

one_made : OneTable → (told : List (List ℕ × List ℕ)) (done : List Relation) (relation document : Named)
    (place : Option ℕ) (a b : Result (List Relation) BindFault)
    → MatchOption place (a ≡ Err (refused_at UnknownName relation)) (IsTableGiven told done document a)
    → MatchOption place (b ≡ Err (refused_at UnknownName relation)) (IsTableGiven told done document b) → a ≡ b
one_made one told done relation document None a b x y = x ∙ sym y
one_made one told done relation document (Some rel) a b x y =
    x.2 ∙ ap (λ (tuples : Result (List (List Value)) BindFault). and_then tuples (orders_at done rel document.name))
    (one told document.name order_columns x.0 y.0 x.1 y.1)
    ∙ sym y.2

pub one_outcome : OneTable → (told : List (List ℕ × List ℕ)) (done : List Relation) (relation document : Named)
    (a b : Result (List Relation) BindFault)
    → IsOrdersMade told done relation document a → IsOrdersMade told done relation document b → a ≡ b
unfolding IsOrdersMade
one_outcome one told done relation document a b x y = one_made one told done relation document (relation_at done relation) a b x y
