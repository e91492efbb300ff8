-- Entries read no table.
use Rattle.std.proofs.Common.{ℕ, Bool, true, false, List, map, Option, Some, None, Result, Ok, Err, slice_get}
use Rattle.std.specs.Prelude.{if◌then◌else◌}
use Rattle.currency_base.specs.declared.error_code.ErrorCode.TheVariants.{NotOneEntity, UnknownName, UnknownRow}
use Rattle.currency_base.specs.declared.ids.RowId.{RowId}
use Rattle.currency_base.specs.declared.pair.Pair.{Pair}
use Rattle.currency_base.specs.declared.row.Row.{Row}
use Rattle.text_grammar.specs.declared.named.Named.{Named}
use Rattle.text_grammar.specs.declared.named.NamedPair.{NamedPair}
use Rattle.script_syntax.specs.declared.trees.EntryTree.{EntryTree}
use Rattle.bind_faults.specs.Faults.{IsReadFault, refused_at}
use Rattle.bind_faults.specs.declared.fault.BindFault.{BindFault}
use Rattle.bind_faults.specs.declared.fault.BindFault.TheVariants.{Refused, CopyDiffers, Limit, ReadFault, NoMemory}
use Rattle.bind_faults.proofs.Outcomes.{then_reads}
use Rattle.copy_functions.specs.Copies.{CopyFunction}
use Rattle.copy_bind.specs.Copied.{mapping_named, row_named}
use Rattle.spec_model.specs.Spec.{Spec}
use Rattle.spec_model.specs.declared.relation.Relation.{Relation}
use Rattle.spec_names.specs.Names.{place_of}
use Rattle.order_bind.specs.Orders.{is_of_one_entity, pair_named}
use Rattle.order_bind.specs.Orders as orders
use Rattle.order_bind.proofs.OrderFaults.{found_reads, pair_reads}
use Rattle.spec_edits.specs.declared.edit.Edit.{Edit}
use Rattle.spec_edits.specs.declared.fault.EditFault.{EditFault}
use Rattle.spec_edits.specs.declared.fault.EditFault.TheVariants as edit_fault
use Rattle.session_entries.specs.Entries.{IsEntryReadFault, bound, checked_pair, copied_at, copied_named, fault_of_edit, given_at, given_named, mapping_in, pair_in, row_names, withdrawn_at}
use Rattle.session_entries.specs.declared.fault.EntryFault.{EntryFault}
use Rattle.session_entries.specs.declared.fault.EntryFault.TheVariants.{Bind, NotThere}

-- ---- given pairs

checked_reads : (rows : List Row) (first : Named) (p : Pair) → IsReadFault (checked_pair rows first p) → ⊥
checked_reads rows first p h = by (is_of_one_entity rows p) h
  where
    by : (b : Bool) → IsReadFault {A = Pair} (if b then (Ok p) else (Err (refused_at NotOneEntity first))) → ⊥
    by true none = none
    by false none = none

pair_named_reads : (rows : List (List ℕ)) (attr : ℕ) (pair : NamedPair) → IsReadFault (pair_named rows attr pair) → ⊥
pair_named_reads rows attr pair h =
    pair_reads attr (orders.row_named rows pair.first) (orders.row_named rows pair.second) (row_reads pair.first)
    (row_reads pair.second) h
  where
    row_reads : (named : Named) → IsReadFault (orders.row_named rows named) → ⊥
    row_reads named none = found_reads {A = ℕ} (place_of rows named.name) UnknownRow named Ok (λ k f. f) none

pair_in_reads : (r : Relation) (attr : Named) (pair : NamedPair) → IsReadFault (pair_in r attr pair) → ⊥
unfolding pair_in
pair_in_reads r attr pair h =
    found_reads {A = Pair} (place_of (map (λ a. a.name) r.attrs) attr.name) UnknownName attr _
    (λ place f. then_reads (pair_named (map (λ row. row.name) r.rows) place pair) (checked_pair r.rows pair.first)
    (pair_named_reads (map (λ row. row.name) r.rows) place pair) (checked_reads r.rows pair.first) f) h

given_at_reads : (add : Bool) (relation attr : Named) (pair : NamedPair) (rel : ℕ) (o : Option Relation)
    → IsReadFault (given_at add relation attr pair rel o) → ⊥
given_at_reads add relation attr pair rel None h = h
given_at_reads add relation attr pair rel (Some r) h =
    then_reads {B = Edit} (pair_in r attr pair) _ (pair_in_reads r attr pair) (λ p none. none) h

given_reads : (relations : List Relation) (add : Bool) (relation attr : Named) (pair : NamedPair)
    → IsReadFault (given_named relations add relation attr pair) → ⊥
unfolding given_named
given_reads relations add relation attr pair h =
    found_reads {A = Edit} (place_of (map (λ r. r.name) relations) relation.name) UnknownName relation _
    (λ rel f. given_at_reads add relation attr pair rel (slice_get relations rel) f) h

-- ---- copied rows

mapping_reads : (targets sources : List (List ℕ)) (add : Bool) (copy : ℕ) (pair : NamedPair)
    → IsReadFault (mapping_in targets sources add copy pair) → ⊥
unfolding mapping_in
mapping_reads targets sources add copy pair h =
    then_reads {B = Edit} (mapping_named None targets sources pair) _
    (λ f. then_reads (row_named None targets pair.first) _ (row_reads targets pair.first)
    (λ target g. then_reads (row_named None sources pair.second) _ (row_reads sources pair.second)
    (λ source none. none) g) f)
    (λ m none. none) h
  where
    row_reads : (rows : List (List ℕ)) (named : Named) → IsReadFault (row_named None rows named) → ⊥
    row_reads rows named none =
        found_reads {A = RowId} (place_of rows named.name) UnknownRow named (λ place. Ok record { 0 = place })
        (λ k f. f) none

copied_at_reads : (relations : List Relation) (add : Bool) (name : Named) (pair : NamedPair) (copy : ℕ)
    (o : Option CopyFunction)
    → IsReadFault (copied_at relations add name pair copy o) → ⊥
copied_at_reads relations add name pair copy None h = h
copied_at_reads relations add name pair copy (Some c) h =
    mapping_reads (row_names relations c.target) (row_names relations c.source) add copy pair h

copied_reads : (s : Spec) (add : Bool) (name : Named) (pair : NamedPair) → IsReadFault (copied_named s add name pair) → ⊥
unfolding copied_named
copied_reads s add name pair h =
    found_reads {A = Edit} (place_of (map (λ c. c.name) s.copies) name.name) UnknownName name _
    (λ copy f. copied_at_reads s.relations add name pair copy (slice_get s.copies copy) f) h

-- ---- entries

bound_reads : (r : Result Edit BindFault) → (IsReadFault r → ⊥) → IsEntryReadFault (bound r) → ⊥
bound_reads (Ok e) reads h = h
bound_reads (Err (Refused refusal)) reads h = h
bound_reads (Err (CopyDiffers document line target source)) reads h = h
bound_reads (Err (Limit k)) reads h = h
bound_reads (Err (ReadFault name)) reads h = reads tt
bound_reads (Err NoMemory) reads h = h

-- the edit of a given pair
pub given_unread : (relations : List Relation) (add : Bool) (relation attr : Named) (pair : NamedPair)
    → IsEntryReadFault (bound (given_named relations add relation attr pair)) → ⊥
given_unread relations add relation attr pair =
    bound_reads (given_named relations add relation attr pair) (given_reads relations add relation attr pair)

-- of a copied row
pub copied_unread : (s : Spec) (add : Bool) (name : Named) (pair : NamedPair)
    → IsEntryReadFault (bound (copied_named s add name pair)) → ⊥
copied_unread s add name pair = bound_reads (copied_named s add name pair) (copied_reads s add name pair)

-- of a rule that is withdrawn
pub withdrawn_unread : (place : Option ℕ) → IsEntryReadFault (withdrawn_at place) → ⊥
withdrawn_unread None h = h
withdrawn_unread (Some rule) h = h

-- a fault of binding a rule
pub rule_unread : (fault : BindFault) → (IsReadFault {A = Unit {0}} (Err fault) → ⊥)
    → IsEntryReadFault {A = Edit} (Err (Bind fault)) → ⊥
rule_unread (Refused refusal) reads h = h
rule_unread (CopyDiffers document line target source) reads h = h
rule_unread (Limit k) reads h = h
rule_unread (ReadFault name) reads h = reads tt
rule_unread NoMemory reads h = h

-- a fault is one of reading whatever else would have been the answer
pub same_unread : (fault : EntryFault) → (IsEntryReadFault {A = Edit} (Err fault) → ⊥)
    → IsEntryReadFault {A = Unit {0}} (Err fault) → ⊥
same_unread NotThere reads h = h
same_unread (Bind (Refused refusal)) reads h = h
same_unread (Bind (CopyDiffers document line target source)) reads h = h
same_unread (Bind (Limit k)) reads h = h
same_unread (Bind (ReadFault name)) reads h = reads tt
same_unread (Bind NoMemory) reads h = h

-- the fault of an edit is none
pub edit_unread : (entry : EntryTree) (fault : EditFault)
    → IsEntryReadFault {A = Unit {0}} (Err (fault_of_edit entry fault)) → ⊥
edit_unread entry edit_fault.NotOneEntity h = h
edit_unread entry edit_fault.CopyTwice h = h
edit_unread entry (edit_fault.CopyDiffers place target source) h = h
edit_unread entry edit_fault.NotThere h = h
edit_unread entry (edit_fault.Limit k) h = h
edit_unread entry edit_fault.NoMemory h = h
