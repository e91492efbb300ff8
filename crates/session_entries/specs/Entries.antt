-- What an entry of an editing script does to a specification, and why it is refused: first the names that are unknown, then a
-- pair that is not of one entity, and then what the edit is refused for.
use Rattle.std.specs.Prelude.{◌≡◌, ℕ, Bool, true, false, List, map, Option, Some, None, Result, Ok, Err, if◌then◌else◌, slice_get}
use Rattle.currency_base.specs.declared.error_code.ErrorCode.TheVariants as code
use Rattle.currency_base.specs.declared.ids.RelId.{RelId}
use Rattle.currency_base.specs.declared.ids.RowId.{RowId}
use Rattle.currency_base.specs.declared.pair.Pair.{Pair}
use Rattle.currency_base.specs.declared.row.Row.{Row}
use Rattle.text_grammar.specs.declared.named.Named.{Named}
use Rattle.text_grammar.specs.declared.named.NamedPair.{NamedPair}
use Rattle.rule_syntax.specs.declared.trees.RuleTree.{RuleTree}
use Rattle.script_syntax.specs.declared.trees.EntryTree.{EntryTree}
use Rattle.script_syntax.specs.declared.trees.EntryTree.TheVariants as tree
use Rattle.bind_faults.specs.Faults.{and_then, found_or, refused_at}
use Rattle.bind_faults.specs.declared.fault.BindFault.{BindFault}
use Rattle.bind_faults.specs.declared.fault.BindFault.TheVariants as bind_fault
use Rattle.copy_functions.specs.Copies.{CopyFunction}
use Rattle.copy_functions.specs.declared.fault.CopyFault.TheVariants as copy_fault
use Rattle.spec_model.specs.Facts.{rows_of}
use Rattle.spec_model.specs.Spec.{Spec}
use Rattle.spec_model.specs.declared.relation.Relation.{Relation}
use Rattle.spec_names.specs.NameLists.{NameLists}
use Rattle.spec_names.specs.Names.{all_names_of, place_of}
use Rattle.order_bind.specs.Orders.{is_of_one_entity, pair_named}
use Rattle.rule_bind.specs.Ruled.{ruled}
use Rattle.copy_bind.specs.Copied.{mapping_named, refusal_of}
use Rattle.spec_edits.specs.Edits.{edited}
use Rattle.spec_edits.specs.declared.edit.Edit.{Edit}
use Rattle.spec_edits.specs.declared.edit.Edit.TheVariants as edit
use Rattle.spec_edits.specs.declared.fault.EditFault.{EditFault}
use Rattle.spec_edits.specs.declared.fault.EditFault.TheVariants as edit_fault
use Rattle.session_entries.specs.declared.fault.EntryFault.{EntryFault}
use Rattle.session_entries.specs.declared.fault.EntryFault.TheVariants.{Bind, NotThere}

-- an entry that is an edit, and no question
abbrev pub IsEditTree : EntryTree → Type 0
IsEditTree (tree.Ask question) = ⊥
IsEditTree other = Unit {0}

-- ---- given pairs

-- the pair, unless its rows are one, or of two entities: that is refused at the name of the first
abbrev pub checked_pair : List Row → Named → Pair → Result Pair BindFault
checked_pair rows first pair = if is_of_one_entity rows pair then Ok pair else Err (refused_at code.NotOneEntity first)

-- the pair that names say of a relation: an unknown attribute is refused, then an unknown row, and then a pair that is not of one
-- entity
unfoldable pub pair_in : Relation → Named → NamedPair → Result Pair BindFault
pair_in r attr pair =
    found_or (place_of (map (λ a. a.name) r.attrs) attr.name) (refused_at code.UnknownName attr) (λ place.
    and_then (pair_named (map (λ row. row.name) r.rows) place pair) (checked_pair r.rows pair.first))

-- a given pair is added, or withdrawn
abbrev pub given_edit : Bool → ℕ → Pair → Edit
given_edit true rel pair = edit.AddGiven (record { 0 = rel }) pair
given_edit false rel pair = edit.WithdrawGiven (record { 0 = rel }) pair

-- the edit of a given pair of the relation at a place, where one is there
abbrev pub given_at : Bool → Named → Named → NamedPair → ℕ → Option Relation → Result Edit BindFault
given_at add relation attr pair rel None = Err (refused_at code.UnknownName relation)
given_at add relation attr pair rel (Some r) = and_then (pair_in r attr pair) (λ p. Ok (given_edit add rel p))

-- the edit of a given pair that names say: an unknown relation is refused first
unfoldable pub given_named : List Relation → Bool → Named → Named → NamedPair → Result Edit BindFault
given_named relations add relation attr pair =
    found_or (place_of (map (λ r. r.name) relations) relation.name) (refused_at code.UnknownName relation)
    (λ rel. given_at add relation attr pair rel (slice_get relations rel))

-- ---- copied rows

-- a row is mapped, or is mapped no more
abbrev pub copied_edit : Bool → ℕ → RowId → RowId → Edit
copied_edit true copy target source = edit.MapCopied (record { 0 = copy }) target source
copied_edit false copy target source = edit.UnmapCopied (record { 0 = copy }) target source

-- the edit of a copied row by the copy function at a place, between rows of these names: an unknown one is refused
unfoldable pub mapping_in : List (List ℕ) → List (List ℕ) → Bool → ℕ → NamedPair → Result Edit BindFault
mapping_in targets sources add copy pair =
    and_then (mapping_named None targets sources pair) (λ m. Ok (copied_edit add copy m.target m.source))

-- the names of the rows of a relation, if it is there
abbrev pub row_names : List Relation → RelId → List (List ℕ)
row_names relations rel = map (λ row. row.name) (rows_of relations rel)

-- the edit of a copied row by the copy function at a place, where one is there
abbrev pub copied_at : List Relation → Bool → Named → NamedPair → ℕ → Option CopyFunction → Result Edit BindFault
copied_at relations add name pair copy None = Err (refused_at code.UnknownName name)
copied_at relations add name pair copy (Some c) =
    mapping_in (row_names relations c.target) (row_names relations c.source) add copy pair

-- the edit of a copied row that names say: an unknown copy function is refused first
unfoldable pub copied_named : Spec → Bool → Named → NamedPair → Result Edit BindFault
copied_named s add name pair =
    found_or (place_of (map (λ c. c.name) s.copies) name.name) (refused_at code.UnknownName name)
    (λ copy. copied_at s.relations add name pair copy (slice_get s.copies copy))

-- ---- rules

-- the rule that is added
abbrev pub rule_named : Spec → RuleTree → Result Edit BindFault
rule_named s rule = and_then (ruled s rule) (λ r. Ok (edit.AddRule r))

-- the rule that is withdrawn, if its name has a place
abbrev pub withdrawn_at : Option ℕ → Result Edit EntryFault
withdrawn_at None = Err NotThere
withdrawn_at (Some rule) = Ok (edit.WithdrawRule (record { 0 = rule }))

-- ---- the edit of an entry

-- an edit that is bound, or the fault of binding it
abbrev pub bound : Result Edit BindFault → Result Edit EntryFault
bound (Ok e) = Ok e
bound (Err fault) = Err (Bind fault)

-- the edit that an entry says, or why its names say none; a question says none
abbrev pub edit_named : Spec → EntryTree → Result Edit EntryFault
edit_named s (tree.Order add relation attr pair) = bound (given_named s.relations add relation attr pair)
edit_named s (tree.AddRule rule) = bound (rule_named s rule)
edit_named s (tree.WithdrawRule name) = withdrawn_at (place_of (map (λ rule. rule.name) s.rules) name.name)
edit_named s (tree.Copy add name mapping) = bound (copied_named s add name mapping)
edit_named s (tree.Ask question) = Err NotThere

-- ---- the edit is done

-- the line of the first row that an entry names; entries of rules name none
abbrev pub row_line : EntryTree → ℕ
row_line (tree.Order add relation attr pair) = pair.first.line
row_line (tree.Copy add name mapping) = mapping.first.line
row_line other = 0

-- the fault of an edit, at a line where its code has one: copied rows are refused as those of a `copy` statement are
abbrev pub fault_at : ℕ → EditFault → EntryFault
fault_at line edit_fault.NotOneEntity = Bind (bind_fault.Refused record {
  code = code.NotOneEntity;
  document = None;
  line = line;
})
fault_at line edit_fault.CopyTwice = Bind (refusal_of None line copy_fault.CopyTwice)
fault_at line (edit_fault.CopyDiffers place target source) =
    Bind (refusal_of None line (copy_fault.CopyDiffers place target source))
fault_at line edit_fault.NotThere = NotThere
fault_at line (edit_fault.Limit k) = Bind (bind_fault.Limit k)
fault_at line edit_fault.NoMemory = Bind bind_fault.NoMemory

-- the fault of an entry whose edit is refused: of rows at the line of the first that it names
abbrev pub fault_of_edit : EntryTree → EditFault → EntryFault
fault_of_edit entry fault = fault_at (row_line entry) fault

-- what an edit comes to is what its entry comes to
abbrev pub edited_by : EntryTree → Result Spec EditFault → Result Spec EntryFault
edited_by entry (Ok new) = Ok new
edited_by entry (Err fault) = Err (fault_of_edit entry fault)

-- the same where the entry says an edit
abbrev pub done_with : Spec → EntryTree → Result Edit EntryFault → Result Spec EntryFault
done_with s entry (Ok e) = edited_by entry (edited s e)
done_with s entry (Err fault) = Err fault

-- the specification after an entry, or why the entry is refused
abbrev pub entry_due : Spec → EntryTree → Result Spec EntryFault
entry_due s entry = done_with s entry (edit_named s entry)

-- ---- outcomes

-- the answer is the one that is due, or memory ran out
abbrev pub IsEntryDue : {A : Type 0} → Result A EntryFault → Result A EntryFault → Type 0
IsEntryDue due (Err (Bind bind_fault.NoMemory)) = Unit {0}
IsEntryDue due (Ok x) = due ≡ Ok x
IsEntryDue due (Err fault) = due ≡ Err fault

-- a table could not be read
abbrev pub IsEntryReadFault : {A : Type 0} → Result A EntryFault → Type 0
IsEntryReadFault (Err (Bind (bind_fault.ReadFault name))) = Unit {0}
IsEntryReadFault other = ⊥

-- the entry has the outcome that is due and leaves its specification, of a refusal the one before it, or memory ran out
abbrev pub EntryDone : Spec → Spec → Result Spec EntryFault → Result (Unit {0}) EntryFault → Type 0
EntryDone old new due (Err (Bind bind_fault.NoMemory)) = Unit {0}
EntryDone old new due (Ok done) = due ≡ Ok new
EntryDone old new due (Err fault) = (due ≡ Err fault) × (new ≡ old)

-- the names are those of the specification, or memory ran out
abbrev pub KeepsNames : NameLists → Spec → Result (Unit {0}) EntryFault → Type 0
KeepsNames names s (Err (Bind bind_fault.NoMemory)) = Unit {0}
KeepsNames names s result = names ≡ all_names_of s
