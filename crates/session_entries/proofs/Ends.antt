-- Outcomes of entries that are due.
use Rattle.std.proofs.Common.{◌≡◌, ◌∙◌, inl, inr, Result, Ok, Err, refl, sym, ap, subst}
use Rattle.script_syntax.specs.declared.trees.EntryTree.{EntryTree}
use Rattle.bind_faults.specs.Faults.{IsDue, and_then}
use Rattle.bind_faults.specs.declared.fault.BindFault.{BindFault}
use Rattle.bind_faults.specs.declared.fault.BindFault.TheVariants.{Refused, CopyDiffers, Limit, ReadFault, NoMemory}
use Rattle.denial_rules.specs.declared.rule.Rule.{Rule}
use Rattle.spec_model.specs.Spec.{Spec}
use Rattle.spec_names.specs.NameLists.{NameLists}
use Rattle.spec_names.specs.Names.{all_names_of}
use Rattle.spec_edits.specs.Edits.{IsRefused, edited}
use Rattle.spec_edits.specs.declared.edit.Edit.{Edit}
use Rattle.spec_edits.specs.declared.edit.Edit.TheVariants.{AddRule}
use Rattle.spec_edits.specs.declared.fault.EditFault.{EditFault}
use Rattle.session_entries.specs.Entries.{EntryDone, IsEntryDue, KeepsNames, bound, done_with, edit_named, edited_by, entry_due, fault_of_edit}
use Rattle.session_entries.specs.declared.fault.EntryFault.{EntryFault}
use Rattle.session_entries.specs.declared.fault.EntryFault.TheVariants.{Bind, NotThere}

-- an answer that is the one that is due
pub entry_due_same : {A : Type 0} (due r : Result A EntryFault) → due ≡ r → IsEntryDue due r
entry_due_same due (Ok x) is = is
entry_due_same due (Err NotThere) is = is
entry_due_same due (Err (Bind (Refused refusal))) is = is
entry_due_same due (Err (Bind (CopyDiffers document line target source))) is = is
entry_due_same due (Err (Bind (Limit k))) is = is
entry_due_same due (Err (Bind (ReadFault name))) is = is
entry_due_same due (Err (Bind NoMemory)) is = tt

-- the fault of a rule that is added
pub rule_fault : (due : Result Rule BindFault) (e : BindFault) → IsDue due (Err e)
    → IsEntryDue (bound (and_then due (λ r. Ok (AddRule r)))) (Err (Bind e))
rule_fault due (Refused refusal) is = ap (λ d. bound (and_then d (λ r. Ok (AddRule r)))) is
rule_fault due (CopyDiffers document line target source) is = ap (λ d. bound (and_then d (λ r. Ok (AddRule r)))) is
rule_fault due (Limit k) is = ap (λ d. bound (and_then d (λ r. Ok (AddRule r)))) is
rule_fault due (ReadFault name) is = ap (λ d. bound (and_then d (λ r. Ok (AddRule r)))) is
rule_fault due NoMemory is = tt

-- a fault that is due of an entry, which changes nothing
done_same : (old new : Spec) (due : Result Spec EntryFault) (fault : EntryFault) → due ≡ Err fault → new ≡ old
    → EntryDone old new due (Err fault)
done_same old new due NotThere is same = (is, same)
done_same old new due (Bind (Refused refusal)) is same = (is, same)
done_same old new due (Bind (CopyDiffers document line target source)) is same = (is, same)
done_same old new due (Bind (Limit k)) is same = (is, same)
done_same old new due (Bind (ReadFault name)) is same = (is, same)
done_same old new due (Bind NoMemory) is same = tt

-- a fault of binding an entry
pub bind_fault : (s : Spec) (entry : EntryTree) (fault : EntryFault) → IsEntryDue (edit_named s entry) (Err fault)
    → EntryDone s s (entry_due s entry) (Err fault)
bind_fault s entry NotThere is = (ap (done_with s entry) is, refl)
bind_fault s entry (Bind (Refused refusal)) is = (ap (done_with s entry) is, refl)
bind_fault s entry (Bind (CopyDiffers document line target source)) is = (ap (done_with s entry) is, refl)
bind_fault s entry (Bind (Limit k)) is = (ap (done_with s entry) is, refl)
bind_fault s entry (Bind (ReadFault name)) is = (ap (done_with s entry) is, refl)
bind_fault s entry (Bind NoMemory) is = tt

-- what an edit that is bound comes to
pub bound_done : (s new : Spec) (entry : EntryTree) (e : Edit) (result : Result (Unit {0}) EntryFault)
    → edit_named s entry ≡ Ok e
    → EntryDone s new (edited_by entry (edited s e)) result → EntryDone s new (entry_due s entry) result
bound_done s new entry e result is done =
    subst (λ (due : Result Spec EntryFault). EntryDone s new due result) (sym (ap (done_with s entry) is)) done

-- the fault of an edit
pub edit_refused : (s new : Spec) (entry : EntryTree) (e : Edit) (fault : EditFault) → IsRefused s e fault → new ≡ s
    → EntryDone s new (edited_by entry (edited s e)) (Err (fault_of_edit entry fault))
edit_refused s new entry e fault (inr is) same =
    done_same s new (edited_by entry (edited s e)) (fault_of_edit entry fault) (ap (edited_by entry) is) same
edit_refused s new entry e fault (inl is) same = rw is tt

-- the names stay those of a specification that is not changed
pub names_stay : (names : NameLists) (s new : Spec) (result : Result (Unit {0}) EntryFault) → names ≡ all_names_of s
    → new ≡ s
    → KeepsNames names new result
names_stay names s new result same is = by result (same ∙ ap all_names_of (sym is))
  where
    by : (r : Result (Unit {0}) EntryFault) → names ≡ all_names_of new → KeepsNames names new r
    by (Ok u) here = here
    by (Err NotThere) here = here
    by (Err (Bind (Refused refusal))) here = here
    by (Err (Bind (CopyDiffers document line target source))) here = here
    by (Err (Bind (Limit k))) here = here
    by (Err (Bind (ReadFault name))) here = here
    by (Err (Bind NoMemory)) here = tt
