-- What an edit comes to.
use Rattle.std.proofs.Common.{◌≡◌, ◌≢◌, ◌∙◌, ◌⊎◌, ℕ, false, List, Result, Ok, Err, inl, inr, refl, ap}
use Rattle.bind_faults.specs.declared.fault.BindFault.{BindFault}
use Rattle.bind_faults.specs.declared.fault.BindFault.TheVariants as bind
use Rattle.command_stages.specs.Stages.{bind_trouble}
use Rattle.command_stages.specs.declared.trouble.Trouble.{Trouble}
use Rattle.command_stages.specs.declared.trouble.Trouble.TheVariants as trouble
use Rattle.currency_session.specs.Sessions.{Session}
use Rattle.program_words.specs.Words.{SessionSaid}
use Rattle.report_model.specs.declared.report.Report.{Report}
use Rattle.script_syntax.specs.declared.trees.Entry.{Entry}
use Rattle.script_syntax.specs.declared.trees.EntryTree.{EntryTree}
use Rattle.script_syntax.specs.declared.trees.EntryTree.TheVariants as entry
use Rattle.session_entries.specs.Entries.{EntryDone, IsEditTree, KeepsNames, entry_due}
use Rattle.session_entries.specs.declared.fault.EntryFault.{EntryFault}
use Rattle.session_entries.specs.declared.fault.EntryFault.TheVariants.{Bind, NotThere}
use Rattle.spec_model.specs.Spec.{Spec}
use Rattle.spec_names.specs.NameLists.{NameLists}
use Rattle.spec_names.specs.Names.{all_names_of}
use Rattle.session_command.specs.Steps.{step_of}
use Rattle.session_command.specs.Texts.{accepted_text, fault_line}
use Rattle.session_command.specs.Transcripts.{IsAccepted, IsDoneBy, IsRefused, Step}

-- sessions are the same whose parts are
by_parts : (s t : Session) → s.spec ≡ t.spec → s.kept ≡ t.kept → s.reused ≡ t.reused → s ≡ t
by_parts s t spec kept reused =
    ap (λ (x : Spec). record s { spec = x }) spec ∙ ap (λ (x : List Report). record s { spec = t.spec; kept = x }) kept
    ∙ ap (λ (x : ℕ). record t { reused = x }) reused

-- an edit that is done
pub edit_accepted : (old new : Session) (e : Entry) (text : List ℕ) → entry_due old.spec e.tree ≡ Ok new.spec
    → new.kept ≡ old.kept → new.reused ≡ old.reused → text ≡ accepted_text e.line
    → IsAccepted old e (step_of (record { text = text; undecided = false }) new)
edit_accepted old new e text due kept reused told =
    record {
      spec = new.spec;
      due = due;
      next = by_parts new (record old { spec = new.spec }) refl kept reused;
      text = told;
      decided = refl;
    }

-- an edit that is refused, and not for want of memory
refused_due : (old new : Spec) (due : Result Spec EntryFault) (fault : EntryFault) → fault ≢ Bind bind.NoMemory
    → EntryDone old new due (Err fault) → (due ≡ Err fault) × (new ≡ old)
refused_due old new due NotThere other done = done
refused_due old new due (Bind (bind.Refused refusal)) other done = done
refused_due old new due (Bind (bind.CopyDiffers document line target source)) other done = done
refused_due old new due (Bind (bind.Limit k)) other done = done
refused_due old new due (Bind (bind.ReadFault name)) other done = done
refused_due old new due (Bind bind.NoMemory) other done = absurd (other refl)

pub edit_refused : (script : List ℕ) (old new : Session) (e : Entry) (fault : EntryFault) (text : List ℕ)
    → fault ≢ Bind bind.NoMemory → EntryDone old.spec new.spec (entry_due old.spec e.tree) (Err fault)
    → new.kept ≡ old.kept → new.reused ≡ old.reused → text ≡ fault_line script e.line fault
    → IsRefused script old e (step_of (record { text = text; undecided = false }) new)
edit_refused script old new e fault text other done kept reused told =
    let it = refused_due old.spec new.spec (entry_due old.spec e.tree) fault other done in
    record { fault = fault; due = it.0; next = by_parts new old it.1 kept reused; text = told; decided = refl }

-- names that stay true of what is refused
pub names_kept : (names : NameLists) (s : Spec) (fault : EntryFault) → fault ≢ Bind bind.NoMemory
    → KeepsNames names s (Err fault) → names ≡ all_names_of s
names_kept names s NotThere other kept = kept
names_kept names s (Bind (bind.Refused refusal)) other kept = kept
names_kept names s (Bind (bind.CopyDiffers document line target source)) other kept = kept
names_kept names s (Bind (bind.Limit k)) other kept = kept
names_kept names s (Bind (bind.ReadFault name)) other kept = kept
names_kept names s (Bind bind.NoMemory) other kept = absurd (other refl)

-- a trouble that is no want of memory is that of the fault, which is none
pub bind_is : (script : List ℕ) (fault : BindFault) (t : Trouble) → t ≢ trouble.NoMemory
    → (t ≡ trouble.NoMemory) ⊎ (t ≡ bind_trouble script fault) → t ≡ bind_trouble script fault
bind_is script fault t other (inl none) = absurd (other none)
bind_is script fault t other (inr is) = is

pub bind_remembers : (script : List ℕ) (fault : BindFault) (t : Trouble) → t ≢ trouble.NoMemory
    → (t ≡ trouble.NoMemory) ⊎ (t ≡ bind_trouble script fault) → fault ≢ bind.NoMemory
bind_remembers script fault t other due = λ none.
    other (bind_is script fault t other due ∙ ap (λ (f : BindFault). bind_trouble script f) none)

-- an entry of an edit is done where its edit is
pub edit_done : (tree : EntryTree) (told : List (List ℕ × List ℕ)) (a : SessionSaid) (s : Session) (e : Entry) (step : Step)
    → IsEditTree tree → IsAccepted s e step ⊎ IsRefused a.script s e step → IsDoneBy tree told a s e step
edit_done (entry.Order add relation attr pair) told a s e step edit done = done
edit_done (entry.AddRule rule) told a s e step edit done = done
edit_done (entry.WithdrawRule name) told a s e step edit done = done
edit_done (entry.Copy add name mapping) told a s e step edit done = done
edit_done (entry.Ask question) told a s e step edit done = absurd edit
