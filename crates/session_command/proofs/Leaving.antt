-- What an entry leaves is one specification, whatever was replied before, and an edit is told in one way.
use Rattle.std.proofs.Common.{◌≡◌, ◌∙◌, ◌⊎◌, ℕ, List, Result, Ok, Err, inl, inr, sym, ap}
use Rattle.command_stages.proofs.OneRead.{apart, err_same, ok_same}
use Rattle.currency_ask.specs.declared.fault.AskFault.TheVariants as ask
use Rattle.currency_session.specs.Sessions.{Session}
use Rattle.program_words.specs.Words.{SessionSaid}
use Rattle.question_syntax.specs.declared.trees.QuestionTree.{QuestionTree}
use Rattle.script_syntax.specs.declared.trees.Entry.{Entry}
use Rattle.script_syntax.specs.declared.trees.EntryTree.{EntryTree}
use Rattle.script_syntax.specs.declared.trees.EntryTree.TheVariants as entry
use Rattle.session_entries.specs.Entries.{IsEditTree, entry_due}
use Rattle.session_entries.specs.declared.fault.EntryFault.{EntryFault}
use Rattle.spec_model.specs.Spec.{Spec}
use Rattle.session_command.specs.Texts.{fault_line}
use Rattle.session_command.specs.Transcripts.{IsAccepted, IsAsked, IsDoneBy, IsEntryDone, IsRefused, Step}
use Rattle.session_command.proofs.Going.{Docs}
use Rattle.session_command.proofs.Replying.{asked_spec}

-- ---- edits

abbrev IsEdited : List ℕ → Session → Entry → Step → Type 0
IsEdited script s e step = IsAccepted s e step ⊎ IsRefused script s e step

-- what is due of one specification is one
same_due : (s t : Session) (tree : EntryTree) (a b : Result Spec EntryFault) → s.spec ≡ t.spec → entry_due s.spec tree ≡ a
    → entry_due t.spec tree ≡ b → a ≡ b
same_due s t tree a b same h k = sym h ∙ ap (λ (x : Spec). entry_due x tree) same ∙ k

edit_leaves : (script : List ℕ) (s t : Session) (e : Entry) (x y : Step) → s.spec ≡ t.spec → IsEdited script s e x
    → IsEdited script t e y → x.next.spec ≡ y.next.spec
edit_leaves script s t e x y same (inl h) (inl k) =
    ap (λ (n : Session). n.spec) h.next
    ∙ ok_same h.spec k.spec (same_due s t e.tree (Ok h.spec) (Ok k.spec) same h.due k.due)
    ∙ sym (ap (λ (n : Session). n.spec) k.next)
edit_leaves script s t e x y same (inl h) (inr k) =
    absurd (apart h.spec k.fault (same_due s t e.tree (Ok h.spec) (Err k.fault) same h.due k.due))
edit_leaves script s t e x y same (inr h) (inl k) =
    absurd (apart k.spec h.fault (sym (same_due s t e.tree (Err h.fault) (Ok k.spec) same h.due k.due)))
edit_leaves script s t e x y same (inr h) (inr k) =
    ap (λ (n : Session). n.spec) h.next ∙ same ∙ sym (ap (λ (n : Session). n.spec) k.next)

edit_told : (script : List ℕ) (s t : Session) (e : Entry) (x y : Step) → s.spec ≡ t.spec → IsEdited script s e x
    → IsEdited script t e y → x.text ≡ y.text
edit_told script s t e x y same (inl h) (inl k) = h.text ∙ sym k.text
edit_told script s t e x y same (inl h) (inr k) =
    absurd (apart h.spec k.fault (same_due s t e.tree (Ok h.spec) (Err k.fault) same h.due k.due))
edit_told script s t e x y same (inr h) (inl k) =
    absurd (apart k.spec h.fault (sym (same_due s t e.tree (Err h.fault) (Ok k.spec) same h.due k.due)))
edit_told script s t e x y same (inr h) (inr k) =
    h.text
    ∙ ap (fault_line script e.line)
    (err_same h.fault k.fault (same_due s t e.tree (Err h.fault) (Err k.fault) same h.due k.due))
    ∙ sym k.text

-- ---- questions

asked_leaves : (told : Docs) (a : SessionSaid) (s : Session) (line : ℕ) (t : QuestionTree) (step : Step)
    → IsAsked told a s line t step → step.next.spec ≡ s.spec
asked_leaves told a s line t step (inl (q, bound, inl it)) = asked_spec s step.next q a.budget (Ok it.reply) it.replies
asked_leaves told a s line t step (inl (q, bound, inr it)) =
    asked_spec s step.next q a.budget (Err (ask.TooMany it.completion)) it.replies
asked_leaves told a s line t step (inr it) = ap (λ (n : Session). n.spec) it.next

-- ---- entries

pub entry_leaves : (tree : EntryTree) (told : Docs) (a : SessionSaid) (s t : Session) (e : Entry) (x y : Step)
    → s.spec ≡ t.spec → IsDoneBy tree told a s e x → IsDoneBy tree told a t e y → x.next.spec ≡ y.next.spec
entry_leaves (entry.Order add relation attr pair) told a s t e x y same h k = edit_leaves a.script s t e x y same h k
entry_leaves (entry.AddRule rule) told a s t e x y same h k = edit_leaves a.script s t e x y same h k
entry_leaves (entry.WithdrawRule name) told a s t e x y same h k = edit_leaves a.script s t e x y same h k
entry_leaves (entry.Copy add name mapping) told a s t e x y same h k = edit_leaves a.script s t e x y same h k
entry_leaves (entry.Ask question) told a s t e x y same h k =
    asked_leaves told a s e.line question x h ∙ same ∙ sym (asked_leaves told a t e.line question y k)

pub entry_told : (tree : EntryTree) (told : Docs) (a : SessionSaid) (s t : Session) (e : Entry) (x y : Step)
    → IsEditTree tree → s.spec ≡ t.spec → IsDoneBy tree told a s e x → IsDoneBy tree told a t e y → x.text ≡ y.text
entry_told (entry.Order add relation attr pair) told a s t e x y edit same h k = edit_told a.script s t e x y same h k
entry_told (entry.AddRule rule) told a s t e x y edit same h k = edit_told a.script s t e x y same h k
entry_told (entry.WithdrawRule name) told a s t e x y edit same h k = edit_told a.script s t e x y same h k
entry_told (entry.Copy add name mapping) told a s t e x y edit same h k = edit_told a.script s t e x y same h k
entry_told (entry.Ask question) told a s t e x y edit same h k = absurd edit
