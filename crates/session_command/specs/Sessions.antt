-- What is due for a session, and what is printed.
use Rattle.std.specs.Prelude.{◌≡◌, ◌⊎◌, ℕ, Bool, not, List, [], ◌∷◌, ◌++◌, Result, Ok, Err}
use Rattle.command_stages.specs.Documents.{IsSpecDocumentDue}
use Rattle.command_stages.specs.Endings.{ending_of}
use Rattle.command_stages.specs.Stages.{IsSpecRead, Then, Within, text_bound, text_trouble}
use Rattle.command_stages.specs.declared.done.Done.{Done}
use Rattle.command_stages.specs.declared.done.Ending.{Ending}
use Rattle.command_stages.specs.declared.trouble.Trouble.{Trouble}
use Rattle.currency_edge.specs.Shelf.{document}
use Rattle.currency_session.specs.Sessions.{Session}
use Rattle.program_words.specs.Words.{SessionSaid}
use Rattle.program_words.specs.declared.command.Session.{Session as SessionWords}
use Rattle.question_bind.specs.Bound.{IsQuestionTableDue}
use Rattle.script_syntax.specs.Texts.{ReadsScript, RefusesScript}
use Rattle.script_syntax.specs.declared.trees.Entry.{Entry}
use Rattle.script_syntax.specs.declared.trees.EntryTree.{EntryTree}
use Rattle.script_syntax.specs.declared.trees.EntryTree.TheVariants as entry
use Rattle.spec_model.specs.Spec.{Spec}
use Rattle.spec_model.specs.declared.relation.Relation.{Relation}
use Rattle.text_tokens.specs.declared.token.TextFault.{TextFault}
use Rattle.session_command.specs.Texts.{header_text}
use Rattle.session_command.specs.Transcripts.{IsEntryDone, IsTranscript, Step}

-- what is asked, with the names of documents as bytes
abbrev pub session_said : SessionWords → SessionSaid
session_said a = record { spec = a.spec.now; script = a.script.now; budget = a.budget; brief = a.brief; guide = a.guide }

-- ---- stages

-- the script's text is read as entries
abbrev pub IsScriptSaid : List ℕ → List ℕ → Result (List Entry) Trouble → Type 0
IsScriptSaid name bytes outcome =
    ((entries : List Entry) × ReadsScript bytes entries × (outcome ≡ Ok entries))
    ⊎ ((fault : TextFault) × RefusesScript bytes fault × (outcome ≡ Err (text_trouble name fault)))

-- the script
abbrev pub IsScriptRead : List (List ℕ × List ℕ) → List ℕ → Result (List Entry) Trouble → Type 0
IsScriptRead told name = Within text_bound (document told name) (IsScriptSaid name (document told name))

-- a session over a specification, before the first entry
abbrev pub opening : Spec → Session
opening s = record { spec = s; kept = []; reused = 0 }

-- the job: what is printed of the entries, one after another
abbrev pub IsTold : List (List ℕ × List ℕ) → SessionSaid → Spec → List Entry → Result Done Trouble → Type 0
IsTold told a s entries outcome = (text : List ℕ) × (undecided : Bool) × IsTranscript told a (opening s) entries text undecided
    × (outcome ≡ Ok (record { text = header_text ++ text; ending = ending_of (not undecided) }))

-- what is due for a session
abbrev pub IsSessionDue : List (List ℕ × List ℕ) → SessionSaid → Result Done Trouble → Type 0
IsSessionDue told a = Then (IsSpecRead told a.spec) (λ s. Then (IsScriptRead told a.script) (IsTold told a s))

-- ---- documents

-- a question names this table, and what stands before is bound
abbrev pub IsTableDueBy : EntryTree → List (List ℕ × List ℕ) → List Relation → List ℕ → Type 0
IsTableDueBy (entry.Ask t) told relations name = IsQuestionTableDue told relations t name
IsTableDueBy other told relations name = ⊥

-- one of these entries names this table, once those before it are done
abbrev pub IsTableDueIn : List (List ℕ × List ℕ) → SessionSaid → Session → List Entry → List ℕ → Type 0
IsTableDueIn told a s [] name = ⊥
IsTableDueIn told a s (e ∷ es) name =
    IsTableDueBy e.tree told s.spec.relations name
    ⊎ ((step : Step) × IsEntryDone told a s e step × IsTableDueIn told a step.next es name)

-- the script is due to be read, or a table that one of its questions names
abbrev pub IsScriptDocumentDue : List (List ℕ × List ℕ) → SessionSaid → Spec → List ℕ → Type 0
IsScriptDocumentDue told a s name =
    (name ≡ a.script)
    ⊎ ((entries : List Entry) × IsScriptRead told a.script (Ok entries) × IsTableDueIn told a (opening s) entries name)

-- a document is due to be read for a session
abbrev pub IsSessionDocumentDue : List (List ℕ × List ℕ) → SessionSaid → List ℕ → Type 0
IsSessionDocumentDue told a name =
    IsSpecDocumentDue told a.spec name ⊎ ((s : Spec) × IsSpecRead told a.spec (Ok s) × IsScriptDocumentDue told a s name)

-- ---- what is printed

-- the documents are read as a specification and a script, and this is the text of what its entries come to, one after another
pub record IsSessionPrinted (told : List (List ℕ × List ℕ)) (a : SessionSaid) (text : List ℕ) (ending : Ending) : Type 0 where
  pub spec : Spec
  pub entries : List Entry
  pub spec_read : IsSpecRead told a.spec (Ok spec)
  pub script_read : IsScriptRead told a.script (Ok entries)
  pub body : List ℕ
  pub undecided : Bool
  pub transcript : IsTranscript told a (opening spec) entries body undecided
  pub is_text : text ≡ header_text ++ body
  pub ended : ending ≡ ending_of (not undecided)
