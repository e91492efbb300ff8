-- What is due for a session, and what is printed.
use Rattle.std.proofs.Common.{◌≡◌, ◌∙◌, ◌++◌, ℕ, List, Some, None, IfSome, IfOk, IfErr, MatchResult, Result, Ok, Err, inl, inr, refl, ap, subst}
use Rattle.std.specs.Prelude.{not}
use Rattle.command_stages.specs.Documents.{IsSpecDocumentDue}
use Rattle.command_stages.specs.Endings.{ending_of}
use Rattle.command_stages.specs.Named.{IsDetermined, IsDeterminedTrouble}
use Rattle.command_stages.specs.Stages.{IsSpecRead, Then}
use Rattle.command_stages.specs.declared.done.Done.{Done}
use Rattle.command_stages.specs.declared.done.Ending.{Ending}
use Rattle.command_stages.specs.declared.trouble.Trouble.{Trouble}
use Rattle.command_stages.proofs.OneRead.{IsOne}
use Rattle.command_stages.proofs.Outcomes.{IsLike, answers_alike, done_apart, is_of_question, same_done, then_like}
use Rattle.currency_session.specs.Sessions.{Session}
use Rattle.program_words.specs.Words.{SessionSaid}
use Rattle.script_syntax.specs.declared.trees.Entry.{Entry}
use Rattle.spec_model.specs.Spec.{Spec}
use Rattle.session_command.specs.Sessions.{IsScriptDocumentDue, IsScriptRead, IsSessionDocumentDue, IsSessionDue, IsSessionPrinted, IsTableDueIn, IsTold, opening}
use Rattle.session_command.specs.Steps.{IsDoneOf}
use Rattle.session_command.specs.Texts.{header_text}
use Rattle.session_command.proofs.Going.{Docs, Texts}
use Rattle.session_command.proofs.Scripts.{Readings, script_one}

-- ---- what is told of all entries

-- a session that begins over a specification
told_of : (told : Docs) (a : SessionSaid) (s : Spec) (entries : List Entry) (d : Done)
    → IsDoneOf told a (opening s) entries d → IsTold told a s entries (Ok d)
told_of told a s entries d done = (done.body, done.undecided, done.transcript, ap Ok is)
  where
    is : d ≡ record { text = header_text ++ done.body; ending = ending_of (not done.undecided) }
    is = ap (λ (x : List ℕ). record d { text = x }) done.text
        ∙ ap (λ (x : Ending). record { text = header_text ++ done.body; ending = x }) done.ended

pub all_told : (texts : Texts) (a : SessionSaid) (s : Spec) (session : Session) (entries : List Entry)
    (outcome : Result Done Trouble) → session ≡ opening s
    → IfOk outcome (λ d. IfSome texts (λ told. IsDoneOf told a session entries d))
    → IfOk outcome (λ d. IfSome texts (λ told. IsTold told a s entries (Ok d)))
all_told texts a s session entries (Err e) begins done = tt
all_told None a s session entries (Ok d) begins done = tt
all_told (Some told) a s session entries (Ok d) begins done =
    told_of told a s entries d (subst (λ (x : Session). IsDoneOf told a x entries d) begins done)

pub due_at_opening : (texts : Texts) (a : SessionSaid) (s : Spec) (session : Session) (entries : List Entry) (name : List ℕ)
    → session ≡ opening s → IfSome texts (λ told. IsTableDueIn told a session entries name)
    → IfSome texts (λ told. IsTableDueIn told a (opening s) entries name)
due_at_opening texts a s session entries name begins due =
    subst (λ (x : Session). IfSome texts (λ told. IsTableDueIn told a x entries name)) begins due

-- ---- the script

-- where the script is read, what is told of its entries is due
pub script_due : (texts now : Texts) (a : SessionSaid) (s : Spec) (entries : List Entry) (outcome : Result Done Trouble)
    → now ≡ texts → IfSome texts (λ told. IsScriptRead told a.script (Ok entries))
    → IfOk outcome (λ d. IfSome now (λ told. IsTold told a s entries (Ok d)))
    → IfErr outcome (λ e. IsDeterminedTrouble e → ⊥) → IsDetermined outcome
    → IfSome texts (λ told. Then (IsScriptRead told a.script) (IsTold told a s) outcome)
script_due texts now a s entries (Err e) same read told outside determined = absurd (outside determined)
script_due None now a s entries (Ok d) same read told outside determined = tt
script_due (Some docs) now a s entries (Ok d) same read told outside determined =
    (Ok entries, read, subst (λ (o : Texts). IfSome o (λ told. IsTold told a s entries (Ok d))) same told)

pub script_refused : (texts : Texts) (a : SessionSaid) (s : Spec) (e : Trouble)
    → IfSome texts (λ told. IsScriptRead told a.script (Err e))
    → IfSome texts (λ told. Then (IsScriptRead told a.script) (IsTold told a s) (Err e))
script_refused None a s e read = tt
script_refused (Some told) a s e read = (Err e, read, refl)

-- the script, or a table that it names
pub script_unread : (texts : Texts) (a : SessionSaid) (s : Spec) (name : List ℕ) → name ≡ a.script
    → IfSome texts (λ told. IsScriptDocumentDue told a s name)
script_unread None a s name is = tt
script_unread (Some told) a s name is = inl is

pub table_unread : (texts now : Texts) (a : SessionSaid) (s : Spec) (entries : List Entry) (name : List ℕ) → now ≡ texts
    → IfSome texts (λ told. IsScriptRead told a.script (Ok entries))
    → IfSome now (λ told. IsTableDueIn told a (opening s) entries name)
    → IfSome texts (λ told. IsScriptDocumentDue told a s name)
table_unread None now a s entries name same read due = tt
table_unread (Some docs) now a s entries name same read due =
    inr (entries, read, subst (λ (o : Texts). IfSome o (λ told. IsTableDueIn told a (opening s) entries name)) same due)

-- ---- the stages together

pub session_due : (texts now : Texts) (a : SessionSaid) (s : Spec) (outcome : Result Done Trouble) → now ≡ texts
    → IfSome texts (λ told. IsSpecRead told a.spec (Ok s))
    → (IsDetermined outcome → IfSome now (λ told. Then (IsScriptRead told a.script) (IsTold told a s) outcome))
    → IsDetermined outcome → IfSome texts (λ told. IsSessionDue told a outcome)
session_due None now a s outcome same read job determined = tt
session_due (Some docs) now a s outcome same read job determined = (
  Ok s,
  read,
  subst (λ (o : Texts). IfSome o (λ told. Then (IsScriptRead told a.script) (IsTold told a s) outcome)) same
      (job determined),
)

pub session_refused : (texts : Texts) (a : SessionSaid) (e : Trouble) → IfSome texts (λ told. IsSpecRead told a.spec (Err e))
    → IfSome texts (λ told. IsSessionDue told a (Err e))
session_refused None a e read = tt
session_refused (Some told) a e read = (Err e, read, refl)

printed_of : (told : Docs) (a : SessionSaid) (s : Spec) (d : Done) → IsSpecRead told a.spec (Ok s)
    → (r : Result (List Entry) Trouble) → IsScriptRead told a.script r
    → MatchResult r (λ entries. IsTold told a s entries (Ok d)) (λ e. ◌≡◌ {A = Result Done Trouble} (Ok d) (Err e))
    → IsSessionPrinted told a d.text d.ending
printed_of told a s d spec (Err e) script it = absurd (done_apart d e it)
printed_of told a s d spec (Ok entries) script it =
    let same : d ≡ record { text = header_text ++ it.0; ending = ending_of (not it.1) } = same_done d _ it.3 in
    record {
      spec = s;
      entries = entries;
      spec_read = spec;
      script_read = script;
      body = it.0;
      undecided = it.1;
      transcript = it.2;
      is_text = ap (λ (x : Done). x.text) same;
      ended = ap (λ (x : Done). x.ending) same;
    }

pub session_printed : (texts now : Texts) (a : SessionSaid) (s : Spec) (outcome : Result Done Trouble) → now ≡ texts
    → IfSome texts (λ told. IsSpecRead told a.spec (Ok s))
    → (IsDetermined outcome → IfSome now (λ told. Then (IsScriptRead told a.script) (IsTold told a s) outcome))
    → IfOk outcome (λ d. IfSome texts (λ told. IsSessionPrinted told a d.text d.ending))
session_printed texts now a s (Err e) same read job = tt
session_printed None now a s (Ok d) same read job = tt
session_printed (Some told) now a s (Ok d) same read job =
    let it : Then (IsScriptRead told a.script) (IsTold told a s) (Ok d) =
    subst (λ (o : Texts). IfSome o (λ t. Then (IsScriptRead t a.script) (IsTold t a s) (Ok d))) same (job tt) in
    printed_of told a s d read it.0 it.1 it.2

pub spec_unread : (texts : Texts) (a : SessionSaid) (name : List ℕ) → IfSome texts (λ told. IsSpecDocumentDue told a.spec name)
    → IfSome texts (λ told. IsSessionDocumentDue told a name)
spec_unread None a name due = tt
spec_unread (Some told) a name due = inl due

pub session_unread : (texts now : Texts) (a : SessionSaid) (s : Spec) (name : List ℕ) → now ≡ texts
    → IfSome texts (λ told. IsSpecRead told a.spec (Ok s)) → IfSome now (λ told. IsScriptDocumentDue told a s name)
    → IfSome texts (λ told. IsSessionDocumentDue told a name)
session_unread None now a s name same read due = tt
session_unread (Some docs) now a s name same read due =
    inr (s, read, subst (λ (o : Texts). IfSome o (λ told. IsScriptDocumentDue told a s name)) same due)

-- ---- all of it ends as a question does

told_like : (told : Docs) (a : SessionSaid) (s : Spec) (entries : List Entry) → IsLike (IsTold told a s entries)
told_like told a s entries x y h k = answers_alike _ _ x y (is_of_question (not h.1)) (is_of_question (not k.1)) h.3 k.3

pub session_like : ((told : Docs) (name : List ℕ) → IsOne (IsSpecRead told name)) → Readings → (told : Docs) (a : SessionSaid)
    → IsLike (IsSessionDue told a)
session_like one_spec laws told a =
    then_like (IsSpecRead told a.spec) _ (one_spec told a.spec) (λ s.
    then_like (IsScriptRead told a.script) (IsTold told a s) (script_one laws told a.script) (told_like told a s))
