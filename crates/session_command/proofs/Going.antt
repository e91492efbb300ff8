-- Entries that are told of one after another, where the shelf tells its documents.
use Rattle.std.proofs.Common.{◌≡◌, ◌∙◌, ◌+◌, ◌<◌, ◌≤◌, ◌++◌, ◌∷◌, ℕ, Bool, true, false, List, [], length, drop, get_or, Option, Some, None, IfSome, refl, sym, ap, subst, inl, inr, append_assoc}
use Rattle.std.specs.Prelude.{◌||◌}
use Rattle.std.proofs.lemmas.List.{at_drop_all, at_drop_more}
use Rattle.currency_session.specs.Sessions.{Session}
use Rattle.program_words.specs.Words.{SessionSaid}
use Rattle.script_syntax.specs.declared.trees.Entry.{Entry}
use Rattle.session_command.specs.Sessions.{IsTableDueIn}
use Rattle.session_command.specs.Steps.{GoesOn, GoesOnReading, IsOneMore}
use Rattle.session_command.specs.Transcripts.{IsTranscript}
use Rattle.session_command.specs.declared.telling.Told.{Told}

abbrev pub Docs : Type 0
Docs = List (List ℕ × List ℕ)

abbrev pub Texts : Type 0
Texts = Option Docs

-- ---- one entry more

or_assoc : (a b c : Bool) → (a || b) || c ≡ a || (b || c)
or_assoc true b c = refl
or_assoc false b c = refl

one_more : (told : Docs) (a : SessionSaid) (s : Session) (entries : List Entry) (old : Told) (now : Session) (e : Entry)
    (left : List Entry) (mid : Told) (next : Session) (new : Told) → GoesOn told a s entries old now (e ∷ left) mid
    → IsOneMore told a now e next mid new → GoesOn told a s entries old next left new
one_more told a s entries old now e left mid next new going one rest later t =
    let after : IsTranscript told a one.step.next left rest later =
    subst (λ (n : Session). IsTranscript told a n left rest later) (sym one.leaves) t in
    let so_far = going (one.step.text ++ rest) (one.step.undecided || later)
    (one.step, rest, later, one.done, after, refl, refl) in
    record {
      body = so_far.body;
      later = so_far.later;
      transcript = so_far.transcript;
      is_text = ap (λ (x : List ℕ). x ++ rest) one.text ∙ append_assoc mid.text one.step.text rest ∙ so_far.is_text;
      is_undecided = ap (λ (b : Bool). b || later) one.undecided ∙ or_assoc mid.undecided one.step.undecided later
          ∙ so_far.is_undecided;
    }

-- ---- the loop

-- what is told so far
abbrev pub SoFar : Texts → SessionSaid → Session → List Entry → Told → Session → List Entry → Told → Type 0
SoFar texts a s entries old now left so_far = IfSome texts (λ told. GoesOn told a s entries old now left so_far)

-- the tables that are due
abbrev pub DueSoFar : Texts → SessionSaid → Session → List Entry → Session → List Entry → Type 0
DueSoFar texts a s entries now left = IfSome texts (λ told. GoesOnReading told a s entries now left)

pub told_none : (texts : Texts) (a : SessionSaid) (s : Session) (entries : List Entry) (old : Told)
    → SoFar texts a s entries old s (drop 0 entries) old
told_none None a s entries old = tt
told_none (Some told) a s entries old = λ rest later t. record {
  body = rest;
  later = later;
  transcript = t;
  is_text = refl;
  is_undecided = refl;
}

pub due_none : (texts : Texts) (a : SessionSaid) (s : Session) (entries : List Entry)
    → DueSoFar texts a s entries s (drop 0 entries)
due_none None a s entries = tt
due_none (Some told) a s entries = λ name due. due

drop_at : (xs : List Entry) (i : ℕ) (x : Entry) → i < length xs → x ≡ get_or xs i x → drop i xs ≡ x ∷ drop (i + 1) xs
drop_at xs i x lt is = at_drop_more (λ ys. ys) xs i x lt ∙ ap (λ y. y ∷ drop (i + 1) xs) (sym is)

pub told_more : (texts mid_texts : Texts) (a : SessionSaid) (s : Session) (entries : List Entry) (old : Told) (now : Session)
    (i : ℕ) (e : Entry) (mid : Told) (next : Session) (new : Told) → mid_texts ≡ texts → i < length entries
    → e ≡ get_or entries i e → IfSome mid_texts (λ told. IsOneMore told a now e next mid new)
    → SoFar texts a s entries old now (drop i entries) mid → SoFar texts a s entries old next (drop (i + 1) entries) new
told_more texts None a s entries old now i e mid next new same lt is one going =
    subst (λ (o : Texts). SoFar o a s entries old next (drop (i + 1) entries) new) same tt
told_more texts (Some told) a s entries old now i e mid next new same lt is one going =
    subst (λ (o : Texts). SoFar o a s entries old next (drop (i + 1) entries) new) same
    (one_more told a s entries old now e (drop (i + 1) entries) mid next new
    (subst (λ (es : List Entry). GoesOn told a s entries old now es mid) (drop_at entries i e lt is)
    (subst (λ (o : Texts). SoFar o a s entries old now (drop i entries) mid) (sym same) going)) one)

pub due_more : (texts mid_texts : Texts) (a : SessionSaid) (s : Session) (entries : List Entry) (now : Session) (i : ℕ)
    (e : Entry) (mid : Told) (next : Session) (new : Told) → mid_texts ≡ texts → i < length entries → e ≡ get_or entries i e
    → IfSome mid_texts (λ told. IsOneMore told a now e next mid new)
    → DueSoFar texts a s entries now (drop i entries) → DueSoFar texts a s entries next (drop (i + 1) entries)
due_more texts None a s entries now i e mid next new same lt is one going =
    subst (λ (o : Texts). DueSoFar o a s entries next (drop (i + 1) entries)) same tt
due_more texts (Some told) a s entries now i e mid next new same lt is one going =
    let before : GoesOnReading told a s entries now (e ∷ drop (i + 1) entries) =
    subst (λ (es : List Entry). GoesOnReading told a s entries now es) (drop_at entries i e lt is)
    (subst (λ (o : Texts). DueSoFar o a s entries now (drop i entries)) (sym same) going) in
    subst (λ (o : Texts). DueSoFar o a s entries next (drop (i + 1) entries)) same
    (λ name due. before name (inr (
      one.step,
      one.done,
      subst (λ (n : Session). IsTableDueIn told a n (drop (i + 1) entries) name) (sym one.leaves) due,
    )))

-- a table of the entry at hand
pub due_here : (texts mid_texts : Texts) (a : SessionSaid) (s : Session) (entries : List Entry) (now : Session) (i : ℕ)
    (e : Entry) (name : List ℕ) → mid_texts ≡ texts → i < length entries → e ≡ get_or entries i e
    → IfSome mid_texts (λ told. IsTableDueIn told a now (e ∷ []) name) → DueSoFar texts a s entries now (drop i entries)
    → IfSome texts (λ told. IsTableDueIn told a s entries name)
due_here texts None a s entries now i e name same lt is due going =
    subst (λ (o : Texts). IfSome o (λ told. IsTableDueIn told a s entries name)) same tt
due_here texts (Some told) a s entries now i e name same lt is due going =
    let before : GoesOnReading told a s entries now (e ∷ drop (i + 1) entries) =
    subst (λ (es : List Entry). GoesOnReading told a s entries now es) (drop_at entries i e lt is)
    (subst (λ (o : Texts). DueSoFar o a s entries now (drop i entries)) (sym same) going) in
    subst (λ (o : Texts). IfSome o (λ told. IsTableDueIn told a s entries name)) same (before name (of due))
  where
    of : IsTableDueIn told a now (e ∷ []) name → IsTableDueIn told a now (e ∷ drop (i + 1) entries) name
    of (inl here) = inl here
    of (inr after) = absurd after.2

pub told_all : (texts : Texts) (a : SessionSaid) (s : Session) (entries : List Entry) (old : Told) (now : Session) (i : ℕ)
    (so_far : Told) → length entries ≤ i → SoFar texts a s entries old now (drop i entries) so_far
    → SoFar texts a s entries old now [] so_far
told_all texts a s entries old now i so_far le going =
    subst (λ (es : List Entry). SoFar texts a s entries old now es so_far) (at_drop_all (λ xs. xs) entries i le) going
