-- What is done of all entries, once they are told of.
use Rattle.std.proofs.Common.{◌≡◌, ◌∙◌, ◌++◌, Bool, true, false, List, [], Some, None, IfSome, IfOk, Result, Ok, Err, refl, sym, ap, subst}
use Rattle.std.specs.Prelude.{◌||◌, not}
use Rattle.command_stages.specs.Endings.{ending_of}
use Rattle.command_stages.specs.declared.done.Done.{Done}
use Rattle.command_stages.specs.declared.trouble.Trouble.{Trouble}
use Rattle.currency_session.specs.Sessions.{Session}
use Rattle.program_words.specs.Words.{SessionSaid}
use Rattle.script_syntax.specs.declared.trees.Entry.{Entry}
use Rattle.session_command.specs.Steps.{GoesOn, IsDoneOf}
use Rattle.session_command.specs.Texts.{end_text, header_text}
use Rattle.session_command.specs.declared.telling.Told.{Told}
use Rattle.session_command.proofs.Going.{Docs, SoFar, Texts}

-- the first line, as it is told
abbrev pub first_told : Told
first_told = record { text = header_text; undecided = false }

-- what is done where this is told of them
abbrev pub last_done : Told → Done
last_done t = record { text = t.text ++ end_text; ending = ending_of (not t.undecided) }

or_false : (b : Bool) → b || false ≡ b
or_false true = refl
or_false false = refl

last_line : (told : Docs) (a : SessionSaid) (s : Session) (entries : List Entry) (now : Session) (t : Told)
    → GoesOn told a s entries first_told now [] t → IsDoneOf told a s entries (last_done t)
last_line told a s entries now t going =
    let all = going end_text false (refl, refl) in
    record {
      body = all.body;
      undecided = all.later;
      transcript = all.transcript;
      text = all.is_text;
      ended = ap (λ (b : Bool). ending_of (not b)) (sym (or_false t.undecided) ∙ all.is_undecided);
    }

pub all_done : (texts : Texts) (a : SessionSaid) (s : Session) (entries : List Entry) (first : Told) (now : Session) (t : Told)
    (outcome : Result Done Trouble) → first ≡ first_told → SoFar texts a s entries first now [] t
    → IfOk outcome (λ d. d ≡ last_done t) → IfOk outcome (λ d. IfSome texts (λ told. IsDoneOf told a s entries d))
all_done texts a s entries first now t (Err e) begins going done = tt
all_done None a s entries first now t (Ok d) begins going done = tt
all_done (Some told) a s entries first now t (Ok d) begins going done =
    subst (λ (x : Done). IsDoneOf told a s entries x) (sym done)
    (last_line told a s entries now t (subst (λ (f : Told). GoesOn told a s entries f now [] t) begins going))
