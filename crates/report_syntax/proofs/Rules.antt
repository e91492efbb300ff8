-- Reports are read as they are spelled.
use Rattle.std.proofs.Common.{◌≡◌, ℕ, Bool, true, false, ◌||◌, List, [], ◌∷◌, ◌++◌, inl, inr, refl, ap, subst, ◌∙◌, codes}
use Rattle.std.specs.Str.{bytes_eq}
use Rattle.text_tokens.specs.Lexeme.{Lexeme}
use Rattle.text_tokens.specs.declared.token.TokenKind.TheVariants.{Word}
use Rattle.text_grammar.specs.Words.{is_word}
use Rattle.text_grammar.specs.Grammar.{Language, ◌⋅◌, IsWord, IsSymbol}
use Rattle.text_grammar.specs.Reading.{both}
use Rattle.text_grammar.specs.Laws.{IsReader}
use Rattle.text_grammar.proofs.Readers.{always, Begins, Ended, FirstIs, Image, begins_image, first_passes, reads_made, reads_mapped, reads_same, reads_then, reads_two}
use Rattle.text_grammar.proofs.Choices.{Either, reads_choose}
use Rattle.text_grammar.proofs.FixedTokens.{after_symbol, after_word, apart, begins_fixed, either_apart, reads_symbol, reads_word}
use Rattle.log_syntax.specs.Grammar.{SpellsLogPart}
use Rattle.log_syntax.specs.Reading.{log_part_at}
use Rattle.log_syntax.specs.declared.trees.ReadLog.{ReadLog}
use Rattle.log_syntax.proofs.EndingReaders.{ended_up_to}
use Rattle.log_syntax.proofs.LogParts.{begins_log_part, end_ends_log, reads_log_part_then}
use Rattle.log_syntax.proofs.UpToReaders.{ended_at, up_to_begins}
use Rattle.report_syntax.specs.declared.tree.ClaimTree.TheVariants.{Inconsistent, Consistent, Certain, NotCertain, Same, NotSame, Answers, Undecided}
use Rattle.report_syntax.specs.declared.tree.CompletionTree.{CompletionTree}
use Rattle.report_syntax.specs.declared.tree.Version.{Version}
use Rattle.report_syntax.specs.declared.tree.Version.TheVariants.{First, Second}
use Rattle.report_syntax.specs.Spells.{SpellsCompletion, SpellsCompletions, SpellsReport, SpellsVersion}
use Rattle.report_syntax.specs.Reading.{completions_at, ended_word_at, first_at, report_at, second_at, version_at}
use Rattle.report_syntax.proofs.CompletionRules.{begins_completion, ends_completion, ends_completions, reads_completions}
use Rattle.report_syntax.proofs.VerdictRules.{Semicolon, ends_claim, reads_verdict}

-- ---- the head

reads_ended_word : (text : List ℕ) → IsReader (λ (u : Unit {0}). IsWord text ⋅ IsSymbol (codes ";")) always (ended_word_at text)
reads_ended_word text = after_word text (reads_symbol (codes ";"))

-- a version, by its word
abbrev VersionBy : Version → List ℕ → Version → Language
VersionBy v text = Image (λ (u : Unit {0}). v) (λ u. IsWord text)

begins_version : (v : Version) (text : List ℕ) (test : Lexeme → Bool) (b : Bool) →
    ((t : Lexeme) → is_word text t ≡ true → test t ≡ b)
    → Begins test b (VersionBy v text)
begins_version v text test b goes =
    begins_image (λ (u : Unit {0}). v) (λ u. IsWord text) test b (λ u tokens h. first_passes (is_word text) test b goes tokens h)

reads_first : IsReader (VersionBy First (codes "1")) always first_at
unfolding first_at
reads_first = reads_mapped (reads_word (codes "1")) (λ u. First) always (λ a t. refl)

reads_second : IsReader (VersionBy Second (codes "2")) always second_at
unfolding second_at
reads_second = reads_mapped (reads_word (codes "2")) (λ u. Second) always (λ a t. refl)

version_spelled : (v : Version) (tokens : List Lexeme) → Either (VersionBy First (codes "1"))
    (VersionBy Second (codes "2")) v tokens
    → SpellsVersion v tokens
version_spelled v tokens (inl h) = subst (λ (v : Version). SpellsVersion v tokens) h.is h.spelled
version_spelled v tokens (inr h) = subst (λ (v : Version). SpellsVersion v tokens) h.is h.spelled

spelled_version : (v : Version) (tokens : List Lexeme) → SpellsVersion v tokens
    → Either (VersionBy First (codes "1")) (VersionBy Second (codes "2")) v tokens
spelled_version First tokens h = inl (record { tree = tt; is = refl; spelled = h })
spelled_version Second tokens h = inr (record { tree = tt; is = refl; spelled = h })

reads_version : IsReader SpellsVersion always version_at
unfolding version_at
reads_version = reads_same
    (reads_choose reads_first reads_second (is_word (codes "1"))
    (begins_version First (codes "1") (is_word (codes "1")) true (λ t e. e))
    (begins_version Second (codes "2") (is_word (codes "1")) false (apart Word (codes "2") Word (codes "1") refl)))
    version_spelled spelled_version

-- ---- what follows the verdict

abbrev SpellsEnd : Unit {0} → Language
SpellsEnd u = IsWord (codes "end") ⋅ IsSymbol (codes ";")

-- the words that begin what follows the completions
abbrev after_completions : Lexeme → Bool
after_completions t = is_word (codes "log") t || is_word (codes "end") t

-- the words that begin what follows the verdict
abbrev after_verdict : Lexeme → Bool
after_verdict t = is_word (codes "completion") t || after_completions t

or_first : (a b : Bool) → a ≡ true → a || b ≡ true
or_first true b e = refl
or_first false b e = absurd (cc)

or_second : (a b : Bool) → b ≡ true → a || b ≡ true
or_second true b e = refl
or_second false b e = e

begins_end : (test : Lexeme → Bool) → ((t : Lexeme) → is_word (codes "end") t ≡ true → test t ≡ true) → Begins test true SpellsEnd
begins_end test goes = begins_fixed Semicolon Word (codes "end") test true goes

-- a log or none, and the end
abbrev LogAndEnd : ReadLog × Unit {0} → Language
LogAndEnd x = SpellsLogPart x.0 ⋅ SpellsEnd x.1

reads_log_and_end : IsReader LogAndEnd always (both log_part_at (ended_word_at (codes "end")))
reads_log_and_end =
    reads_log_part_then (reads_ended_word (codes "end")) (is_word (codes "end"))
    (begins_end (is_word (codes "end")) (λ t e. e)) end_ends_log

begins_log_and_end : Begins after_completions true LogAndEnd
begins_log_and_end =
    begins_log_part SpellsEnd after_completions true (λ t e. or_first (is_word (codes "log") t) (is_word (codes "end") t) e)
    (begins_end after_completions (λ t e. or_second (is_word (codes "log") t) (is_word (codes "end") t) e))

-- a word that begins what follows the completions is none of the others
after_completions_apart : (text : List ℕ) → bytes_eq (codes "log") text ≡ false → bytes_eq (codes "end") text ≡ false
    → (t : Lexeme) → after_completions t ≡ true → is_word text t ≡ false
after_completions_apart text log end t =
    either_apart (is_word (codes "log") t) (is_word (codes "end") t) (is_word text t)
    (apart Word (codes "log") Word text log t) (apart Word (codes "end") Word text end t)

completions_end : Ended ends_completions after_completions
completions_end cs t e =
    ended_up_to 4294967294 ends_completion (is_word (codes "completion")) cs t
    (λ c. ended_at 4294967294 (is_word (codes "ranking")) c.rankings t (after_completions_apart (codes "ranking") refl refl t e))
    (after_completions_apart (codes "completion") refl refl t e)

-- completions, a log or none, and the end
abbrev Body : List CompletionTree × (ReadLog × Unit {0}) → Language
Body x = SpellsCompletions x.0 ⋅ LogAndEnd x.1

reads_body : IsReader Body always (both completions_at (both log_part_at (ended_word_at (codes "end"))))
reads_body = reads_then reads_completions reads_log_and_end after_completions begins_log_and_end completions_end

begins_body : Begins after_verdict true Body
begins_body x tokens h = by x.0 h.first
  where
    seen : FirstIs after_completions true h.rest
    seen = begins_log_and_end x.1 h.rest h.second

    by : (cs : List CompletionTree) → SpellsCompletions cs h.front → FirstIs after_verdict true tokens
    by [] k = record {
      token = seen.token;
      rest = seen.rest;
      is = h.split ∙ ap (λ (l : List Lexeme). l ++ h.rest) k.spelled ∙ seen.is;
      answers = or_second (is_word (codes "completion") seen.token) (after_completions seen.token) seen.answers;
    }
    by (c ∷ cs) k =
        let f : FirstIs after_verdict true h.front =
        up_to_begins 4294967294 SpellsCompletion after_verdict true
        (begins_completion after_verdict (λ t e. or_first (is_word (codes "completion") t) (after_completions t) e))
        c cs h.front k in
        record {
          token = f.token;
          rest = f.rest ++ h.rest;
          is = h.split ∙ ap (λ (l : List Lexeme). l ++ h.rest) f.is;
          answers = f.answers;
        }

after_verdict_apart : (text : List ℕ) → bytes_eq (codes "completion") text ≡ false → bytes_eq (codes "log") text ≡
    false → bytes_eq (codes "end") text ≡ false
    → (t : Lexeme) → after_verdict t ≡ true → is_word text t ≡ false
after_verdict_apart text completion log end t =
    either_apart (is_word (codes "completion") t) (after_completions t) (is_word text t)
    (apart Word (codes "completion") Word text completion t) (after_completions_apart text log end t)

claim_ends : Ended ends_claim after_verdict
claim_ends Inconsistent t e = refl
claim_ends Consistent t e = refl
claim_ends Certain t e = refl
claim_ends (NotCertain relation attr earlier later) t e = refl
claim_ends (Same items) t e = ended_at 4294967294 (is_word (codes "current")) items t
    (after_verdict_apart (codes "current") refl refl refl t e)
claim_ends (NotSame relation attr entity) t e = refl
claim_ends (Answers items) t e = ended_at 4294967294 (is_word (codes "answer")) items t
    (after_verdict_apart (codes "answer") refl refl refl t e)
claim_ends (Undecided counted) t e = refl

-- ---- reports

pub reads_report : IsReader SpellsReport always report_at
unfolding report_at
reads_report =
    reads_made
    (after_word (codes "currency") (after_word (codes "report") (reads_two reads_version (after_symbol (codes ";")
    (reads_then reads_verdict reads_body after_verdict begins_body (λ v t e. claim_ends v.claim t e))))))
    (λ x. record { version = x.0; verdict = x.1.0; completions = x.1.1.0; log = x.1.1.1.0 }) always
    (λ a t. refl) (λ x tokens h. h)
    (λ r tokens h. record { tree = (r.version, (r.verdict, (r.completions, (r.log, tt)))); is = refl; spelled = h })
