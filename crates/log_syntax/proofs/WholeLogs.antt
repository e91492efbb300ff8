-- Reading all tokens as a log, or none as the empty one.
use Rattle.std.proofs.Common.{◌≡◌, ℕ, Bor, List, map, refl, sym, ap, subst, ◌∙◌, Result, Ok, Err}
use Rattle.text_tokens.specs.Lexeme.{Lexeme, lexeme_of}
use Rattle.text_tokens.specs.declared.token.Token.{Token}
use Rattle.text_tokens.specs.declared.token.TextFault.{TextFault}
use Rattle.text_tokens.specs.declared.token.TextFault.TheVariants.{NotUtf8, Syntax, NoMemory}
use Rattle.text_grammar.specs.Grammar.{RefusedAt}
use Rattle.text_grammar.specs.Reading.{GivesWhole, Stop, refuse}
use Rattle.text_grammar.specs.declared.refusal.Refusal.{Refusal}
use Rattle.text_grammar.specs.declared.refusal.Refusal.TheVariants as refusal
use Rattle.text_grammar.proofs.TextLaws.{one_place}
use Rattle.refutation_log.specs.declared.log.Log.{Log}
use Rattle.log_syntax.specs.declared.trees.ReadLog.{ReadLog}
use Rattle.log_syntax.specs.Grammar.{SpellsLogPart}
use Rattle.log_syntax.specs.Reading.{log_of}
use Rattle.log_syntax.specs.Reads.{RefusesLog, SpellsLogOrNothing, line_at}
use Rattle.log_syntax.proofs.LogParts.{whole_log_part}

-- what was read is spelled
pub is_spelled : (tokens : List Lexeme) (r : ReadLog) → log_of tokens ≡ Ok r → SpellsLogOrNothing r.log tokens
is_spelled tokens r e = (r, refl, whole_log_part.right tokens r e)

-- what was refused is refused at its place
pub is_refused : (tokens : List Lexeme) (s : Stop) → log_of tokens ≡ Err s → RefusedAt SpellsLogOrNothing tokens s.left
is_refused tokens s e =
    let h : RefusedAt SpellsLogPart tokens s.left = whole_log_part.refused tokens s e in
    record {
      front = h.front;
      split = h.split;
      before = record { more = h.before.more; tree = h.before.tree.log; spelled = (h.before.tree, refl, h.before.spelled) };
      here = λ t rest f g. h.here t rest f (record { more = g.more; tree = g.spelled.0; spelled = g.spelled.2 });
      none = λ log k. h.none k.0 k.2;
    }

pub is_refused_on : (tokens : List Lexeme) (end line : ℕ) (s : Stop) → log_of tokens ≡ Err s → line ≡ line_at end s.left
    → RefusesLog tokens end (Syntax line)
is_refused_on tokens end line s e f = record { left = s.left; place = is_refused tokens s e; on_line = f }

-- what the code answers where it refuses
pub refusal_is : (tokens : List Lexeme) (end line : ℕ) (r : Refusal) (left : Bor (List Token))
    → GivesWhole {A = ReadLog} (Err r) (log_of tokens) → r ≡ refusal.Syntax left
    → line ≡ line_at end (map lexeme_of left.now) → RefusesLog tokens end (Syntax line)
refusal_is tokens end line r left h e f =
    is_refused_on tokens end line (refuse (map lexeme_of left.now))
    (subst (λ (r : Refusal). GivesWhole {A = ReadLog} (Err r) (log_of tokens)) e h) f

-- ---- one log, or one refusal

same_ok : (a b : ReadLog) → ◌≡◌ {A = Result ReadLog Stop} (Ok a) (Ok b) → a ≡ b
same_ok a b e = cc

one_read_log : (tokens : List Lexeme) (r q : ReadLog) → SpellsLogPart r tokens → SpellsLogPart q tokens → r ≡ q
one_read_log tokens r q h k = same_ok r q (sym (whole_log_part.all tokens r h) ∙ whole_log_part.all tokens q k)

pub one_log : (tokens : List Lexeme) (a b : Log) → SpellsLogOrNothing a tokens → SpellsLogOrNothing b tokens → a ≡ b
one_log tokens a b h k = sym h.1 ∙ ap (λ (r : ReadLog). r.log) (one_read_log tokens h.0 k.0 h.2 k.2) ∙ k.1

pub one_refusal : (tokens : List Lexeme) (end : ℕ) (e f : TextFault) → RefusesLog tokens end e → RefusesLog tokens end f → e ≡ f
one_refusal tokens end (NotUtf8 line) f h k = absurd h
one_refusal tokens end NoMemory f h k = absurd h
one_refusal tokens end (Syntax line) (NotUtf8 line') h k = absurd k
one_refusal tokens end (Syntax line) NoMemory h k = absurd k
one_refusal tokens end (Syntax line) (Syntax line') h k =
    ap (λ (n : ℕ). Syntax n) (h.on_line ∙ ap (line_at end) (one_place SpellsLogOrNothing tokens h.left k.left h.place
    k.place) ∙ sym k.on_line)

pub not_both : (tokens : List Lexeme) (end : ℕ) (log : Log) (e : TextFault) → SpellsLogOrNothing log tokens
    → RefusesLog tokens end e → ⊥
not_both tokens end log (Syntax line) h k = k.place.none log h
not_both tokens end log (NotUtf8 line) h k = k
not_both tokens end log NoMemory h k = k
