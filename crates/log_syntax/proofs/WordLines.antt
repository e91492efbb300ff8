-- Words whose lines are kept.
use Rattle.std.proofs.Common.{◌≡◌, ℕ, Bool, true, false, cond, List, [], refl, ap, Option, Some, None}
use Rattle.text_tokens.specs.Lexeme.{Lexeme}
use Rattle.text_tokens.specs.declared.token.TokenKind.TheVariants.{Word}
use Rattle.text_grammar.specs.Words.{is_word}
use Rattle.text_grammar.specs.Grammar.{Language, ◌⋅◌}
use Rattle.text_grammar.specs.Reading.{one}
use Rattle.text_grammar.specs.Laws.{IsReader}
use Rattle.text_grammar.proofs.Readers.{always, FirstIs, first_then, reads_one}
use Rattle.text_grammar.proofs.FixedTokens.{a_fixed, a_fixed_is}
use Rattle.log_syntax.specs.Grammar.{IsWordOn, word_line}

pub reads_word_on : (text : List ℕ) → IsReader (IsWordOn text) always (one (word_line text))
reads_word_on text = reads_one (word_line text) (a_fixed Word text) (a_fixed Word text).line
    (ap (λ (b : Bool). cond b (Some (a_fixed Word text).line) None) (a_fixed_is Word text))

-- a rule that begins with a word whose line it keeps
pub begins_word_on : (text : List ℕ) (line : ℕ) (M : Language) (tokens : List Lexeme) → (IsWordOn text line ⋅ M)
    tokens → FirstIs (is_word text) true tokens
begins_word_on text line M tokens h = first_then (is_word text) true first h
  where
    passes : (b : Bool) (n m : ℕ) → ◌≡◌ {A = Option ℕ} (cond b (Some n) None) (Some m) → b ≡ true
    passes true n m e = refl
    passes false n m e = absurd (cc)

    first : (front : List Lexeme) → IsWordOn text line front → FirstIs (is_word text) true front
    first front h = record {
      token = h.token;
      rest = [];
      is = h.alone;
      answers = passes (is_word text h.token)
          h.token.line line h.said;
    }

-- the same, seen by the test for this or another word
pub begins_word_line : (text : List ℕ) (test : Lexeme → Bool) (b : Bool) → ((t : Lexeme) → is_word text t ≡ true → test t ≡ b)
    → (line : ℕ) (M : Language) (tokens : List Lexeme) → (IsWordOn text line ⋅ M) tokens → FirstIs test b tokens
begins_word_line text test b goes line M tokens h =
    let f : FirstIs (is_word text) true tokens = begins_word_on text line M tokens h in
    record { token = f.token; rest = f.rest; is = f.is; answers = goes f.token f.answers }
