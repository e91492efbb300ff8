-- Which log tokens spell, and where they are refused.
use Rattle.std.specs.Prelude.{◌≡◌, ℕ, List, [], ◌∷◌}
use Rattle.text_tokens.specs.Lexeme.{Lexeme}
use Rattle.text_tokens.specs.declared.token.TextFault.{TextFault}
use Rattle.text_tokens.specs.declared.token.TextFault.TheVariants.{NotUtf8, Syntax, NoMemory}
use Rattle.text_grammar.specs.Grammar.{RefusedAt}
use Rattle.refutation_log.specs.declared.log.Log.{Log}
use Rattle.log_syntax.specs.Grammar.{SpellsLogPart}
use Rattle.log_syntax.specs.declared.trees.ReadLog.{ReadLog}

-- [ log ], whatever its lines: no token is the empty log
abbrev pub SpellsLogOrNothing : Log → List Lexeme → Type 0
SpellsLogOrNothing log tokens = (r : ReadLog) × (r.log ≡ log) × SpellsLogPart r tokens

-- the line of a refused place: that of the first token left, or the one where the tokens end
abbrev pub line_at : ℕ → List Lexeme → ℕ
line_at end [] = end
line_at end (t ∷ ts) = t.line

-- the tokens are refused on this line: that of the first one at which no log goes on, or of their end
pub record RefusedOn (tokens : List Lexeme) (end line : ℕ) : Type 0 where
  pub left : List Lexeme
  pub place : RefusedAt SpellsLogOrNothing tokens left
  pub on_line : line ≡ line_at end left

-- the tokens are refused with a fault
abbrev pub RefusesLog : List Lexeme → ℕ → TextFault → Type 0
RefusesLog tokens end (Syntax line) = RefusedOn tokens end line
RefusesLog tokens end (NotUtf8 line) = ⊥
RefusesLog tokens end NoMemory = ⊥
