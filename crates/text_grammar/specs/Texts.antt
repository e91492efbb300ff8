-- Reading a whole text, and where it is refused.
use Rattle.std.specs.Prelude.{◌≡◌, ℕ, List, [], ◌∷◌, IsUtf8, Ok, Err}
use Rattle.text_tokens.specs.Lexeme.{Lexeme}
use Rattle.text_tokens.specs.Tokens.{TokensOf, first_wrong_line, line_after}
use Rattle.text_tokens.specs.declared.token.TextFault.{TextFault}
use Rattle.text_tokens.specs.declared.token.TextFault.TheVariants.{NotUtf8, Syntax, NoMemory}
use Rattle.text_grammar.specs.Grammar.{RefusedAt}
use Rattle.text_grammar.specs.Reading.{Parser, refuse, whole}

-- a text is read as a tree: it is UTF-8, and the tree is spelled by its tokens
pub record ReadsText {A : Type 0} (P : A → List Lexeme → Type 0) (source : List ℕ) (tree : A) : Type 0 where
  pub utf8 : IsUtf8 source
  pub lexemes : List Lexeme
  pub tokens : TokensOf source lexemes
  pub spelled : P tree lexemes

-- the line of a refused place: that of the first token left, or the one where the text ends
abbrev pub line_at : List ℕ → List Lexeme → ℕ
line_at source [] = line_after source
line_at source (t ∷ ts) = t.line

-- the text's tokens are refused on this line
pub record RefusedOn {A : Type 0} (P : A → List Lexeme → Type 0) (source : List ℕ) (line : ℕ) : Type 0 where
  pub utf8 : IsUtf8 source
  pub lexemes : List Lexeme
  pub tokens : TokensOf source lexemes
  pub left : List Lexeme
  pub place : RefusedAt P lexemes left
  pub on_line : line ≡ line_at source left

-- a text is refused with a fault
abbrev pub RefusesText : {A : Type 0} → (A → List Lexeme → Type 0) → List ℕ → TextFault → Type 0
RefusesText P source (NotUtf8 line) = (IsUtf8 source → ⊥) × (line ≡ first_wrong_line source)
RefusesText P source (Syntax line) = RefusedOn P source line
RefusesText P source NoMemory = ⊥

-- ---- the same by a reader

-- a reader reads the text as a tree
pub record WholeRead {A : Type 0} (p : Parser A) (source : List ℕ) (tree : A) : Type 0 where
  pub utf8 : IsUtf8 source
  pub lexemes : List Lexeme
  pub tokens : TokensOf source lexemes
  pub read : whole p lexemes ≡ Ok tree

-- a reader stops on this line
pub record WholeStops {A : Type 0} (p : Parser A) (source : List ℕ) (line : ℕ) : Type 0 where
  pub utf8 : IsUtf8 source
  pub lexemes : List Lexeme
  pub tokens : TokensOf source lexemes
  pub left : List Lexeme
  pub read : whole p lexemes ≡ Err (refuse left)
  pub on_line : line ≡ line_at source left

-- a reader refuses the text with a fault
abbrev pub WholeRefused : {A : Type 0} → Parser A → List ℕ → TextFault → Type 0
WholeRefused p source (NotUtf8 line) = (IsUtf8 source → ⊥) × (line ≡ first_wrong_line source)
WholeRefused p source (Syntax line) = WholeStops p source line
WholeRefused p source NoMemory = ⊥
