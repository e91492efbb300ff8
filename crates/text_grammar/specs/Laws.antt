-- What a reader of a grammar keeps.
use Rattle.std.specs.Prelude.{◌≡◌, Bool, true, List, [], ◌∷◌, ◌++◌, Result, Ok, Err}
use Rattle.text_tokens.specs.Lexeme.{Lexeme}
use Rattle.text_grammar.specs.Grammar.{CanGoOn, RefusedAt}
use Rattle.text_grammar.specs.Reading.{Parser, Stop}

-- reading ends before these tokens: there are none, or the first one passes the test
abbrev pub Stopped : (Lexeme → Bool) → List Lexeme → Type 0
Stopped stop [] = Unit {0}
Stopped stop (t ∷ ts) = stop t ≡ true

-- the tokens are a spelling of the tree and then the rest, before which reading ends
pub record Reads {A : Type 0} (P : A → List Lexeme → Type 0) (stop : A → Lexeme → Bool) (tokens : List Lexeme)
    (tree : A) (rest : List Lexeme) : Type 0 where
  pub front : List Lexeme
  pub split : tokens ≡ front ++ rest
  pub spelled : P tree front
  pub stops : Stopped (stop tree) rest

-- what was read begins a spelling, and no spelling goes on with the next token
pub record HaltsAt {A : Type 0} (P : A → List Lexeme → Type 0) (tokens left : List Lexeme) : Type 0 where
  pub front : List Lexeme
  pub split : tokens ≡ front ++ left
  pub before : CanGoOn P front
  pub here : (t : Lexeme) (rest : List Lexeme) → left ≡ t ∷ rest → CanGoOn P (front ++ t ∷ []) → ⊥

-- a reader reads exactly the spellings of a grammar, which has some, from the front of the tokens. The test `stop`, which
-- may depend on the tree, says which next tokens end its spelling; the end of the text always does
pub record IsReader {A : Type 0} (P : A → List Lexeme → Type 0) (stop : A → Lexeme → Bool) (p : Parser A) : Type 0 where
  pub some : CanGoOn P []
  pub sound : (tokens : List Lexeme) (tree : A) (rest : List Lexeme) → p tokens ≡ Ok (tree, rest) → Reads P stop tokens tree rest
  pub complete : (tree : A) (front rest : List Lexeme) → P tree front → Stopped (stop tree) rest
      → p (front ++ rest) ≡ Ok (tree, rest)
  pub refused : (tokens : List Lexeme) (s : Stop) → p tokens ≡ Err s → HaltsAt P tokens s.left

-- a reader of whole texts gives exactly the trees that a grammar spells, and refuses each text at its first wrong token
pub record IsWhole {A : Type 0} (P : A → List Lexeme → Type 0) (read : List Lexeme → Result A Stop) : Type 0 where
  pub right : (tokens : List Lexeme) (tree : A) → read tokens ≡ Ok tree → P tree tokens
  pub all : (tokens : List Lexeme) (tree : A) → P tree tokens → read tokens ≡ Ok tree
  pub refused : (tokens : List Lexeme) (s : Stop) → read tokens ≡ Err s → RefusedAt P tokens s.left
