-- Grammars: which lists of tokens spell a tree. A rule gives each tree the language of its spellings, made of smaller ones.
use Rattle.std.specs.Prelude.{◌≡◌, Bool, true, List, [], ◌∷◌, ◌++◌, Option, Some, None, ℕ}
use Rattle.text_tokens.specs.Lexeme.{Lexeme}
use Rattle.text_grammar.specs.Words.{named, quoted, is_word, is_symbol}
use Rattle.text_grammar.specs.declared.named.Named.{Named}

infixr 45 ◌⋅◌
-- ---- languages

-- a language, by the lists of tokens that belong to it
abbrev pub Language : Type 1
Language = List Lexeme → Type 0

-- no token
abbrev pub Nothing : Language
Nothing tokens = tokens ≡ []

-- a list of one language and then one of another
pub record Then (L M : List Lexeme → Type 0) (tokens : List Lexeme) : Type 0 where
  pub front : List Lexeme
  pub rest : List Lexeme
  pub split : tokens ≡ front ++ rest
  pub first : L front
  pub second : M rest

abbrev pub ◌⋅◌ : Language → Language → Language
L ⋅ M = Then L M

-- one token that passes a test
pub record Passes (test : Lexeme → Bool) (tokens : List Lexeme) : Type 0 where
  pub token : Lexeme
  pub alone : tokens ≡ token ∷ []
  pub passes : test token ≡ true

-- this very word
abbrev pub IsWord : List ℕ → Language
IsWord text = Passes (is_word text)

-- this very symbol
abbrev pub IsSymbol : List ℕ → Language
IsSymbol text = Passes (is_symbol text)

-- one token that says a
pub record Says {A : Type 0} (says : Lexeme → Option A) (a : A) (tokens : List Lexeme) : Type 0 where
  pub token : Lexeme
  pub alone : tokens ≡ token ∷ []
  pub said : says token ≡ Some a

-- one token that is a name, and the line where it stands
abbrev pub SpellsName : Named → Language
SpellsName n = Says named n

-- one token that is a string, and the line where it stands
abbrev pub SpellsString : Named → Language
SpellsString n = Says quoted n

-- once or not at all
abbrev pub Maybe : {A : Type 0} → (A → Language) → Option A → Language
Maybe P None = Nothing
Maybe P (Some a) = P a

-- any number of times
abbrev pub Many : {A : Type 0} → (A → Language) → List A → Language
Many P [] = Nothing
Many P (x ∷ xs) = P x ⋅ Many P xs

-- once or more, with a separator between two
abbrev pub Listed : {A : Type 0} → Language → (A → Language) → List A → Language
Listed separator P [] = λ tokens. ⊥
Listed separator P (x ∷ xs) = P x ⋅ Many (λ y. separator ⋅ P y) xs

-- ---- where a text is refused

-- some tree's spelling begins with these tokens
pub record CanGoOn {A : Type 0} (P : A → List Lexeme → Type 0) (tokens : List Lexeme) : Type 0 where
  pub more : List Lexeme
  pub tree : A
  pub spelled : P tree (tokens ++ more)

-- what is left begins with the first token at which no tree's spelling goes on, and is empty where the tokens end too early
pub record RefusedAt {A : Type 0} (P : A → List Lexeme → Type 0) (tokens left : List Lexeme) : Type 0 where
  pub front : List Lexeme
  pub split : tokens ≡ front ++ left
  pub before : CanGoOn P front
  pub here : (t : Lexeme) (rest : List Lexeme) → left ≡ t ∷ rest → CanGoOn P (front ++ t ∷ []) → ⊥
  pub none : (tree : A) → P tree tokens → ⊥
