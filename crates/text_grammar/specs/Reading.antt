-- Reading tokens from the left, with one token of sight.
use Rattle.std.specs.Prelude.{◌≡◌, ℕ, zero, suc, Bool, false, if◌then◌else◌, List, [], ◌∷◌, ◌++◌, length, map, Option, Some, None, Result, Ok, Err}
use Rattle.text_tokens.specs.Lexeme.{Lexeme, lexeme_of}
use Rattle.text_grammar.specs.declared.refusal.Refusal.{Refusal}
use Rattle.text_grammar.specs.declared.refusal.Refusal.TheVariants.{Syntax, NoMemory}

-- where reading stops: the tokens left, from the refused one on
pub record Stop : Type 0 where
  pub left : List Lexeme

-- what was read and the tokens after it, or where reading stopped
abbrev pub Outcome : Type 0 → Type 0
Outcome A = Result (A × List Lexeme) Stop

-- a reader of what stands at the front of the tokens
abbrev pub Parser : Type 0 → Type 0
Parser A = List Lexeme → Outcome A

-- the first token is refused
abbrev pub refuse : List Lexeme → Stop
refuse tokens = record { left = tokens }

-- what a function of the code answered is what the reader gives; of want of memory nothing is said
abbrev pub Gives : {T A : Type 0} → (T → A × List Lexeme) → Result T Refusal → Outcome A → Type 0
Gives view (Ok x) given = given ≡ Ok (view x)
Gives view (Err NoMemory) given = Unit {0}
Gives view (Err (Syntax left)) given = given ≡ Err (refuse (map lexeme_of left.now))

-- the first token passes the test
abbrev pub starts : (Lexeme → Bool) → List Lexeme → Bool
starts test [] = false
starts test (t ∷ ts) = test t

-- the tokens after the first one, where that one passes the test
abbrev pub taken : (Lexeme → Bool) → List Lexeme → Option (List Lexeme)
taken test [] = None
taken test (t ∷ ts) = if test t then Some ts else None

-- ---- readers made of smaller ones

-- what was read goes on to be read
abbrev pub and_then : {A B : Type 0} → Outcome A → (A → List Lexeme → Outcome B) → Outcome B
and_then (Ok x) next = next x.0 x.1
and_then (Err s) next = Err s

-- what was read, changed
abbrev pub changed : {A B : Type 0} → (A → B) → Outcome A → Outcome B
changed f (Ok x) = Ok (f x.0, x.1)
changed f (Err s) = Err s

-- what a token says, if anything, with the tokens from it on and those after it
abbrev pub answer : {A : Type 0} → Option A → List Lexeme → List Lexeme → Outcome A
answer None tokens rest = Err (refuse tokens)
answer (Some a) tokens rest = Ok (a, rest)

-- one token that says something
abbrev pub one : {A : Type 0} → (Lexeme → Option A) → Parser A
one says [] = Err (refuse [])
one says (t ∷ ts) = answer (says t) (t ∷ ts) ts

-- one token that passes a test
abbrev pub passing : (Lexeme → Bool) → Parser (Unit {0})
passing test [] = Err (refuse [])
passing test (t ∷ ts) = if test t then Ok (tt, ts) else Err (refuse (t ∷ ts))

-- one reader and then another
abbrev pub both : {A B : Type 0} → Parser A → Parser B → Parser (A × B)
both p q tokens = and_then (p tokens) (λ a rest. changed (λ b. (a, b)) (q rest))

-- what a reader reads, and then what one reads that hangs on it
abbrev pub continued : {A B : Type 0} → Parser A → (A → Parser B) → Parser B
continued p next tokens = and_then (p tokens) next

-- a fixed token and then what a reader reads
abbrev pub after : {A : Type 0} → (Lexeme → Bool) → Parser A → Parser A
after test p tokens = and_then (passing test tokens) (λ u rest. p rest)

-- what a reader reads and then a fixed token
abbrev pub before : {A : Type 0} → Parser A → (Lexeme → Bool) → Parser A
before p test tokens = and_then (p tokens) (λ a rest. changed (λ u. a) (passing test rest))

-- what a reader reads, changed
abbrev pub mapped : {A B : Type 0} → (A → B) → Parser A → Parser B
mapped f p tokens = changed f (p tokens)

-- what a reader reads where the first token passes the test, else nothing
abbrev pub maybe : {A : Type 0} → (Lexeme → Bool) → Parser A → Parser (Option A)
maybe test p [] = Ok (None, [])
maybe test p (t ∷ ts) = if test t then changed (λ a. Some a) (p (t ∷ ts)) else Ok (None, t ∷ ts)

-- one of two readers, the first where the first token passes the test
abbrev pub choose : {A : Type 0} → (Lexeme → Bool) → Parser A → Parser A → Parser A
choose test p q [] = q []
choose test p q (t ∷ ts) = if test t then p (t ∷ ts) else q (t ∷ ts)

-- more of a list
abbrev pub prepend : {A : Type 0} → List A → Outcome (List A) → Outcome (List A)
prepend xs outcome = changed (λ ys. xs ++ ys) outcome

-- a reader as long as the first token passes the test, at most so many times
abbrev pub many_within : {A : Type 0} → ℕ → (Lexeme → Bool) → Parser A → Parser (List A)
many_within zero test p tokens = Ok ([], tokens)
many_within (suc k) test p [] = Ok ([], [])
many_within (suc k) test p (t ∷ ts) =
    if test t then and_then (p (t ∷ ts)) (λ x rest. prepend (x ∷ []) (many_within k test p rest)) else Ok ([], t ∷ ts)

-- a reader as long as the first token passes the test
abbrev pub many : {A : Type 0} → (Lexeme → Bool) → Parser A → Parser (List A)
many test p tokens = many_within (length tokens) test p tokens

-- a reader once or more, with a separator between two
abbrev pub listed : {A : Type 0} → (Lexeme → Bool) → Parser A → Parser (List A)
listed separator p tokens = and_then (p tokens) (λ x rest. prepend (x ∷ []) (many separator (after separator p) rest))

-- a tree where no token is left
abbrev pub at_end : {A : Type 0} → A → List Lexeme → Result A Stop
at_end a [] = Ok a
at_end a (t ∷ ts) = Err (refuse (t ∷ ts))

-- a tree where what was read is the whole text
abbrev pub ended : {A : Type 0} → Outcome A → Result A Stop
ended (Ok x) = at_end x.0 x.1
ended (Err s) = Err s

-- a reader of the whole text
abbrev pub whole : {A : Type 0} → Parser A → List Lexeme → Result A Stop
whole p tokens = ended (p tokens)

-- what a function of the code answered for the whole text is what the reader gives; of want of memory nothing is said
abbrev pub GivesWhole : {A : Type 0} → Result A Refusal → Result A Stop → Type 0
GivesWhole (Ok a) given = given ≡ Ok a
GivesWhole (Err NoMemory) given = Unit {0}
GivesWhole (Err (Syntax left)) given = given ≡ Err (refuse (map lexeme_of left.now))
