-- Fixed words and symbols, names, strings, variables and constants.
use Rattle.std.proofs.Common.{◌≡◌, ℕ, zero, suc, arith, Bool, true, false, ◌&&◌, ◌||◌, cond, List, [], ◌∷◌, refl, ap, ◌∙◌, Option, Some, None, option_map}
use Rattle.std.specs.Str.{IsAscii, bytes_eq, is_utf8}
use Rattle.std.proofs.lemmas.Str.{IsUtf8-from_ascii, IsUtf8-nil, is_utf8-from_IsUtf8}
use Rattle.std.proofs.lemmas.Slice.Eq.{bytes_eq-Decides}
use Rattle.text_tokens.specs.Lexeme.{Lexeme}
use Rattle.text_tokens.specs.declared.token.TokenKind.{TokenKind}
use Rattle.text_tokens.specs.declared.token.TokenKind.TheVariants.{Word, Negative, Text, Symbol, Fault}
use Rattle.text_grammar.specs.Words.{same_kind, is_fixed, is_word, is_symbol, named, quoted, variable, constant, on_line, value_on_line, text_value}
use Rattle.text_grammar.specs.declared.named.Named.{Named}
use Rattle.text_grammar.specs.Grammar.{◌⋅◌, Listed, Passes, Says, IsWord, IsSymbol, SpellsName, SpellsString}
use Rattle.text_grammar.specs.Reading.{Parser, one, passing, after, before, listed}
use Rattle.text_grammar.specs.Laws.{IsReader}
use Rattle.text_grammar.proofs.Readers.{always, Begins, Ended, first_then, first_passes, reads_one, reads_passing, reads_after, reads_before}
use Rattle.text_grammar.proofs.ListReaders.{unless, reads_listed_plain}

-- ---- what a fixed token is

is_kind : (k m : TokenKind) → same_kind k m ≡ true → k ≡ m
is_kind Word Word e = refl
is_kind Negative Negative e = refl
is_kind Text Text e = refl
is_kind Symbol Symbol e = refl
is_kind Fault Fault e = refl
is_kind _ _ e = absurd (cc)

kind_is : (k : TokenKind) → same_kind k k ≡ true
kind_is Word = refl
kind_is Negative = refl
kind_is Text = refl
kind_is Symbol = refl
kind_is Fault = refl

-- a fixed token has its kind and its bytes
pub record FixedIs (kind : TokenKind) (text : List ℕ) (t : Lexeme) : Type 0 where
  pub kind_is : t.kind ≡ kind
  pub text_is : t.text ≡ text

both_true : (a b : Bool) → a && b ≡ true → (a ≡ true) × (b ≡ true)
both_true true b e = (refl, e)
both_true false b e = absurd (cc)

pub fixed_is : (kind : TokenKind) (text : List ℕ) (t : Lexeme) → is_fixed kind text t ≡ true → FixedIs kind text t
fixed_is kind text t e =
    let h = both_true (same_kind t.kind kind) (bytes_eq t.text text) e in
    record { kind_is = is_kind t.kind kind h.0; text_is = (bytes_eq-Decides t.text text).0 h.1 }

-- some token is this one
pub a_fixed : TokenKind → List ℕ → Lexeme
a_fixed kind text = record { kind = kind; text = text; start = 0; line = 0 }

pub a_fixed_is : (kind : TokenKind) (text : List ℕ) → is_fixed kind text (a_fixed kind text) ≡ true
unfolding a_fixed
a_fixed_is kind text = ap (λ (b : Bool). b && bytes_eq text text) (kind_is kind) ∙ (bytes_eq-Decides text text).1 refl

-- a token is not both of two fixed ones: `refl` proves that they differ
pub apart : (kind : TokenKind) (text : List ℕ) (kind' : TokenKind) (text' : List ℕ) → same_kind kind kind'
    && bytes_eq text text' ≡ false
    → (t : Lexeme) → is_fixed kind text t ≡ true → is_fixed kind' text' t ≡ false
apart kind text kind' text' e t h =
    let f : FixedIs kind text t = fixed_is kind text t h in
    ap (λ (k : TokenKind). same_kind k kind' && bytes_eq t.text text') f.kind_is
    ∙ ap (λ (x : List ℕ). same_kind kind kind' && bytes_eq x text') f.text_is ∙ e

-- where each of two tests rules a third out, so does the test that passes where one of them does
pub either_apart : (a b d : Bool) → (a ≡ true → d ≡ false) → (b ≡ true → d ≡ false) → a || b ≡ true → d ≡ false
either_apart true b d f g e = f refl
either_apart false b d f g e = g e

-- ---- their readers

pub reads_fixed : (kind : TokenKind) (text : List ℕ) → IsReader (λ (u : Unit {0}). Passes (is_fixed kind text))
    always (passing (is_fixed kind text))
reads_fixed kind text = reads_passing (is_fixed kind text) (a_fixed kind text) (a_fixed_is kind text)

pub reads_word : (text : List ℕ) → IsReader (λ (u : Unit {0}). IsWord text) always (passing (is_word text))
reads_word text = reads_fixed Word text

pub reads_symbol : (text : List ℕ) → IsReader (λ (u : Unit {0}). IsSymbol text) always (passing (is_symbol text))
reads_symbol text = reads_fixed Symbol text

-- a fixed token and then a reader
pub after_word : {A : Type 0} {P : A → List Lexeme → Type 0} {stop : A → Lexeme → Bool} {p : Parser A}
    → (text : List ℕ) → IsReader P stop p → IsReader (λ a. IsWord text ⋅ P a) stop (after (is_word text) p)
after_word text r = reads_after (is_word text) (a_fixed Word text) (a_fixed_is Word text) r

pub after_symbol : {A : Type 0} {P : A → List Lexeme → Type 0} {stop : A → Lexeme → Bool} {p : Parser A}
    → (text : List ℕ) → IsReader P stop p → IsReader (λ a. IsSymbol text ⋅ P a) stop (after (is_symbol text) p)
after_symbol text r = reads_after (is_symbol text) (a_fixed Symbol text) (a_fixed_is Symbol text) r

-- a reader and then a fixed token, at which it ends
pub before_word : {A : Type 0} {P : A → List Lexeme → Type 0} {stop : A → Lexeme → Bool} {p : Parser A}
    → (text : List ℕ) → IsReader P stop p → Ended stop (is_word text) → IsReader (λ a. P a ⋅ IsWord text) always
    (before p (is_word text))
before_word text r goes = reads_before r (is_word text) (a_fixed Word text) (a_fixed_is Word text) goes

pub before_symbol : {A : Type 0} {P : A → List Lexeme → Type 0} {stop : A → Lexeme → Bool} {p : Parser A}
    → (text : List ℕ) → IsReader P stop p → Ended stop (is_symbol text) → IsReader (λ a. P a ⋅ IsSymbol text) always
    (before p (is_symbol text))
before_symbol text r goes = reads_before r (is_symbol text) (a_fixed Symbol text) (a_fixed_is Symbol text) goes

-- a list with a word or a symbol between two items that every token ends
pub listed_symbol : {A : Type 0} {P : A → List Lexeme → Type 0} {p : Parser A}
    → (text : List ℕ) → IsReader P always p → IsReader (Listed (IsSymbol text) P) (unless (is_symbol text))
    (listed (is_symbol text) p)
listed_symbol text r = reads_listed_plain r (is_symbol text) (a_fixed Symbol text) (a_fixed_is Symbol text)

pub listed_word : {A : Type 0} {P : A → List Lexeme → Type 0} {p : Parser A}
    → (text : List ℕ) → IsReader P always p → IsReader (Listed (IsWord text) P) (unless (is_word text)) (listed (is_word text) p)
listed_word text r = reads_listed_plain r (is_word text) (a_fixed Word text) (a_fixed_is Word text)

-- ---- what a rule begins with

-- a rule that begins with a fixed token, seen by the test for this or another one
pub begins_fixed : {A : Type 0} (P : A → List Lexeme → Type 0) (kind : TokenKind) (text : List ℕ)
    (test : Lexeme → Bool) (b : Bool)
    → ((t : Lexeme) → is_fixed kind text t ≡ true → test t ≡ b) → Begins test b (λ a. Passes (is_fixed kind text) ⋅ P a)
begins_fixed P kind text test b goes a tokens h = first_then test b (first_passes (is_fixed kind text) test b goes) h

-- ---- names and strings

no_bytes : is_utf8 [] ≡ true
no_bytes = is_utf8-from_IsUtf8 [] IsUtf8-nil

-- the empty string, which is a name
abbrev empty_string : Lexeme
empty_string = record { kind = Text; text = 34 ∷ 34 ∷ []; start = 0; line = 1 }

said : ◌≡◌ {A = Option Named} (option_map (on_line 1) (cond (is_utf8 []) (Some []) None)) (Some (record { name = []; line = 1 }))
said = ap (λ (b : Bool). option_map (on_line 1) (cond b (Some []) None)) no_bytes

pub reads_name : IsReader SpellsName always (one named)
reads_name = reads_one named empty_string (record { name = []; line = 1 }) said

pub reads_string : IsReader SpellsString always (one quoted)
reads_string = reads_one quoted empty_string (record { name = []; line = 1 }) said

-- ---- variables and constants

ascii_s : IsAscii (115 ∷ [])
ascii_s zero = omega arith
ascii_s (suc i) = omega arith

letter_s : is_utf8 (115 ∷ []) ≡ true
letter_s = is_utf8-from_IsUtf8 (115 ∷ []) (IsUtf8-from_ascii (115 ∷ []) ascii_s)

-- the word `s`, which is a variable
abbrev word_s : Lexeme
word_s = record { kind = Word; text = 115 ∷ []; start = 0; line = 1 }

pub reads_variable : IsReader (Says variable) always (one variable)
reads_variable = reads_one variable word_s (record { name = 115 ∷ []; line = 1 })
    (ap (λ (b : Bool). option_map (on_line 1) (cond b (Some (115 ∷ [])) None)) letter_s)

pub reads_constant : IsReader (Says constant) always (one constant)
reads_constant = reads_one constant empty_string (record { value = text_value []; line = 1 })
    (ap (λ (b : Bool). option_map (value_on_line 1) (option_map text_value (cond b (Some []) None))) no_bytes)
