-- Which tokens are variables, and which are not.
use Rattle.std.proofs.Common.{◌≡◌, ℕ, ◌≤◌, Bool, true, false, not, ◌&&◌, ◌||◌, cond, List, [], ◌∷◌, length, ltb, refl, sym, ap, ◌∙◌, arith, Some, None, option_map, codes}
use Rattle.std.specs.Prelude.{◌==◌}
use Rattle.std.specs.Char.{is_ascii_digit}
use Rattle.std.specs.Str.{bytes_eq, all_ascii_digits}
use Rattle.text_tokens.specs.Lexeme.{Lexeme}
use Rattle.text_tokens.specs.declared.token.TokenKind.{TokenKind}
use Rattle.text_tokens.specs.declared.token.TokenKind.TheVariants.{Word, Negative, Text, Symbol, Fault}
use Rattle.currency_base.specs.Number.{int_of}
use Rattle.text_grammar.specs.Words.{same_kind, is_word, is_letter, begins_with_letter, is_reserved, is_variable, is_variable_token, as_text, variable, variable_in, on_line, constant, value_in, value_on_line, int_value}
use Rattle.text_grammar.specs.declared.named.Const.{Const}
use Rattle.text_grammar.specs.declared.named.Named.{Named}

-- ---- a token that spells a variable is one

variable_by : (k : TokenKind) (text : List ℕ) (line : ℕ) (v : Named) → option_map (on_line line)
    (variable_in k text) ≡ Some v → same_kind k Word && is_variable text ≡ true
variable_by Word text line v e = by (is_variable text) e
  where
    by : (b : Bool) → option_map (on_line line) (cond b (as_text text) None) ≡ Some v → b ≡ true
    by true e = refl
    by false e = absurd (cc)
variable_by Negative text line v e = absurd (cc)
variable_by Text text line v e = absurd (cc)
variable_by Symbol text line v e = absurd (cc)
variable_by Fault text line v e = absurd (cc)

pub variable_is : (t : Lexeme) (v : Named) → variable t ≡ Some v → is_variable_token t ≡ true
variable_is t v e = variable_by t.kind t.text t.line v e

-- ---- it is no reserved word

second_true : (a b : Bool) → a && b ≡ true → b ≡ true
second_true true b e = e
second_true false b e = absurd (cc)

first_true : (a b : Bool) → a && b ≡ true → a ≡ true
first_true true b e = refl
first_true false b e = absurd (cc)

neither_first : (a b c k : Bool) → not (a || b || c) ≡ true → k && a ≡ false
neither_first true b c k e = absurd (cc)
neither_first false b c true e = refl
neither_first false b c false e = refl

neither_second : (a b c k : Bool) → not (a || b || c) ≡ true → k && b ≡ false
neither_second true b c k e = absurd (cc)
neither_second false true c k e = absurd (cc)
neither_second false false c true e = refl
neither_second false false c false e = refl

not_reserved : (t : Lexeme) → is_variable_token t ≡ true → not (is_reserved t.text) ≡ true
not_reserved t e =
    second_true (begins_with_letter t.text) (not (is_reserved t.text))
    (first_true (begins_with_letter t.text && not (is_reserved t.text)) (not (bytes_eq t.text (codes "_")))
    (second_true (same_kind t.kind Word) (is_variable t.text) e))

pub variable_not_if : (t : Lexeme) → is_variable_token t ≡ true → is_word (codes "if") t ≡ false
variable_not_if t e =
    neither_first (bytes_eq t.text (codes "if")) (bytes_eq t.text (codes "false")) (bytes_eq t.text (codes "orders"))
    (same_kind t.kind Word) (not_reserved t e)

pub variable_not_false : (t : Lexeme) → is_variable_token t ≡ true → is_word (codes "false") t ≡ false
variable_not_false t e =
    neither_second (bytes_eq t.text (codes "if")) (bytes_eq t.text (codes "false"))
    (bytes_eq t.text (codes "orders")) (same_kind t.kind Word) (not_reserved t e)

-- ---- and no constant

letter_above : (c : ℕ) → is_letter c ≡ true → 58 ≤ c
letter_above c e = grind arith

letter_no_minus : (c : ℕ) → is_letter c ≡ true → (c == 45) ≡ false
letter_no_minus c e = (let h : 58 ≤ c = letter_above c e in grind arith)

letter_no_digit : (c : ℕ) → is_letter c ≡ true → is_ascii_digit c ≡ false
letter_no_digit c e = (let h : 58 ≤ c = letter_above c e in grind arith)

no_digits : {A : Type 0} (k b c : Bool) (v : A) → cond (k && (false && b) && c) (Some v) None ≡ None
no_digits true b c v = refl
no_digits false b c v = refl

no_number : (text : List ℕ) → begins_with_letter text ≡ true → int_of text ≡ None
unfolding int_of
no_number [] e = absurd (cc)
no_number (c ∷ cs) e = rw (letter_no_minus c e, letter_no_digit c e)
    (no_digits (ltb 0 (length (c ∷ cs))) (all_ascii_digits cs) _ _)

constant_by : (k : TokenKind) (text : List ℕ) (line : ℕ) (c : Const) → option_map (value_on_line line)
    (value_in k text) ≡ Some c → same_kind k Word && is_variable text ≡ false
constant_by Word text line c e = by (is_variable text) refl
  where
    by : (b : Bool) → is_variable text ≡ b → b ≡ false
    by false f = refl
    by true f = absurd (
        let none : int_of text ≡ None = no_number text
        (first_true (begins_with_letter text) _ (first_true (begins_with_letter text && not (is_reserved text)) _ f)) in
        let said : option_map (value_on_line line) (option_map int_value None) ≡ Some c =
        ap (λ (n : _). option_map (value_on_line line) (option_map int_value n)) (sym none) ∙ e in
        cc)
constant_by Negative text line c e = refl
constant_by Text text line c e = refl
constant_by Symbol text line c e = refl
constant_by Fault text line c e = refl

pub constant_is_no_variable : (t : Lexeme) (c : Const) → constant t ≡ Some c → is_variable_token t ≡ false
constant_is_no_variable t c e = constant_by t.kind t.text t.line c e
