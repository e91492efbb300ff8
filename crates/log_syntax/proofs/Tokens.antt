-- Numbers, literals and constants of logs.
use Rattle.std.proofs.Common.{◌≡◌, ℕ, true, false, not, ◌&&◌, List, refl, ap, ◌∙◌, Option, Some, None, option_map, codes}
use Rattle.std.specs.Option.{is_some}
use Rattle.std.specs.Str.{bytes_eq}
use Rattle.text_tokens.specs.Lexeme.{Lexeme}
use Rattle.text_tokens.specs.declared.token.TokenKind.{TokenKind}
use Rattle.text_tokens.specs.declared.token.TokenKind.TheVariants.{Word, Negative, Text, Symbol, Fault}
use Rattle.text_grammar.specs.Words.{constant, is_symbol, is_word, same_kind, value_in, value_on_line}
use Rattle.text_grammar.specs.declared.named.Const.{Const}
use Rattle.text_grammar.specs.Grammar.{Says}
use Rattle.text_grammar.specs.Laws.{IsReader}
use Rattle.text_grammar.specs.Reading.{one}
use Rattle.text_grammar.proofs.Readers.{always, Begins, Image, first_says, reads_made, reads_one}
use Rattle.text_grammar.proofs.FixedTokens.{fixed_is, reads_constant}
use Rattle.currency_base.specs.Number.{int_of}
use Rattle.currency_base.specs.declared.value.Value.{Value}
use Rattle.log_syntax.specs.Numbers.{constant_in, lit_in, lit_of, place_in, place_of, says_some}
use Rattle.log_syntax.specs.Grammar.{SpellsConstant, SpellsLit, SpellsNumber}
use Rattle.log_syntax.specs.Reading.{constant_at, is_inside, number_at}

-- a word
abbrev a_word : List ℕ → Lexeme
a_word text = record { kind = Word; text = text; start = 0; line = 0 }

-- ---- their readers

said_number : place_in (a_word (codes "1")) ≡ Some 0
unfolding int_of place_of
said_number = refl

pub reads_number : IsReader SpellsNumber always number_at
reads_number = reads_one place_in (a_word (codes "1")) 0 said_number

said_lit : lit_in (a_word (codes "1")) ≡ Some (record { 0 = 0 })
unfolding int_of lit_of
said_lit = refl

pub reads_lit : IsReader SpellsLit always (one lit_in)
reads_lit = reads_one lit_in (a_word (codes "1")) (record { 0 = 0 }) said_lit

pub begins_said : {A : Type 0} (says : Lexeme → Option A) → Begins (says_some says) true (Says says)
begins_said says = first_says (says_some says) true (λ t a e. ap is_some e)

value_said : (line : ℕ) (o : Option Value) (c : Const) → option_map (value_on_line line) o ≡ Some c → o ≡ Some c.value
value_said line None c e = absurd (cc)
value_said line (Some v) c e = ap (λ (o : Option Const). option_map (λ c. c.value) o) e

pub reads_constant_value : IsReader SpellsConstant always constant_at
unfolding constant_at
reads_constant_value = reads_made reads_constant (λ (c : Const). c.value) always (λ a t. refl) into back
  where
    into : (c : Const) (tokens : List Lexeme) → Says constant c tokens → SpellsConstant c.value tokens
    into c tokens h =
        record { token = h.token; alone = h.alone; said = value_said h.token.line (value_in h.token.kind h.token.text) c h.said }

    back : (v : Value) (tokens : List Lexeme) → SpellsConstant v tokens → Image (λ (c : Const). c.value) (Says constant) v tokens
    back v tokens h = record {
      tree = value_on_line h.token.line v;
      is = refl;
      spelled = record { token = h.token; alone = h.alone; said = ap (option_map (value_on_line h.token.line)) h.said };
    }

-- ---- what they are not

-- a symbol is no number and no literal
pub symbol_no_number : (text : List ℕ) (t : Lexeme) → is_symbol text t ≡ true → says_some place_in t ≡ false
symbol_no_number text t e = ap
    (λ (k : TokenKind). is_some (place_in (record { kind = k; text = t.text; start = t.start; line = t.line })))
    (fixed_is Symbol text t e).kind_is

pub symbol_no_lit : (text : List ℕ) (t : Lexeme) → is_symbol text t ≡ true → says_some lit_in t ≡ false
symbol_no_lit text t e = ap (λ (k : TokenKind). is_some
    (lit_in (record { kind = k; text = t.text; start = t.start; line = t.line }))) (fixed_is Symbol text t e).kind_is

-- nor is the word `by`
by_says_nothing : lit_in (a_word (codes "by")) ≡ None
unfolding int_of
by_says_nothing = refl

pub by_no_lit : (t : Lexeme) → is_word (codes "by") t ≡ true → says_some lit_in t ≡ false
by_no_lit t e =
    let f = fixed_is Word (codes "by") t e in
    ap (λ (k : TokenKind). is_some (lit_in (record { kind = k; text = t.text; start = t.start; line = t.line }))) f.kind_is
    ∙ ap (λ (x : List ℕ). is_some (lit_in (record { kind = Word; text = x; start = t.start; line = t.line }))) f.text_is
    ∙ ap is_some by_says_nothing

-- a constant closes no list
pub constant_inside : (t : Lexeme) (v : Value) → constant_in t ≡ Some v → is_inside t ≡ true
constant_inside t v e = by_kind t.kind t.text v e
  where
    by_kind : (k : TokenKind) (text : List ℕ) (v : Value) → value_in k text ≡ Some v
        → not (same_kind k Symbol && bytes_eq text (codes ")")) ≡ true
    by_kind Word text v e = refl
    by_kind Negative text v e = refl
    by_kind Text text v e = refl
    by_kind Symbol text v e = absurd (cc)
    by_kind Fault text v e = refl
