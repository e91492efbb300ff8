-- Single tokens are written in tokens that say the same, their lines aside.
use Rattle.std.proofs.Common.{◌≡◌, ℕ, ◌<◌, ◌≤◌, ◌^◌, Bool, true, false, cond, List, [], ◌∷◌, map, refl, sym, ◌∙◌, ap, subst, arith, zero, suc, drop, Option, Some, None, option_map, IsUtf8, ℤ, pos, negsuc, neg_ℤ, ◌≤ℤ◌, nat_le, nat_lt}
use Rattle.std.specs.Prelude.{All, Contains, ◌&&◌, ◌<ℤ◌}
use Rattle.std.specs.Str.{is_utf8}
use Rattle.std.specs.Str.Parse.{digits_value, starts_with_minus}
use Rattle.std.proofs.lemmas.Bool.{ltb-true, leb-true}
use Rattle.std.proofs.lemmas.Int.{ints}
use Rattle.std.proofs.lemmas.List.Elements.{All-nil, All-cons, All-head}
use Rattle.std.proofs.lemmas.Slice.Eq.{bytes_eq-Decides}
use Rattle.std.proofs.lemmas.Str.{IsUtf8-from_is_utf8}
use Rattle.currency_base.specs.Number.{int_of, is_numeral, negative_of, positive_of}
use Rattle.currency_base.specs.declared.value.Cmp.{Cmp}
use Rattle.currency_base.specs.declared.value.Cmp.TheVariants.{Eq, Ne, Lt, Le, Gt, Ge}
use Rattle.currency_base.specs.declared.value.ValueKind.{ValueKind}
use Rattle.currency_base.specs.declared.value.ValueKind.TheVariants as kind
use Rattle.currency_base.specs.declared.value.Value.{Value}
use Rattle.text_tokens.specs.Lexeme.{Lexeme}
use Rattle.text_tokens.specs.declared.token.TokenKind.{TokenKind}
use Rattle.text_tokens.specs.declared.token.TokenKind.TheVariants.{Word, Negative, Text, Symbol, Fault}
use Rattle.text_grammar.specs.Grammar.{IsSymbol, IsWord, Passes, Says, SpellsName, SpellsString}
use Rattle.text_grammar.specs.Words.{as_text, constant, content, int_value, is_fixed, is_reserved, is_variable, name_in, named, on_line, quoted, string_in, text_value, value_in, value_on_line, variable, variable_in}
use Rattle.text_grammar.specs.declared.named.Const.{Const}
use Rattle.text_grammar.specs.declared.named.Named.{Named}
use Rattle.text_grammar.proofs.FixedTokens.{FixedIs, fixed_is}
use Rattle.rule_syntax.specs.Grammar.{SpellsConst, SpellsVariable, cmp_named}
use Rattle.spec_syntax.specs.Grammar.{kind_named}
use Rattle.text_write.specs.Pieces.{Piece, piece_of, symbol_piece, word_piece}
use Rattle.text_write.specs.Spelling.{name_piece, string_piece, value_piece}
use Rattle.text_write.specs.Written.{AreWordBytes, HasTokens, IsPiece, symbols}
use Rattle.currency_base.specs.Values.{IsValue}
use Rattle.spec_write.specs.Pieces.{cmp_pieces, cmp_text, const_pieces, document_pieces, kind_pieces, kind_text, name_pieces, symbol, variable_pieces, word}
use Rattle.spec_write.specs.Unlined.{unlined_const, unlined_name}
use Rattle.spec_write.proofs.Rewritten.{IsKept, IsRewritten}
use Rattle.spec_write.proofs.Words.{IsToken}

-- what is known of written names, strings and values
pub record Laws : Type 0 where
  pub tokens : (pieces : List Piece) → All IsPiece pieces → HasTokens pieces
  pub name_read : (bytes : List ℕ) → IsUtf8 bytes → (t : Lexeme) → piece_of t ≡ name_piece bytes → named t ≡ Some
      (on_line t.line bytes)
  pub string_read : (bytes : List ℕ) → IsUtf8 bytes → (t : Lexeme) → piece_of t ≡ string_piece bytes
      → quoted t ≡ Some (on_line t.line bytes)
  pub value_read : (v : Value) → IsValue v → (t : Lexeme) → piece_of t ≡ value_piece v → constant t ≡ Some
      (value_on_line t.line v)
  pub name_whole : (bytes : List ℕ) → IsUtf8 bytes → IsPiece (name_piece bytes)
  pub string_whole : (bytes : List ℕ) → IsUtf8 bytes → IsPiece (string_piece bytes)
  pub value_whole : (v : Value) → IsValue v → IsPiece (value_piece v)

-- ---- one token

-- one token that is this piece
record IsOne (p : Piece) (tokens : List Lexeme) : Type 0 where
  token : Lexeme
  alone : tokens ≡ token ∷ []
  is : piece_of token ≡ p

is_one : (p : Piece) (tokens : List Lexeme) → map piece_of tokens ≡ p ∷ [] → IsOne p tokens
is_one p [] e = absurd (cc)
is_one p (t ∷ []) e = record { token = t; alone = refl; is = cc }
is_one p (t ∷ (u ∷ ts)) e = absurd (cc)

one_whole : (p : Piece) → IsPiece p → All IsPiece (p ∷ [])
one_whole p h = All-cons IsPiece p [] h (All-nil IsPiece)

alone_is : (t : Lexeme) (tokens : List Lexeme) → tokens ≡ t ∷ [] → All IsToken tokens → IsToken t
alone_is t tokens e h = All-head IsToken t [] (subst (All IsToken) e h)

-- ---- fixed tokens

-- a fixed token is known by its piece
same_fixed : (kind : TokenKind) (text : List ℕ) (t : Lexeme) → piece_of t ≡ record { kind = kind; text = text }
    → is_fixed kind text t ≡ true
same_fixed kind text t e =
    ap (λ (p : Piece). is_fixed kind text (record { kind = p.kind; text = p.text; start = 0; line = 0 })) e ∙ fixed kind text
  where
    fixed : (kind : TokenKind) (text : List ℕ) → is_fixed kind text
        (record { kind = kind; text = text; start = 0; line = 0 }) ≡ true
    fixed Word text = (bytes_eq-Decides text text).1 refl
    fixed Negative text = (bytes_eq-Decides text text).1 refl
    fixed Text text = (bytes_eq-Decides text text).1 refl
    fixed Symbol text = (bytes_eq-Decides text text).1 refl
    fixed Fault text = (bytes_eq-Decides text text).1 refl

fixed_again : (kind : TokenKind) (text : List ℕ) (others : List Lexeme) → map piece_of others ≡
    record { kind = kind; text = text } ∷ [] → Passes (is_fixed kind text) others
fixed_again kind text others e =
    let o : IsOne (record { kind = kind; text = text }) others = is_one (record { kind = kind; text = text }) others e in
    record { token = o.token; alone = o.alone; passes = same_fixed kind text o.token o.is }

pub kept_word : (text : List ℕ) → IsKept (IsWord text) (word text)
kept_word text = record {
  whole = λ tokens h s. (
      let f : FixedIs Word text s.token = fixed_is Word text s.token s.passes in
      let bytes : AreWordBytes s.token.text = (alone_is s.token tokens s.alone h).word f.kind_is in
      one_whole (word_piece text) (record { whole = subst AreWordBytes f.text_is bytes }));
  again = λ tokens others s e. fixed_again Word text others e;
}

pub kept_symbol : (text : List ℕ) → Contains symbols text → IsKept (IsSymbol text) (symbol text)
kept_symbol text h = record {
  whole = λ tokens k s. one_whole (symbol_piece text) (record { whole = h });
  again = λ tokens others s e. fixed_again Symbol text others e;
}

-- ---- tokens that say something

-- what tokens say is written in whole pieces, which say the same
pub rewritten_says : {A : Type 0} (says : Lexeme → Option A) (piece : A → Piece) (unlined : A → A)
    → ((t : Lexeme) (a : A) → IsToken t → says t ≡ Some a → IsPiece (piece a))
    → ((t u : Lexeme) (a : A) → says t ≡ Some a → piece_of u ≡ piece a → (b : A) × (says u ≡ Some b) × (unlined b ≡ unlined a))
    → IsRewritten (Says says) (λ a. piece a ∷ []) unlined
rewritten_says {A} says piece unlined whole again = record {
  whole = λ a tokens h s. one_whole (piece a) (whole s.token a (alone_is s.token tokens s.alone h) s.said);
  again = λ a tokens others s e. (
      let o : IsOne (piece a) others = is_one (piece a) others e in
      let f : (b : A) × (says o.token ≡ Some b) × (unlined b ≡ unlined a) = again s.token o.token a s.said o.is in
      record { tree = f.0; spelled = record { token = o.token; alone = o.alone; said = f.1 }; same = f.2 });
}

-- what is text
text_is : (bytes found : List ℕ) (b : Bool) → is_utf8 bytes ≡ b → ◌≡◌ {A = Option (List ℕ)}
    (cond b (Some bytes) None) (Some found) → IsUtf8 found
text_is bytes found true h e = subst IsUtf8 (cc) (IsUtf8-from_is_utf8 bytes h)
text_is bytes found false h e = absurd (cc)

as_text_is : (bytes found : List ℕ) → as_text bytes ≡ Some found → IsUtf8 found
as_text_is bytes found e = text_is bytes found (is_utf8 bytes) refl e

string_is_text : (k : TokenKind) (text found : List ℕ) → string_in k text ≡ Some found → IsUtf8 found
string_is_text Word text found e = absurd (cc)
string_is_text Negative text found e = absurd (cc)
string_is_text Text text found e = as_text_is (content text) found e
string_is_text Symbol text found e = absurd (cc)
string_is_text Fault text found e = absurd (cc)

name_is_text : (k : TokenKind) (text found : List ℕ) → name_in k text ≡ Some found → IsUtf8 found
name_is_text Word text found e = by (is_reserved text) e
  where
    by : (b : Bool) → ◌≡◌ {A = Option (List ℕ)} (cond b None (as_text text)) (Some found) → IsUtf8 found
    by true h = absurd (cc)
    by false h = as_text_is text found h
name_is_text Negative text found e = string_is_text Negative text found e
name_is_text Text text found e = string_is_text Text text found e
name_is_text Symbol text found e = string_is_text Symbol text found e
name_is_text Fault text found e = string_is_text Fault text found e

-- what is on a line
record WasFound {A B : Type 0} (f : A → B) (o : Option A) (b : B) : Type 0 where
  found : A
  is : o ≡ Some found
  gives : f found ≡ b

was_found : {A B : Type 0} (f : A → B) (o : Option A) (b : B) → option_map f o ≡ Some b → WasFound f o b
was_found f None b e = absurd (cc)
was_found f (Some a) b e = record { found = a; is = refl; gives = cc }

utf8_name : (t : Lexeme) (n : Named) → named t ≡ Some n → IsUtf8 n.name
utf8_name t n e =
    let w : WasFound (on_line t.line) (name_in t.kind t.text) n = was_found (on_line t.line) (name_in t.kind t.text) n e in
    subst IsUtf8 (ap (λ (x : Named). x.name) w.gives) (name_is_text t.kind t.text w.found w.is)

utf8_string : (t : Lexeme) (n : Named) → quoted t ≡ Some n → IsUtf8 n.name
utf8_string t n e =
    let w : WasFound (on_line t.line) (string_in t.kind t.text) n = was_found (on_line t.line) (string_in t.kind t.text) n e in
    subst IsUtf8 (ap (λ (x : Named). x.name) w.gives) (string_is_text t.kind t.text w.found w.is)

pub rewritten_name : Laws → IsRewritten SpellsName name_pieces unlined_name
rewritten_name laws = rewritten_says named (λ n. name_piece n.name) unlined_name
    (λ t n h e. laws.name_whole n.name (utf8_name t n e))
    (λ t u n e same. (on_line u.line n.name, laws.name_read n.name (utf8_name t n e) u same, refl))

pub rewritten_document : Laws → IsRewritten SpellsString document_pieces unlined_name
rewritten_document laws = rewritten_says quoted (λ n. string_piece n.name) unlined_name
    (λ t n h e. laws.string_whole n.name (utf8_string t n e))
    (λ t u n e same. (on_line u.line n.name, laws.string_read n.name (utf8_string t n e) u same, refl))

-- ---- variables

-- a token that spells a variable is a word, which is the variable
record IsVariable (t : Lexeme) (v : Named) : Type 0 where
  kind_is : t.kind ≡ Word
  text_is : t.text ≡ v.name
  said : variable_in Word v.name ≡ Some v.name

variable_word : (k : TokenKind) (text found : List ℕ) → variable_in k text ≡ Some found → (k ≡ Word) × (text ≡ found)
variable_word Word text found e = by (is_variable text) (is_utf8 text) e
  where
    by : (b c : Bool) → ◌≡◌ {A = Option (List ℕ)} (cond b (cond c (Some text) None) None) (Some found) →
        (Word ≡ Word) × (text ≡ found)
    by true true h = (refl, cc)
    by true false h = absurd (cc)
    by false c h = absurd (cc)
variable_word Negative text found e = absurd (cc)
variable_word Text text found e = absurd (cc)
variable_word Symbol text found e = absurd (cc)
variable_word Fault text found e = absurd (cc)

is_a_variable : (t : Lexeme) (v : Named) → variable t ≡ Some v → IsVariable t v
is_a_variable t v e =
    let w : WasFound (on_line t.line) (variable_in t.kind t.text) v = was_found (on_line t.line)
    (variable_in t.kind t.text) v e in
    let h : (t.kind ≡ Word) × (t.text ≡ w.found) = variable_word t.kind t.text w.found w.is in
    let found : w.found ≡ v.name = ap (λ (x : Named). x.name) w.gives in
    let text : t.text ≡ v.name = h.1 ∙ found in
    record {
      kind_is = h.0;
      text_is = text;
      said = sym (ap (λ (k : TokenKind). variable_in k v.name) h.0) ∙ sym (ap (variable_in t.kind) text) ∙ w.is
          ∙ ap (λ (x : List ℕ). Some x) found;
    }

variable_again : (t u : Lexeme) (v : Named) → IsVariable t v → piece_of u ≡ word_piece v.name → variable u ≡ Some
    (on_line u.line v.name)
variable_again t u v h e =
    ap (λ (p : Piece). option_map (on_line u.line) (variable_in p.kind p.text)) e ∙ ap (option_map (on_line u.line)) h.said

pub rewritten_variable : IsRewritten SpellsVariable variable_pieces unlined_name
rewritten_variable = rewritten_says variable (λ v. word_piece v.name) unlined_name
    (λ t v h e. (let k : IsVariable t v = is_a_variable t v e in record {
      whole = subst AreWordBytes k.text_is
          (h.word k.kind_is);
    }))
    (λ t u v e same. (on_line u.line v.name, variable_again t u v (is_a_variable t v e) same, refl))

-- ---- constants

-- the number fits 64 signed bits
abbrev Fits64 : ℤ → Type 0
Fits64 n = (neg_ℤ (pos (2 ^ 63)) ≤ℤ n) × (n <ℤ pos (2 ^ 63))

pos_fits : (d : ℕ) (b c : Bool) (n : ℤ) → (c ≡ true → d < 2 ^ 63) → cond (b && c) (Some (pos d)) None ≡ Some n → Fits64 n
pos_fits d true true n h e = subst Fits64 (cc) (let small : d < 2 ^ 63 = h refl in let fits : Fits64 (pos d) =
    (omega (arith, ints), omega (arith, ints)) in fits)
pos_fits d true false n h e = absurd (cc)
pos_fits d false c n h e = absurd (cc)

neg_fits : (d : ℕ) (b c : Bool) (n : ℤ) → (c ≡ true → d ≤ 2 ^ 63) → cond (b && c) (Some (neg_ℤ (pos d))) None ≡ Some n → Fits64 n
neg_fits zero true true n h e = subst Fits64 (cc) (let fits : Fits64 (pos 0) = (omega (arith, ints), omega (arith, ints)) in fits)
neg_fits (suc d) true true n h e = subst Fits64 (cc) (let small : suc d ≤ 2 ^ 63 = h refl in let fits : Fits64
    (negsuc d) = (omega (arith, ints), omega (arith, ints)) in fits)
neg_fits d true false n h e = absurd (cc)
neg_fits d false c n h e = absurd (cc)

int_fits : (text : List ℕ) (n : ℤ) → int_of text ≡ Some n → Fits64 n
unfolding int_of
int_fits text n e = by (starts_with_minus text) e
  where
    by : (b : Bool) → cond b (negative_of (drop 1 text)) (positive_of text) ≡ Some n → Fits64 n
    by true h = neg_fits (digits_value 10 (drop 1 text)) (is_numeral (drop 1 text))
        (nat_le (digits_value 10 (drop 1 text)) (2 ^ 63)) n (leb-true _ (2 ^ 63)) h
    by false h = pos_fits (digits_value 10 text) (is_numeral text) (nat_lt (digits_value 10 text) (2 ^ 63)) n
        (ltb-true _ (2 ^ 63)) h

number_fits : (text : List ℕ) (v : Value) → option_map int_value (int_of text) ≡ Some v → IsValue v
number_fits text v e =
    let w : WasFound int_value (int_of text) v = was_found int_value (int_of text) v e in
    subst IsValue w.gives (int_fits text w.found w.is)

value_is : (k : TokenKind) (text : List ℕ) (v : Value) → value_in k text ≡ Some v → IsValue v
value_is Word text v e = number_fits text v e
value_is Negative text v e = number_fits text v e
value_is Text text v e =
    let w : WasFound text_value (string_in Text text) v = was_found text_value (string_in Text text) v e in
    subst IsValue w.gives (string_is_text Text text w.found w.is)
value_is Symbol text v e = absurd (cc)
value_is Fault text v e = absurd (cc)

is_a_value : (t : Lexeme) (c : Const) → constant t ≡ Some c → IsValue c.value
is_a_value t c e =
    let w : WasFound (value_on_line t.line) (value_in t.kind t.text) c = was_found (value_on_line t.line)
    (value_in t.kind t.text) c e in
    subst IsValue (ap (λ (x : Const). x.value) w.gives) (value_is t.kind t.text w.found w.is)

pub rewritten_const : Laws → IsRewritten SpellsConst const_pieces unlined_const
rewritten_const laws = rewritten_says constant (λ c. value_piece c.value) unlined_const
    (λ t c h e. laws.value_whole c.value (is_a_value t c e))
    (λ t u c e same. (value_on_line u.line c.value, laws.value_read c.value (is_a_value t c e) u same, refl))

-- ---- kinds and comparisons

kind_again : (k : ValueKind) (u : Lexeme) → piece_of u ≡ word_piece (kind_text k) → kind_named u ≡ Some k
kind_again kind.Text u e = ap (λ (p : Piece). kind_named (record { kind = p.kind; text = p.text; start = 0; line = 0 })) e
kind_again kind.Int u e = ap (λ (p : Piece). kind_named (record { kind = p.kind; text = p.text; start = 0; line = 0 })) e

cmp_again : (c : Cmp) (u : Lexeme) → piece_of u ≡ symbol_piece (cmp_text c) → cmp_named u ≡ Some c
cmp_again Eq u e = ap (λ (p : Piece). cmp_named (record { kind = p.kind; text = p.text; start = 0; line = 0 })) e
cmp_again Ne u e = ap (λ (p : Piece). cmp_named (record { kind = p.kind; text = p.text; start = 0; line = 0 })) e
cmp_again Lt u e = ap (λ (p : Piece). cmp_named (record { kind = p.kind; text = p.text; start = 0; line = 0 })) e
cmp_again Le u e = ap (λ (p : Piece). cmp_named (record { kind = p.kind; text = p.text; start = 0; line = 0 })) e
cmp_again Gt u e = ap (λ (p : Piece). cmp_named (record { kind = p.kind; text = p.text; start = 0; line = 0 })) e
cmp_again Ge u e = ap (λ (p : Piece). cmp_named (record { kind = p.kind; text = p.text; start = 0; line = 0 })) e

kind_whole : (k : ValueKind) → IsPiece (word_piece (kind_text k))
kind_whole kind.Text = record { whole = record { some = omega arith; each = refl } }
kind_whole kind.Int = record { whole = record { some = omega arith; each = refl } }

pub rewritten_kind : IsRewritten (Says kind_named) kind_pieces (λ k. k)
rewritten_kind = rewritten_says kind_named (λ k. word_piece (kind_text k)) (λ k. k)
    (λ t k h e. kind_whole k) (λ t u k e same. (k, kind_again k u same, refl))

cmp_whole : (c : Cmp) → IsPiece (symbol_piece (cmp_text c))
cmp_whole Eq = record { whole = (11, omega arith, refl) }
cmp_whole Ne = record { whole = (8, omega arith, refl) }
cmp_whole Lt = record { whole = (9, omega arith, refl) }
cmp_whole Le = record { whole = (6, omega arith, refl) }
cmp_whole Gt = record { whole = (10, omega arith, refl) }
cmp_whole Ge = record { whole = (7, omega arith, refl) }

pub rewritten_cmp : IsRewritten (Says cmp_named) cmp_pieces (λ c. c)
rewritten_cmp = rewritten_says cmp_named (λ c. symbol_piece (cmp_text c)) (λ c. c)
    (λ t c h e. cmp_whole c) (λ t u c e same. (c, cmp_again c u same, refl))
