-- What the first token of a part can be, and how the second one decides.
use Rattle.std.proofs.Common.{◌≡◌, ℕ, zero, suc, ℤ, arith, Bool, true, false, not, ◌&&◌, ◌||◌, cond, List, [], ◌∷◌, drop, get_or, refl, sym, ap, ◌∙◌, Option, Some, None, Err, option_map, codes}
use Rattle.std.specs.Prelude.{is_none}
use Rattle.std.specs.Str.{IsAscii, all_ascii_digits, bytes_eq, is_utf8}
use Rattle.std.specs.Str.Parse.{digits_value, starts_with_minus}
use Rattle.std.proofs.lemmas.Bool.{eqb-true}
use Rattle.std.proofs.lemmas.Fmt.{IsAscii-from_digits}
use Rattle.std.proofs.lemmas.Str.{IsUtf8-from_ascii, is_utf8-from_IsUtf8}
use Rattle.std.proofs.lemmas.Str.Parse.{IsNumeralModel, numerals_by_value, tells_all_ascii_digits}
use Rattle.std.proofs.lemmas.Slice.Eq.{bytes_eq-Decides}
use Rattle.text_tokens.specs.Lexeme.{Lexeme}
use Rattle.text_tokens.specs.declared.token.TokenKind.{TokenKind}
use Rattle.text_tokens.specs.declared.token.TokenKind.TheVariants.{Word, Negative, Text, Symbol, Fault}
use Rattle.currency_base.specs.Number.{int_of, negative_of, positive_of}
use Rattle.text_grammar.specs.Words.{as_text, begins_with_letter, constant, int_value, is_reserved, is_variable, is_variable_token, name_in, named, on_line, same_kind, string_in, text_value, value_in, value_on_line, variable, variable_in}
use Rattle.text_grammar.specs.Reading.{Outcome, Parser, refuse, and_then, answer, changed, choose, continued, mapped, one, starts}
use Rattle.text_grammar.specs.declared.named.Const.{Const}
use Rattle.text_grammar.specs.declared.named.Named.{Named}
use Rattle.query_syntax.specs.declared.trees.PartTree.{PartTree}
use Rattle.query_syntax.specs.declared.trees.PartTree.TheVariants as part
use Rattle.query_syntax.specs.declared.trees.TestTermTree.{TestTermTree}
use Rattle.query_syntax.specs.declared.trees.TestTermTree.TheVariants as term
use Rattle.query_syntax.specs.Reading.{atom_after, atom_at, begins_atom, constant_term_at, is_atom_ahead, is_open, part_at, term_at, test_after, test_at, variable_term_at}

-- ---- what a number is not

int_found : {A : Type 0} (a : A) → None ≡ Some a → ⊥
int_found a e = cc

-- the digits and their number, in std's words
own : IsNumeralModel (λ ds. all_ascii_digits ds ≡ true) (digits_value 10)
own = numerals_by_value _ tells_all_ascii_digits

-- digits are text, and so are they after a minus
digits_are_text : (digits : List ℕ) → all_ascii_digits digits ≡ true → IsAscii digits
digits_are_text digits e = IsAscii-from_digits digits (own.to digits e)

minus_is_text : (bytes : List ℕ) → get_or bytes 0 0 ≡ 45 → all_ascii_digits (drop 1 bytes) ≡ true → IsAscii bytes
minus_is_text [] e d i = digits_are_text [] d i
minus_is_text (c ∷ cs) e d zero = omega arith
minus_is_text (c ∷ cs) e d (suc i) = digits_are_text cs d i

digits_stood : (some digits fits : Bool) (v z : ℤ) → cond ((some && digits) && fits) (Some v) None ≡ Some z → digits ≡ true
digits_stood some true fits v z e = refl
digits_stood true false fits v z e = absurd (cc)
digits_stood false false fits v z e = absurd (cc)

int_is_ascii : (text : List ℕ) (z : ℤ) → int_of text ≡ Some z → IsAscii text
unfolding int_of
int_is_ascii text z e = by (starts_with_minus text) refl e
  where
    by : (b : Bool) → starts_with_minus text ≡ b → cond b (negative_of (drop 1 text)) (positive_of text) ≡ Some z → IsAscii text
    by true f g = minus_is_text text (eqb-true _ 45 f) (digits_stood _ (all_ascii_digits (drop 1 text)) _ _ z g)
    by false f g = digits_are_text text (digits_stood _ (all_ascii_digits text) _ _ z g)

-- a number is text
int_is_text : (text : List ℕ) (z : ℤ) → int_of text ≡ Some z → is_utf8 text ≡ true
int_is_text text z e = is_utf8-from_IsUtf8 text (IsUtf8-from_ascii text (int_is_ascii text z e))

-- no reserved word is a number
pub no_int : (text word : List ℕ) (z : ℤ) → int_of word ≡ None → int_of text ≡ Some z → bytes_eq text word ≡ false
no_int text word z none e = by (bytes_eq text word) refl
  where
    by : (b : Bool) → bytes_eq text word ≡ b → b ≡ false
    by false f = refl
    by true f = absurd (int_found z (sym none ∙ sym (ap (λ (l : List ℕ). int_of l) ((bytes_eq-Decides text word).0 f)) ∙ e))

none_of : (a b c : Bool) → a ≡ false → b ≡ false → c ≡ false → a || b || c ≡ false
none_of false false false e f g = refl
none_of true b c e f g = absurd (cc)
none_of false true c e f g = absurd (cc)
none_of false false true e f g = absurd (cc)

int_not_reserved : (text : List ℕ) (z : ℤ) → int_of text ≡ Some z → is_reserved text ≡ false
unfolding int_of
int_not_reserved text z e = none_of (bytes_eq text (codes "if")) (bytes_eq text (codes "false")) (bytes_eq text (codes "orders"))
    (no_int text (codes "if") z refl e) (no_int text (codes "false") z refl e) (no_int text (codes "orders") z refl e)

variable_not_reserved : (text : List ℕ) → is_variable text ≡ true → is_reserved text ≡ false
variable_not_reserved text e = by (begins_with_letter text) (is_reserved text) (not (bytes_eq text (codes "_"))) e
  where
    by : (a b c : Bool) → a && not b && c ≡ true → b ≡ false
    by true false c e = refl
    by true true c e = absurd (cc)
    by false b c e = absurd (cc)

-- ---- a token as a term

-- the variable or the number that a word is, or the constant of another token
abbrev term_of : Bool → Option Named → Option Const → Option TestTermTree
term_of is_var v c = cond is_var (option_map (λ v. term.Var v) v) (option_map (λ c. term.Constant c) c)

-- the term that a token is
abbrev pub term_named : Lexeme → Option TestTermTree
term_named t = term_of (is_variable_token t) (variable t) (constant t)

-- a word that is a name and a term too is one that the second token decides
word_decides : (is_var : Bool) (v : Option Named) (i : Option ℤ) (line : ℕ) (x : TestTermTree) (opens : Bool)
    → term_of is_var v (option_map (value_on_line line) (option_map int_value i)) ≡ Some x →
    (not is_var && is_none i) || opens ≡ opens
word_decides true v i line x opens e = refl
word_decides false v (Some z) line x opens e = refl
word_decides false v None line x opens e = absurd (cc)

-- a word that is a name and no term begins an atom
word_begins : (is_var reserved : Bool) (text : Option (List ℕ)) (i : Option ℤ) (line : ℕ) (n : Named) (opens : Bool)
    → option_map (on_line line) (cond reserved None text) ≡ Some n
    → term_of is_var (option_map (on_line line) (cond is_var text None))
    (option_map (value_on_line line) (option_map int_value i)) ≡ None
    → (not is_var && is_none i) || opens ≡ true
word_begins false reserved text None line n opens e f = refl
word_begins false reserved text (Some z) line n opens e f = absurd (cc)
word_begins true true text i line n opens e f = absurd (cc)
word_begins true false None i line n opens e f = absurd (cc)
word_begins true false (Some bytes) i line n opens e f = absurd (cc)

-- a word that is text and not reserved is a name
text_told : (line : ℕ) (reserved utf8 : Bool) (bytes : List ℕ) → reserved ≡ false → utf8 ≡ true → option_map
    (on_line line) (cond reserved None (cond utf8 (Some bytes) None)) ≡ None → ⊥
text_told line false true bytes e f g = cc
text_told line true utf8 bytes e f g = cc
text_told line false false bytes e f g = cc

-- a word that is told as a variable is text
variable_text : (line : ℕ) (utf8 : Bool) (bytes : List ℕ) (c : Option Const) (x : TestTermTree)
    → term_of true (option_map (on_line line) (cond utf8 (Some bytes) None)) c ≡ Some x → utf8 ≡ true
variable_text line true bytes c x e = refl
variable_text line false bytes c x e = absurd (cc)

-- a number is a name
number_named : (line : ℕ) (text : List ℕ) (i : Option ℤ) (v : Option Named) (x : TestTermTree) → int_of text ≡ i
    → option_map (on_line line) (cond (is_reserved text) None (as_text text)) ≡ None
    → term_of false v (option_map (value_on_line line) (option_map int_value i)) ≡ Some x → ⊥
number_named line text None v x e f g = absurd (cc)
number_named line text (Some z) v x e f g = text_told line (is_reserved text) (is_utf8 text) text
    (int_not_reserved text z e) (int_is_text text z e) f

-- a word that is a term is a name
word_named : (line : ℕ) (text : List ℕ) (x : TestTermTree) (is_var : Bool) → is_variable text ≡ is_var
    → option_map (on_line line) (cond (is_reserved text) None (as_text text)) ≡ None
    → term_of is_var (option_map (on_line line) (cond is_var (as_text text) None))
    (option_map (value_on_line line) (option_map int_value (int_of text))) ≡ Some x → ⊥
word_named line text x true v e f =
    text_told line (is_reserved text) (is_utf8 text) text (variable_not_reserved text v)
    (variable_text line (is_utf8 text) text (option_map (value_on_line line) (option_map int_value (int_of text))) x f) e
word_named line text x false v e f = number_named line text (int_of text) None x refl e f

-- ---- what the first two tokens say

decided_by : (k : TokenKind) (text : List ℕ) (line : ℕ) (n : Named) (x : TestTermTree) (opens : Bool)
    → option_map (on_line line) (name_in k text) ≡ Some n
    → term_of (same_kind k Word && is_variable text) (option_map (on_line line) (variable_in k text))
    (option_map (value_on_line line) (value_in k text)) ≡ Some x
    → begins_atom k (not (same_kind k Word && is_variable text) && is_none (int_of text)) opens ≡ opens
decided_by Word text line n x opens e f = word_decides (is_variable text) _ (int_of text) line x opens f
decided_by Negative text line n x opens e f = absurd (cc)
decided_by Text text line n x opens e f = refl
decided_by Symbol text line n x opens e f = absurd (cc)
decided_by Fault text line n x opens e f = absurd (cc)

-- a name that is a term too: an atom is ahead where a parenthesis opens
decided : (t : Lexeme) (ts : List Lexeme) (n : Named) (x : TestTermTree) → named t ≡ Some n → term_named t ≡ Some x
    → is_atom_ahead (t ∷ ts) ≡ starts is_open ts
decided t ts n x e f = decided_by t.kind t.text t.line n x (starts is_open ts) e f

-- a string that is a name is a constant
string_told : (line : ℕ) (text : Option (List ℕ)) (n : Named) → option_map (on_line line) text ≡ Some n
    → term_of false None (option_map (value_on_line line) (option_map text_value text)) ≡ None → ⊥
string_told line None n e f = cc
string_told line (Some bytes) n e f = cc

-- and one that is a constant is a name
constant_told : (line : ℕ) (text : Option (List ℕ)) (x : TestTermTree) → option_map (on_line line) text ≡ None
    → term_of false None (option_map (value_on_line line) (option_map text_value text)) ≡ Some x → ⊥
constant_told line None x e f = cc
constant_told line (Some bytes) x e f = cc

begun_by : (k : TokenKind) (text : List ℕ) (line : ℕ) (n : Named) (opens : Bool)
    → option_map (on_line line) (name_in k text) ≡ Some n
    → term_of (same_kind k Word && is_variable text) (option_map (on_line line) (variable_in k text))
    (option_map (value_on_line line) (value_in k text)) ≡ None
    → begins_atom k (not (same_kind k Word && is_variable text) && is_none (int_of text)) opens ≡ true
begun_by Word text line n opens e f = word_begins (is_variable text) (is_reserved text) (as_text text) (int_of text)
    line n opens e f
begun_by Negative text line n opens e f = absurd (cc)
begun_by Text text line n opens e f = absurd (string_told line (string_in Text text) n e f)
begun_by Symbol text line n opens e f = absurd (cc)
begun_by Fault text line n opens e f = absurd (cc)

-- a name that is no term: an atom is ahead
begun : (t : Lexeme) (ts : List Lexeme) (n : Named) → named t ≡ Some n → term_named t ≡ None → is_atom_ahead (t ∷ ts) ≡ true
begun t ts n e f = begun_by t.kind t.text t.line n (starts is_open ts) e f

left_by : (k : TokenKind) (text : List ℕ) (line : ℕ) (x : TestTermTree) (opens : Bool)
    → option_map (on_line line) (name_in k text) ≡ None
    → term_of (same_kind k Word && is_variable text) (option_map (on_line line) (variable_in k text))
    (option_map (value_on_line line) (value_in k text)) ≡ Some x
    → begins_atom k (not (same_kind k Word && is_variable text) && is_none (int_of text)) opens ≡ false
left_by Word text line x opens e f = absurd (word_named line text x (is_variable text) refl e f)
left_by Negative text line x opens e f = refl
left_by Text text line x opens e f = absurd (constant_told line (string_in Text text) x e f)
left_by Symbol text line x opens e f = refl
left_by Fault text line x opens e f = refl

-- a term that is no name: no atom is ahead
left : (t : Lexeme) (ts : List Lexeme) (x : TestTermTree) → named t ≡ None → term_named t ≡ Some x → is_atom_ahead
    (t ∷ ts) ≡ false
left t ts x e f = left_by t.kind t.text t.line x (starts is_open ts) e f

-- ---- a part, by its first token

-- what the first token of a part is: a name and a term, a name alone or a term alone
pub data PartHead : Type 0 where
  NameOrTerm : Named → TestTermTree → PartHead
  NameAlone : Named → PartHead
  TermAlone : TestTermTree → PartHead

abbrev pub head_of : Option Named → Option TestTermTree → Option PartHead
head_of (Some n) (Some x) = Some (NameOrTerm n x)
head_of (Some n) None = Some (NameAlone n)
head_of None (Some x) = Some (TermAlone x)
head_of None None = None

abbrev pub part_head : Lexeme → Option PartHead
part_head t = head_of (named t) (term_named t)

-- the name and the term of what a first token is
abbrev pub name_of_head : Option PartHead → Option Named
name_of_head (Some (NameOrTerm n x)) = Some n
name_of_head (Some (NameAlone n)) = Some n
name_of_head _ = None

abbrev pub term_of_head : Option PartHead → Option TestTermTree
term_of_head (Some (NameOrTerm n x)) = Some x
term_of_head (Some (TermAlone x)) = Some x
term_of_head _ = None

name_kept : (o : Option Named) (p : Option TestTermTree) → o ≡ name_of_head (head_of o p)
name_kept (Some n) (Some x) = refl
name_kept (Some n) None = refl
name_kept None (Some x) = refl
name_kept None None = refl

term_kept : (o : Option Named) (p : Option TestTermTree) → p ≡ term_of_head (head_of o p)
term_kept (Some n) (Some x) = refl
term_kept (Some n) None = refl
term_kept None (Some x) = refl
term_kept None None = refl

-- what a first token is says what it is as a name and as a term
pub head_name : (t : Lexeme) (h : PartHead) → part_head t ≡ Some h → named t ≡ name_of_head (Some h)
head_name t h e = name_kept (named t) (term_named t) ∙ ap name_of_head e

pub head_term : (t : Lexeme) (h : PartHead) → part_head t ≡ Some h → term_named t ≡ term_of_head (Some h)
head_term t h e = term_kept (named t) (term_named t) ∙ ap term_of_head e

-- the parts that a name or a term begins, from the second token on
abbrev pub atom_part : Named → Parser PartTree
atom_part n = mapped (λ a. part.Atom a) (atom_after n)

abbrev pub test_part : TestTermTree → Parser PartTree
test_part x = mapped (λ t. part.Test t) (test_after x)

abbrev pub part_after : PartHead → Parser PartTree
part_after (NameOrTerm n x) = choose is_open (atom_part n) (test_part x)
part_after (NameAlone n) = atom_part n
part_after (TermAlone x) = test_part x

-- the readers that `part_at` chooses from, at a first token that is this name and this term, if any
abbrev by_name : Option Named → Lexeme → List Lexeme → Outcome PartTree
by_name o t ts = changed (λ a. part.Atom a) (and_then (answer o (t ∷ ts) ts) atom_after)

abbrev by_term : Option TestTermTree → Lexeme → List Lexeme → Outcome PartTree
by_term o t ts = changed (λ x. part.Test x) (and_then (answer o (t ∷ ts) ts) test_after)

term_answers : (is_var : Bool) (v : Option Named) (c : Option Const) (t : Lexeme) (ts : List Lexeme)
    → cond is_var (changed (λ v. term.Var v) (answer v (t ∷ ts) ts))
    (changed (λ c. term.Constant c) (answer c (t ∷ ts) ts)) ≡ answer (term_of is_var v c) (t ∷ ts) ts
term_answers true None c t ts = refl
term_answers true (Some v) c t ts = refl
term_answers false v None t ts = refl
term_answers false v (Some c) t ts = refl

-- a term is read by what its token says
pub term_is_named : (tokens : List Lexeme) → term_at tokens ≡ one term_named tokens
unfolding term_at variable_term_at constant_term_at
term_is_named [] = refl
term_is_named (t ∷ ts) = term_answers (is_variable_token t) (variable t) (constant t) t ts

chosen_by_first : {A : Type 0} (test : Lexeme → Bool) (p q : Parser A) (tokens : List Lexeme)
    → cond (starts test tokens) (p tokens) (q tokens) ≡ choose test p q tokens
chosen_by_first test p q [] = refl
chosen_by_first test p q (t ∷ ts) = refl

same_both : {A : Type 0} (b : Bool) (x : A) → cond b x x ≡ x
same_both true x = refl
same_both false x = refl

by_both : (o : Option Named) (p : Option TestTermTree) (t : Lexeme) (ts : List Lexeme) → named t ≡ o → term_named t ≡ p
    → cond (is_atom_ahead (t ∷ ts)) (by_name o t ts) (by_term p t ts) ≡ and_then (answer (head_of o p) (t ∷ ts) ts) part_after
by_both (Some n) (Some x) t ts e f = ap (λ (b : Bool). cond b (atom_part n ts) (test_part x ts))
    (decided t ts n x e f) ∙ chosen_by_first is_open (atom_part n) (test_part x) ts
by_both (Some n) None t ts e f = ap (λ (b : Bool). cond b (atom_part n ts) (by_term None t ts)) (begun t ts n e f)
by_both None (Some x) t ts e f = ap (λ (b : Bool). cond b (by_name None t ts) (test_part x ts)) (left t ts x e f)
by_both None None t ts e f = same_both (is_atom_ahead (t ∷ ts)) (Err (refuse (t ∷ ts)))

-- a part is read by what its first token says, and what goes on from there
pub part_is_headed : (tokens : List Lexeme) → part_at tokens ≡ continued (one part_head) part_after tokens
unfolding part_at atom_at test_at
part_is_headed [] = ap (λ (o : Outcome TestTermTree). changed (λ x. part.Test x) (and_then o test_after)) (term_is_named [])
part_is_headed (t ∷ ts) =
    ap (λ (o : Outcome TestTermTree). cond (is_atom_ahead (t ∷ ts)) (by_name (named t) t ts)
    (changed (λ x. part.Test x) (and_then o test_after))) (term_is_named (t ∷ ts))
    ∙ by_both (named t) (term_named t) t ts refl refl
