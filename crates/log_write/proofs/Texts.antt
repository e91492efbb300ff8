-- What is written spells what it was written from: what keeps that.
use Rattle.std.proofs.Common.{◌≡◌, ℕ, ◌<◌, Bool, true, cond, List, [], ◌∷◌, ◌++◌, length, map, refl, ap, ap₂, ◌∙◌, Option, Some, None}
use Rattle.std.specs.Prelude.{All, Contains}
use Rattle.std.specs.List.{list_all}
use Rattle.std.proofs.lemmas.List.Elements.{All-nil, All-cons, All-head, All-tail, All-append}
use Rattle.std.proofs.lemmas.Slice.Eq.{bytes_eq-Decides}
use Rattle.text_tokens.specs.Lexeme.{Lexeme}
use Rattle.text_tokens.specs.Tokens.{is_word_byte}
use Rattle.text_tokens.specs.declared.token.TokenKind.{TokenKind}
use Rattle.text_tokens.specs.declared.token.TokenKind.TheVariants.{Word, Negative, Text, Symbol, Fault}
use Rattle.text_grammar.specs.Grammar.{◌⋅◌, IsSymbol, IsWord, Many, Nothing, Says}
use Rattle.text_grammar.specs.Words.{is_fixed}
use Rattle.text_write.specs.Pieces.{Piece, piece_of, symbol_piece, word_piece}
use Rattle.text_write.specs.Written.{IsPiece, symbols}
use Rattle.log_syntax.specs.Grammar.{IsWordOn, UpTo}
use Rattle.log_write.specs.Pieces.{many_pieces, symbol, word}
use Rattle.refutation_log.specs.Writable.{AreFew}

-- these pieces are whole tokens, and tokens that have just these pieces belong to the language
pub record IsText (L : List Lexeme → Type 0) (ps : List Piece) : Type 0 where
  pub whole : All IsPiece ps
  pub read : (tokens : List Lexeme) → map piece_of tokens ≡ ps → L tokens

-- ---- two in a row

-- a list whose image has two parts has two parts
record Cut {A B : Type 0} (f : A → B) (xs : List A) (ys zs : List B) : Type 0 where
  front : List A
  rest : List A
  split : xs ≡ front ++ rest
  first : map f front ≡ ys
  second : map f rest ≡ zs

cut : {A B : Type 0} (f : A → B) (xs : List A) (ys zs : List B) → map f xs ≡ ys ++ zs → Cut f xs ys zs
cut f xs [] zs e = record { front = []; rest = xs; split = refl; first = refl; second = e }
cut f [] (y ∷ ys) zs e = absurd (cc)
cut {A} {B} f (x ∷ xs) (y ∷ ys) zs e =
    let same : map f xs ≡ ys ++ zs = cc in
    let h : Cut f xs ys zs = cut f xs ys zs same in
    let h_first : map f h.front ≡ ys = h.first in
    record { front = x ∷ h.front; rest = h.rest; split = ap (λ (l : List A). x ∷ l) h.split; first = cc; second = h.second }

pub text_then : {L M : List Lexeme → Type 0} {ps qs : List Piece} → IsText L ps → IsText M qs → IsText (L ⋅ M) (ps ++ qs)
text_then {L} {M} {ps} {qs} l m = record {
  whole = All-append IsPiece ps qs l.whole m.whole;
  read = λ tokens e. (
      let c : Cut piece_of tokens ps qs = cut piece_of tokens ps qs e in
      record {
        front = c.front;
        rest = c.rest;
        split = c.split;
        first = l.read c.front c.first;
        second =
            m.read c.rest c.second;
      });
}

-- ---- no token, and one

pub text_nothing : IsText Nothing []
text_nothing = record { whole = All-nil IsPiece; read = read }
  where
    read : (tokens : List Lexeme) → map piece_of tokens ≡ [] → tokens ≡ []
    read [] e = refl
    read (t ∷ ts) e = absurd (cc)

pub text_one : (p : Piece) (L : List Lexeme → Type 0) → IsPiece p → ((t : Lexeme) → piece_of t ≡ p → L (t ∷ []))
    → IsText L (p ∷ [])
text_one p L h reads = record { whole = All-cons IsPiece p [] h (All-nil IsPiece); read = read }
  where
    read : (tokens : List Lexeme) → map piece_of tokens ≡ p ∷ [] → L tokens
    read [] e = absurd (cc)
    read (t ∷ []) e = reads t (cc)
    read (t ∷ (u ∷ ts)) e = absurd (cc)

pub text_says : {A : Type 0} (says : Lexeme → Option A) (a : A) (p : Piece) → IsPiece p
    → ((t : Lexeme) → piece_of t ≡ p → says t ≡ Some a) → IsText (Says says a) (p ∷ [])
text_says says a p h said = text_one p (Says says a) h (λ t e. record { token = t; alone = refl; said = said t e })

-- a fixed token is known by its piece
same_fixed : (kind : TokenKind) (text : List ℕ) (t : Lexeme) → piece_of t ≡ record { kind = kind; text = text }
    → is_fixed kind text t ≡ true
same_fixed kind text t e =
    ap (λ (p : Piece). is_fixed kind text (record { kind = p.kind; text = p.text; start = 0; line = 0 })) e ∙ fixed kind text
  where
    fixed : (kind : TokenKind) (text : List ℕ)
        → is_fixed kind text (record { kind = kind; text = text; start = 0; line = 0 }) ≡ true
    fixed Word text = (bytes_eq-Decides text text).1 refl
    fixed Negative text = (bytes_eq-Decides text text).1 refl
    fixed Text text = (bytes_eq-Decides text text).1 refl
    fixed Symbol text = (bytes_eq-Decides text text).1 refl
    fixed Fault text = (bytes_eq-Decides text text).1 refl

pub text_word : (text : List ℕ) → 0 < length text → list_all is_word_byte text ≡ true → IsText (IsWord text) (word text)
text_word text some each = text_one (word_piece text) (IsWord text) (record { whole = record { some = some; each = each } })
    (λ t e. record { token = t; alone = refl; passes = same_fixed Word text t e })

pub text_symbol : (text : List ℕ) → Contains symbols text → IsText (IsSymbol text) (symbol text)
text_symbol text h = text_one (symbol_piece text) (IsSymbol text) (record { whole = h })
    (λ t e. record { token = t; alone = refl; passes = same_fixed Symbol text t e })

-- a larger language
pub text_wider : {L M : List Lexeme → Type 0} {ps : List Piece} → IsText L ps →
    ((tokens : List Lexeme) → L tokens → M tokens) → IsText M ps
text_wider l goes = record { whole = l.whole; read = λ tokens e. goes tokens (l.read tokens e) }

-- ---- on some line

-- on some line
abbrev pub OnSomeLine : (ℕ → List Lexeme → Type 0) → List Lexeme → Type 0
OnSomeLine P tokens = (line : ℕ) × P line tokens

pub text_word_on : (text : List ℕ) → 0 < length text → list_all is_word_byte text ≡ true
    → IsText (OnSomeLine (IsWordOn text)) (word text)
text_word_on text some each = text_one (word_piece text) (OnSomeLine (IsWordOn text))
    (record { whole = record { some = some; each = each } })
    (λ t e. (
      t.line,
      record {
        token = t;
        alone = refl;
        said = ap (λ (b : Bool). cond b (Some t.line) None)
            (same_fixed Word text t e);
      },
    ))

pub text_on_line : {P : ℕ → List Lexeme → Type 0} {M : List Lexeme → Type 0} {ps qs : List Piece}
    → IsText (OnSomeLine P) ps → IsText M qs
    → IsText (OnSomeLine (λ line. P line ⋅ M)) (ps ++ qs)
text_on_line l m = text_wider (text_then l m)
    (λ tokens h. (h.first.0, record { front = h.front; rest = h.rest; split = h.split; first = h.first.1; second = h.second }))

-- ---- any number of times

pub text_many : {A : Type 0} (P : A → List Lexeme → Type 0) (pieces : A → List Piece) (Q : A → Type 0)
    → ((a : A) → Q a → IsText (P a) (pieces a))
    → (xs : List A) → All Q xs → IsText (Many P xs) (many_pieces pieces xs)
text_many P pieces Q each [] h = text_nothing
text_many P pieces Q each (x ∷ xs) h = text_then (each x (All-head Q x xs h)) (text_many P pieces Q each xs (All-tail Q x xs h))

pub text_few : {A : Type 0} (P : A → List Lexeme → Type 0) (pieces : A → List Piece) (Q : A → Type 0)
    → ((a : A) → Q a → IsText (P a) (pieces a))
    → (xs : List A) → AreFew Q xs → IsText (UpTo 4294967294 P xs) (many_pieces pieces xs)
text_few P pieces Q each xs h =
    let many : IsText (Many P xs) (many_pieces pieces xs) = text_many P pieces Q each xs h.each in
    record { whole = many.whole; read = λ tokens e. record { few = h.few; spelled = many.read tokens e } }

-- trees that are spelled, of which these are the parts
pub record AreSpelled {A B : Type 0} (f : B → A) (P : B → List Lexeme → Type 0) (xs : List A)
    (tokens : List Lexeme) : Type 0 where
  pub trees : List B
  pub are : xs ≡ map f trees
  pub spelled : Many P trees tokens

-- items on some lines are parts of trees that have their lines
pub many_on_lines : {A B : Type 0} (f : B → A) (make : ℕ → A → B) (P : B → List Lexeme → Type 0) →
    ((line : ℕ) (x : A) → x ≡ f (make line x))
    → (xs : List A) (tokens : List Lexeme) → Many (λ x. OnSomeLine (λ line. P (make line x))) xs tokens → AreSpelled f P xs tokens
many_on_lines f make P same [] tokens h = record { trees = []; are = refl; spelled = h }
many_on_lines {A} {B} f make P same (x ∷ xs) tokens h =
    let more : AreSpelled f P xs h.rest = many_on_lines f make P same xs h.rest h.second in
    record {
      trees = make h.first.0 x ∷ more.trees;
      are = ap₂ (λ (y : A) (ys : List A). y ∷ ys) (same h.first.0 x) more.are;
      spelled = record { front = h.front; rest = h.rest; split = h.split; first = h.first.1; second = more.spelled };
    }
