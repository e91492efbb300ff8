-- Rules of a grammar whose trees are written in tokens that spell them again: what keeps that.
use Rattle.std.proofs.Common.{◌≡◌, List, [], ◌∷◌, ◌++◌, map, refl, sym, ◌∙◌, ap, ap₂, Option, Some, None, option_map}
use Rattle.std.specs.Prelude.{All}
use Rattle.std.proofs.lemmas.List.Elements.{All-nil, All-cons, All-head, All-tail, All-append, All-same}
use Rattle.text_tokens.specs.Lexeme.{Lexeme}
use Rattle.text_grammar.specs.Grammar.{◌⋅◌, Listed, Many, Maybe}
use Rattle.text_write.specs.Pieces.{Piece, piece_of}
use Rattle.text_write.specs.Written.{IsPiece}
use Rattle.spec_write.specs.Pieces.{listed_pieces, many_pieces, maybe_pieces}
use Rattle.spec_write.proofs.Words.{IsToken}

-- ---- lists in two parts

-- a list whose image has two parts has two parts
pub record Cut {A B : Type 0} (f : A → B) (xs : List A) (ys zs : List B) : Type 0 where
  pub front : List A
  pub rest : List A
  pub split : xs ≡ front ++ rest
  pub first : map f front ≡ ys
  pub second : map f rest ≡ zs

pub cut : {A B : Type 0} (f : A → B) (xs : List A) (ys zs : List B) → map f xs ≡ ys ++ zs → Cut f xs ys zs
cut f xs [] zs e = record { front = []; rest = xs; split = refl; first = refl; second = e }
cut f [] (y ∷ ys) zs e = absurd (cc)
cut {A} {B} f (x ∷ xs) (y ∷ ys) zs e =
    let same : map f xs ≡ ys ++ zs = cc in
    let h : Cut f xs ys zs = cut f xs ys zs same in
    let h_first : map f h.front ≡ ys = h.first in
    record { front = x ∷ h.front; rest = h.rest; split = ap (λ (l : List A). x ∷ l) h.split; first = cc; second = h.second }

all_front : {A : Type 0} (P : A → Type 0) (xs ys : List A) → All P (xs ++ ys) → All P xs
all_front P [] ys h = All-nil P
all_front P (x ∷ xs) ys h = All-cons P x xs (All-head P x (xs ++ ys) h) (all_front P xs ys (All-tail P x (xs ++ ys) h))

all_rest : {A : Type 0} (P : A → Type 0) (xs ys : List A) → All P (xs ++ ys) → All P ys
all_rest P [] ys h = h
all_rest P (x ∷ xs) ys h = all_rest P xs ys (All-tail P x (xs ++ ys) h)

-- ---- rules

-- tokens that spell the same tree, its lines aside
pub record Respelled {A : Type 0} (P : A → List Lexeme → Type 0) (unlined : A → A) (a : A) (tokens : List Lexeme) : Type 0 where
  pub tree : A
  pub spelled : P tree tokens
  pub same : unlined tree ≡ unlined a

-- where tokens of a text spell a tree, its pieces are whole, and tokens that have just these pieces spell it again
pub record IsRewritten {A : Type 0} (P : A → List Lexeme → Type 0) (pieces : A → List Piece) (unlined : A → A) : Type 0 where
  pub whole : (a : A) (tokens : List Lexeme) → All IsToken tokens → P a tokens → All IsPiece (pieces a)
  pub again : (a : A) (tokens others : List Lexeme) → P a tokens → map piece_of others ≡ pieces a → Respelled P unlined a others

-- the same for what is spelled in one way
pub record IsKept (L : List Lexeme → Type 0) (pieces : List Piece) : Type 0 where
  pub whole : (tokens : List Lexeme) → All IsToken tokens → L tokens → All IsPiece pieces
  pub again : (tokens others : List Lexeme) → L tokens → map piece_of others ≡ pieces → L others

-- ---- two in a row

whole_both : {L M : List Lexeme → Type 0} (l m : List Piece) → ((tokens : List Lexeme) → All IsToken tokens
    → L tokens → All IsPiece l)
    → ((tokens : List Lexeme) → All IsToken tokens → M tokens → All IsPiece m) → (tokens : List Lexeme)
    → All IsToken tokens → (L ⋅ M) tokens → All IsPiece (l ++ m)
whole_both l m first second tokens h s =
    let both : All IsToken (s.front ++ s.rest) = All-same IsToken (s.front ++ s.rest) tokens (sym s.split) h in
    All-append IsPiece l m (first s.front (all_front IsToken s.front s.rest both) s.first)
    (second s.rest (all_rest IsToken s.front s.rest both) s.second)

pub rewritten_two : {A B : Type 0} {P : A → List Lexeme → Type 0} {Q : B → List Lexeme → Type 0} {p : A → List Piece}
    {q : B → List Piece} {u : A → A} {v : B → B}
    → IsRewritten P p u → IsRewritten Q q v → IsRewritten (λ (x : A × B). P x.0 ⋅ Q x.1) (λ x. p x.0 ++ q x.1)
    (λ x. (u x.0, v x.1))
rewritten_two {A} {B} {P} {Q} {p} {q} {u} {v} r s = record {
  whole = λ x tokens. whole_both (p x.0) (q x.1) (r.whole x.0) (s.whole x.1) tokens;
  again = λ x tokens others h e. (
      let c : Cut piece_of others (p x.0) (q x.1) = cut piece_of others (p x.0) (q x.1) e in
      let f : Respelled P u x.0 c.front = r.again x.0 h.front c.front h.first c.first in
      let g : Respelled Q v x.1 c.rest = s.again x.1 h.rest c.rest h.second c.second in
      record {
        tree = (f.tree, g.tree);
        spelled = record { front = c.front; rest = c.rest; split = c.split; first = f.spelled; second = g.spelled };
        same = ap₂ (λ (a : A) (b : B). (a, b)) f.same g.same;
      });
}

pub rewritten_after : {A : Type 0} {L : List Lexeme → Type 0} {P : A → List Lexeme → Type 0} {l : List Piece}
    {p : A → List Piece} {u : A → A}
    → IsKept L l → IsRewritten P p u → IsRewritten (λ a. L ⋅ P a) (λ a. l ++ p a) u
rewritten_after {A} {L} {P} {l} {p} {u} k r = record {
  whole = λ a tokens. whole_both l (p a) k.whole (r.whole a) tokens;
  again = λ a tokens others h e. (
      let c : Cut piece_of others l (p a) = cut piece_of others l (p a) e in
      let g : Respelled P u a c.rest = r.again a h.rest c.rest h.second c.second in
      record {
        tree = g.tree;
        spelled = record {
          front = c.front;
          rest = c.rest;
          split = c.split;
          first = k.again h.front c.front h.first
              c.first;
          second = g.spelled;
        };
        same = g.same;
      });
}

pub rewritten_before : {A : Type 0} {P : A → List Lexeme → Type 0} {L : List Lexeme → Type 0} {p : A → List Piece}
    {l : List Piece} {u : A → A}
    → IsRewritten P p u → IsKept L l → IsRewritten (λ a. P a ⋅ L) (λ a. p a ++ l) u
rewritten_before {A} {P} {L} {p} {l} {u} r k = record {
  whole = λ a tokens. whole_both (p a) l (r.whole a) k.whole tokens;
  again = λ a tokens others h e. (
      let c : Cut piece_of others (p a) l = cut piece_of others (p a) l e in
      let f : Respelled P u a c.front = r.again a h.front c.front h.first c.first in
      record {
        tree = f.tree;
        spelled = record {
          front = c.front;
          rest = c.rest;
          split = c.split;
          first = f.spelled;
          second =
              k.again h.rest c.rest h.second c.second;
        };
        same = f.same;
      });
}

-- ---- a tree of another shape

-- a tree that is made of what a rule spells
pub respelled_as : {A B : Type 0} {P : A → List Lexeme → Type 0} {Q : B → List Lexeme → Type 0} {u : A → A}
    {v : B → B} (of : A → B) (a : A) (b : B) (tokens : List Lexeme)
    → ((x : A) → P x tokens → Q (of x) tokens) → ((x : A) → u x ≡ u a → v (of x) ≡ v b) → Respelled P u a tokens
    → Respelled Q v b tokens
respelled_as of a b tokens spelled same r = record {
  tree = of r.tree;
  spelled = spelled r.tree r.spelled;
  same =
      same r.tree r.same;
}

-- the trees are records of what a rule spells, and so are those without lines
pub rewritten_made : {A B : Type 0} {P : A → List Lexeme → Type 0} {p : A → List Piece} {u : A → A}
    {Q : B → List Lexeme → Type 0} {q : B → List Piece} {v : B → B}
    → IsRewritten P p u → (of : A → B) (parts : B → A) → ((b : B) (tokens : List Lexeme) → Q b tokens → P (parts b) tokens)
    → ((a : A) (tokens : List Lexeme) → P a tokens → Q (of a) tokens) → ((b : B) → q b ≡ p (parts b))
    → ((a : A) (b : B) → u a ≡ u (parts b) → v (of a) ≡ v b) → IsRewritten Q q v
rewritten_made {A} {B} {P} {p} {u} {Q} {q} {v} r of parts back into pieces same = record {
  whole = λ b tokens h s. All-same IsPiece (q b) (p (parts b)) (pieces b) (r.whole (parts b) tokens h (back b tokens s));
  again = λ b tokens others s e.
      respelled_as of (parts b) b others (λ x. into x others) (λ x. same x b)
      (r.again (parts b) tokens others (back b tokens s) (e ∙ pieces b));
}

-- ---- once or not at all, and any number of times

pub rewritten_maybe : {A : Type 0} {P : A → List Lexeme → Type 0} {p : A → List Piece} {u : A → A}
    → IsRewritten P p u → IsRewritten (Maybe P) (maybe_pieces p) (option_map u)
rewritten_maybe {A} {P} {p} {u} r = record { whole = whole; again = again }
  where
    whole : (o : Option A) (tokens : List Lexeme) → All IsToken tokens → Maybe P o tokens → All IsPiece (maybe_pieces p o)
    whole None tokens h s = All-nil IsPiece
    whole (Some a) tokens h s = r.whole a tokens h s

    again : (o : Option A) (tokens others : List Lexeme) → Maybe P o tokens → map piece_of others ≡ maybe_pieces p o
        → Respelled (Maybe P) (option_map u) o others
    again None tokens [] s e = record { tree = None; spelled = refl; same = refl }
    again None tokens (t ∷ ts) s e = absurd (cc)
    again (Some a) tokens others s e =
        respelled_as (λ (x : A). Some x) a (Some a) others (λ x h. h) (λ x h. ap (λ (y : A). Some y) h)
        (r.again a tokens others s e)

whole_many : {A : Type 0} {P : A → List Lexeme → Type 0} {p : A → List Piece} {u : A → A} → IsRewritten P p u
    → (xs : List A) (tokens : List Lexeme) → All IsToken tokens → Many P xs tokens → All IsPiece (many_pieces p xs)
whole_many r [] tokens h s = All-nil IsPiece
whole_many {A} {P} {p} {u} r (x ∷ xs) tokens h s =
    whole_both (p x) (many_pieces p xs) (r.whole x) (λ ts k m. whole_many r xs ts k m) tokens h s

again_many : {A : Type 0} {P : A → List Lexeme → Type 0} {p : A → List Piece} {u : A → A} → IsRewritten P p u
    → (xs : List A) (tokens others : List Lexeme) → Many P xs tokens → map piece_of others ≡ many_pieces p xs
    → Respelled (Many P) (map u) xs others
again_many r [] tokens [] s e = record { tree = []; spelled = refl; same = refl }
again_many r [] tokens (t ∷ ts) s e = absurd (cc)
again_many {A} {P} {p} {u} r (x ∷ xs) tokens others s e =
    let c : Cut piece_of others (p x) (many_pieces p xs) = cut piece_of others (p x) (many_pieces p xs) e in
    let f : Respelled P u x c.front = r.again x s.front c.front s.first c.first in
    let g : Respelled (Many P) (map u) xs c.rest = again_many r xs s.rest c.rest s.second c.second in
    record {
      tree = f.tree ∷ g.tree;
      spelled = record { front = c.front; rest = c.rest; split = c.split; first = f.spelled; second = g.spelled };
      same = ap₂ (λ (a : A) (l : List A). a ∷ l) f.same g.same;
    }

pub rewritten_many : {A : Type 0} {P : A → List Lexeme → Type 0} {p : A → List Piece} {u : A → A}
    → IsRewritten P p u → IsRewritten (Many P) (many_pieces p) (map u)
rewritten_many r = record { whole = whole_many r; again = again_many r }

pub rewritten_listed : {A : Type 0} {L : List Lexeme → Type 0} {P : A → List Lexeme → Type 0} {l : List Piece}
    {p : A → List Piece} {u : A → A}
    → IsKept L l → IsRewritten P p u → IsRewritten (Listed L P) (listed_pieces l p) (map u)
rewritten_listed {A} {L} {P} {l} {p} {u} k r = record { whole = whole; again = again }
  where
    more : IsRewritten (Many (λ y. L ⋅ P y)) (many_pieces (λ y. l ++ p y)) (map u)
    more = rewritten_many (rewritten_after k r)

    whole : (xs : List A) (tokens : List Lexeme) → All IsToken tokens → Listed L P xs tokens → All IsPiece (listed_pieces l p xs)
    whole [] tokens h s = absurd s
    whole (x ∷ xs) tokens h s = whole_both (p x) (many_pieces (λ y. l ++ p y) xs) (r.whole x) (more.whole xs) tokens h s

    again : (xs : List A) (tokens others : List Lexeme) → Listed L P xs tokens → map piece_of others ≡ listed_pieces
        l p xs → Respelled (Listed L P) (map u) xs others
    again [] tokens others s e = absurd s
    again (x ∷ xs) tokens others s e =
        respelled_as (λ (y : A × List A). y.0 ∷ y.1) (x, xs) (x ∷ xs) others (λ y h. h)
        (λ y h. ap (λ (z : A × List A). z.0 ∷ z.1) h)
        ((rewritten_two r more).again (x, xs) tokens others s e)
