-- Tokens that spell some tree that is a given one, its lines aside: what keeps that.
use Rattle.std.proofs.Common.{◌≡◌, ℕ, ◌≤◌, List, [], ◌∷◌, ◌++◌, length, map, refl, sym, ap, ap₂, ◌∙◌, subst, append_assoc, arith}
use Rattle.std.specs.Prelude.{All}
use Rattle.std.proofs.lemmas.List.{length-map, map-append}
use Rattle.std.proofs.lemmas.List.Elements.{All-head, All-tail}
use Rattle.text_tokens.specs.Lexeme.{Lexeme}
use Rattle.text_grammar.specs.Grammar.{◌⋅◌, Many}
use Rattle.text_write.specs.Pieces.{Piece}
use Rattle.log_syntax.specs.Grammar.{UpTo}
use Rattle.log_write.specs.Pieces.{many_pieces}
use Rattle.log_write.proofs.Texts.{IsText, text_nothing, text_then, text_wider}

-- the tokens spell some tree that is this one, its lines aside
pub record IsLike {A : Type 0} (P : A → List Lexeme → Type 0) (unlined : A → A) (a : A) (tokens : List Lexeme) : Type 0 where
  pub tree : A
  pub spelled : P tree tokens
  pub same : unlined tree ≡ a

-- what has no line
pub like_fixed : {A : Type 0} {P : A → List Lexeme → Type 0} {u : A → A} (a : A) {ps : List Piece} → u a ≡ a
    → IsText (P a) ps → IsText (IsLike P u a) ps
like_fixed a e t = text_wider t (λ tokens h. record { tree = a; spelled = h; same = e })

-- ---- two in a row

pub like_both : {A B : Type 0} {P : A → List Lexeme → Type 0} {Q : B → List Lexeme → Type 0} {u : A → A} {v : B → B}
    {a : A} {b : B} {ps qs : List Piece}
    → IsText (IsLike P u a) ps → IsText (IsLike Q v b) qs
    → IsText (IsLike (λ (x : A × B). P x.0 ⋅ Q x.1) (λ x. (u x.0, v x.1)) (a, b)) (ps ++ qs)
like_both {A} {B} s t = text_wider (text_then s t)
    (λ tokens h. record {
      tree = (h.first.tree, h.second.tree);
      spelled = record { front = h.front; rest = h.rest; split = h.split; first = h.first.spelled; second = h.second.spelled };
      same = ap₂ (λ (x : A) (y : B). (x, y)) h.first.same h.second.same;
    })

pub like_after : {A : Type 0} {L : List Lexeme → Type 0} {P : A → List Lexeme → Type 0} {u : A → A} {a : A} {ps qs : List Piece}
    → IsText L ps → IsText (IsLike P u a) qs → IsText (IsLike (λ x. L ⋅ P x) u a) (ps ++ qs)
like_after s t = text_wider (text_then s t)
    (λ tokens h. record {
      tree = h.second.tree;
      spelled = record { front = h.front; rest = h.rest; split = h.split; first = h.first; second = h.second.spelled };
      same = h.second.same;
    })

pub like_before : {A : Type 0} {P : A → List Lexeme → Type 0} {L : List Lexeme → Type 0} {u : A → A} {a : A} {ps qs : List Piece}
    → IsText (IsLike P u a) ps → IsText L qs → IsText (IsLike (λ x. P x ⋅ L) u a) (ps ++ qs)
like_before s t = text_wider (text_then s t)
    (λ tokens h. record {
      tree = h.first.tree;
      spelled = record { front = h.front; rest = h.rest; split = h.split; first = h.first.spelled; second = h.second };
      same = h.first.same;
    })

-- ---- a tree of another shape

-- the tree is made of what is spelled, and so is the one without lines
pub like_made : {A B : Type 0} {P : A → List Lexeme → Type 0} {Q : B → List Lexeme → Type 0} {u : A → A} {v : B → B}
    (of : A → B) {a : A} {ps : List Piece}
    → ((x : A) (tokens : List Lexeme) → P x tokens → Q (of x) tokens) → ((x : A) → v (of x) ≡ of (u x))
    → IsText (IsLike P u a) ps → IsText (IsLike Q v (of a)) ps
like_made of into bare t =
    text_wider t (λ tokens h. record {
      tree = of h.tree;
      spelled = into h.tree tokens h.spelled;
      same = bare h.tree
          ∙ ap of h.same;
    })

-- ---- any number of times

-- two lists of trees, one after the other
many_both : {A : Type 0} (P : A → List Lexeme → Type 0) (xs ys : List A) (front rest : List Lexeme)
    → Many P xs front → Many P ys rest → Many P (xs ++ ys) (front ++ rest)
many_both P [] ys front rest h k = subst (λ (l : List Lexeme). Many P ys (l ++ rest)) (sym h) k
many_both P (x ∷ xs) ys front rest h k = record {
  front = h.front;
  rest = h.rest ++ rest;
  split = ap (λ (l : List Lexeme). l ++ rest) h.split ∙ append_assoc h.front h.rest rest;
  first = h.first;
  second = many_both P xs ys h.rest rest h.second k;
}

pub like_none : {A : Type 0} {P : A → List Lexeme → Type 0} {u : A → A} → IsText (IsLike (Many P) (map u) []) []
like_none = text_wider text_nothing (λ tokens h. record { tree = []; spelled = h; same = refl })

pub like_more : {A : Type 0} {P : A → List Lexeme → Type 0} {u : A → A} {xs ys : List A} {ps qs : List Piece}
    → IsText (IsLike (Many P) (map u) xs) ps → IsText (IsLike (Many P) (map u) ys) qs
    → IsText (IsLike (Many P) (map u) (xs ++ ys)) (ps ++ qs)
like_more {A} {P} {u} s t = text_wider (text_then s t)
    (λ tokens h. record {
      tree = h.first.tree ++ h.second.tree;
      spelled = subst (Many P (h.first.tree ++ h.second.tree)) (sym h.split)
          (many_both P h.first.tree h.second.tree h.front h.rest h.first.spelled h.second.spelled);
      same = map-append u h.first.tree h.second.tree ∙ ap₂ (λ (l m : List A). l ++ m) h.first.same h.second.same;
    })

-- one, and then more
pub like_next : {A : Type 0} {P : A → List Lexeme → Type 0} {u : A → A} {x : A} {xs : List A} {ps qs : List Piece}
    → IsText (IsLike P u x) ps → IsText (IsLike (Many P) (map u) xs) qs → IsText (IsLike (Many P) (map u) (x ∷ xs)) (ps ++ qs)
like_next {A} s t = like_made (λ (y : A × List A). y.0 ∷ y.1) (λ y tokens h. h) (λ y. refl) (like_both s t)

-- of each item
pub like_many : {A X : Type 0} {P : A → List Lexeme → Type 0} {u : A → A} (f : X → A) (pieces : X → List Piece) (Q : X → Type 0)
    → ((x : X) → Q x → IsText (IsLike P u (f x)) (pieces x))
    → (xs : List X) → All Q xs → IsText (IsLike (Many P) (map u) (map f xs)) (many_pieces pieces xs)
like_many f pieces Q each [] h = like_none
like_many f pieces Q each (x ∷ xs) h =
    like_next (each x (All-head Q x xs h)) (like_many f pieces Q each xs (All-tail Q x xs h))

-- at most so many
pub like_few : {A : Type 0} {P : A → List Lexeme → Type 0} {u : A → A} (most : ℕ) {xs : List A} {ps : List Piece}
    → length xs ≤ most
    → IsText (IsLike (Many P) (map u) xs) ps → IsText (IsLike (UpTo most P) (map u) xs) ps
like_few {A} {P} {u} most {xs} few t = text_wider t
    (λ tokens h. (
    let count : length h.tree ≡ length xs = sym (length-map h.tree u) ∙ ap length h.same in
    record { tree = h.tree; spelled = record { few = omega arith; spelled = h.spelled }; same = h.same }))
