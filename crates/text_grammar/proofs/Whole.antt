-- Reading a whole text.
use Rattle.std.proofs.Common.{◌≡◌, Bool, true, List, [], ◌∷◌, ◌++◌, ◌⊎◌, inl, inr, refl, sym, ap, subst, ◌∙◌, Result, Ok, Err}
use Rattle.text_tokens.specs.Lexeme.{Lexeme}
use Rattle.text_grammar.specs.Grammar.{CanGoOn, RefusedAt}
use Rattle.text_grammar.specs.Reading.{Stop, Outcome, Parser, refuse, at_end, ended, whole}
use Rattle.text_grammar.specs.Laws.{Reads, HaltsAt, IsReader, IsWhole}
use Rattle.text_grammar.proofs.Lists.{append_empty, one_more}
use Rattle.text_grammar.proofs.Outcomes

-- ---- what the end of a text says of what was read

at_end_ok : {A : Type 0} (a : A) (rest : List Lexeme) (tree : A) → at_end a rest ≡ Ok tree → ◌≡◌ {A = Outcome A}
    (Ok (a, rest)) (Ok (tree, []))
at_end_ok a [] tree e = ap (λ (b : _). Ok (b, [])) (same a tree e)
  where
    tree_of : {A : Type 0} → A → Result A Stop → A
    tree_of d (Ok x) = x
    tree_of d (Err s) = d

    same : {A : Type 0} (a b : A) → ◌≡◌ {A = Result A Stop} (Ok a) (Ok b) → a ≡ b
    same a b e = cc
at_end_ok a (t ∷ ts) tree e = absurd (cc)

ended_ok : {A : Type 0} (o : Outcome A) (tree : A) → ended o ≡ Ok tree → o ≡ Ok (tree, [])
ended_ok (Ok x) tree e = at_end_ok x.0 x.1 tree e
ended_ok (Err s) tree e = absurd (cc)

-- a text was refused while it was read, or at a token that stands after what was read
pub record Left {A : Type 0} (o : Outcome A) (s : Stop) : Type 0 where
  pub tree : A
  pub token : Lexeme
  pub rest : List Lexeme
  pub was : o ≡ Ok (tree, token ∷ rest)
  pub left : token ∷ rest ≡ s.left

at_end_err : {A : Type 0} (a : A) (rest : List Lexeme) (s : Stop) → at_end a rest ≡ Err s → Left {A = A} (Ok (a, rest)) s
at_end_err a [] s e = absurd (cc)
at_end_err {A} a (t ∷ ts) s e =
    let same : refuse (t ∷ ts) ≡ s = Outcomes.same_stop {A = A} (refuse (t ∷ ts)) s e in
    record { tree = a; token = t; rest = ts; was = refl; left = ap (λ (q : Stop). q.left) same }

pub ended_err : {A : Type 0} (o : Outcome A) (s : Stop) → ended o ≡ Err s → (o ≡ Err s) ⊎ Left o s
ended_err (Ok x) s e = inr (at_end_err x.0 x.1 s e)
ended_err {A} (Err r) s e = inl (ap (λ (q : Stop). Err q) (Outcomes.same_stop {A = A} r s e))

-- ---- the whole text

pub reads_whole : {A : Type 0} {P : A → List Lexeme → Type 0} {stop : A → Lexeme → Bool} {p : Parser A}
    → IsReader P stop p → IsWhole P (whole p)
reads_whole {A} {P} {stop} {p} r = record { right = right; all = all; refused = refused }
  where
    right : (tokens : List Lexeme) (tree : A) → whole p tokens ≡ Ok tree → P tree tokens
    right tokens tree e =
        let h : Reads P stop tokens tree [] = r.sound tokens tree [] (ended_ok (p tokens) tree e) in
        subst (P tree) (sym (h.split ∙ append_empty h.front)) h.spelled

    read : (tokens : List Lexeme) (tree : A) → P tree tokens → p tokens ≡ Ok (tree, [])
    read tokens tree h = ap p (sym (append_empty tokens)) ∙ r.complete tree tokens [] h tt

    all : (tokens : List Lexeme) (tree : A) → P tree tokens → whole p tokens ≡ Ok tree
    all tokens tree h = ap ended (read tokens tree h)

    none : (tokens : List Lexeme) (s : Stop) → whole p tokens ≡ Err s → (tree : A) → P tree tokens → ⊥
    none tokens s e tree h = (let k : whole p tokens ≡ Ok tree = all tokens tree h in cc)

    after_tree : (tokens : List Lexeme) (s : Stop) → whole p tokens ≡ Err s → Left (p tokens) s → RefusedAt P tokens s.left
    after_tree tokens s e l = record {
      front = h.front;
      split = h.split ∙ ap (λ (x : List Lexeme). h.front ++ x) l.left;
      before = record { more = []; tree = l.tree; spelled = subst (P l.tree) (sym (append_empty h.front)) h.spelled };
      here = here;
      none = none tokens s e;
    }
      where
        h : Reads P stop tokens l.tree (l.token ∷ l.rest)
        h = r.sound tokens l.tree (l.token ∷ l.rest) l.was

        here : (t : Lexeme) (rest : List Lexeme) → s.left ≡ t ∷ rest → CanGoOn P (h.front ++ t ∷ []) → ⊥
        here t rest f g =
            let first : l.token ≡ t = (let k : l.token ∷ l.rest ≡ t ∷ rest = l.left ∙ f in cc) in
            let mine : p (h.front ++ t ∷ g.more) ≡ Ok (l.tree, t ∷ g.more) =
            r.complete l.tree h.front (t ∷ g.more) h.spelled (subst (λ (u : Lexeme). stop l.tree u ≡ true) first h.stops) in
            let other : p ((h.front ++ t ∷ []) ++ g.more) ≡ Ok (g.tree, []) = read ((h.front ++ t ∷ []) ++ g.more)
            g.tree g.spelled in
            let rests : t ∷ g.more ≡ [] = Outcomes.same_rest l.tree g.tree (t ∷ g.more) []
            (sym mine ∙ ap p (one_more h.front t g.more) ∙ other) in
            cc

    refused : (tokens : List Lexeme) (s : Stop) → whole p tokens ≡ Err s → RefusedAt P tokens s.left
    refused tokens s e = elim (ended_err (p tokens) s e) [
      | inl f ↦ (let h : HaltsAt P tokens s.left = r.refused tokens s f in
          record { front = h.front; split = h.split; before = h.before; here = h.here; none = none tokens s e })
      | inr l ↦ after_tree tokens s e l
    ]
