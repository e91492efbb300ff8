-- Readers keep their laws: one token, two readers in a row, a reader whose tree is changed, a choice.
use Rattle.std.proofs.Common.{◌≡◌, Bool, true, false, cond, List, [], ◌∷◌, ◌++◌, inl, inr, refl, sym, ap, subst, ◌∙◌, append_assoc, Option, Some, None, Ok, Err}
use Rattle.text_tokens.specs.Lexeme.{Lexeme}
use Rattle.text_grammar.specs.Grammar.{Then, ◌⋅◌, Passes, Says, CanGoOn}
use Rattle.text_grammar.specs.Reading.{Stop, Outcome, Parser, refuse, answer, one, passing, both, continued, after, before, mapped, and_then, changed}
use Rattle.text_grammar.specs.Laws.{Stopped, Reads, HaltsAt, IsReader}
use Rattle.text_grammar.proofs.Lists.{overlaps, append_empty, one_more}
use Rattle.text_grammar.proofs.Outcomes

-- ---- where reading ends

-- every token ends it
abbrev pub always : {A : Type 0} → A → Lexeme → Bool
always a t = true

pub stopped_always : (rest : List Lexeme) → Stopped (λ t. true) rest
stopped_always [] = tt
stopped_always (t ∷ ts) = refl

-- whether reading ends hangs on the first token alone
pub stopped_with : (stop : Lexeme → Bool) (front : List Lexeme) (t : Lexeme) (xs ys : List Lexeme) → Stopped stop
    (front ++ t ∷ xs) → Stopped stop (front ++ t ∷ ys)
stopped_with stop [] t xs ys h = h
stopped_with stop (u ∷ front) t xs ys h = h

-- ---- any reader

pub refused_is : {A : Type 0} (s : Stop) (r : Stop) → ◌≡◌ {A = Outcome A} (Err r) (Err s) → r.left ≡ s.left
refused_is s r e = ap (λ (q : Stop). q.left) (Outcomes.same_stop r s e)

-- a refusal at the first token
pub halts_first_token : {A : Type 0} (P : A → List Lexeme → Type 0) (tokens left : List Lexeme) → tokens ≡ left → CanGoOn P []
    → ((t : Lexeme) (rest : List Lexeme) → tokens ≡ t ∷ rest → CanGoOn P (t ∷ []) → ⊥) → HaltsAt P tokens left
halts_first_token P tokens left e some here =
    record { front = []; split = e; before = some; here = λ t rest f g. here t rest (e ∙ f) g }

-- the same reader under another name
pub reads_as : {A : Type 0} {P : A → List Lexeme → Type 0} {stop : A → Lexeme → Bool} {p q : Parser A}
    → IsReader P stop p → ((tokens : List Lexeme) → q tokens ≡ p tokens) → IsReader P stop q
reads_as r same = record {
  some = r.some;
  sound = λ tokens tree rest e. r.sound tokens tree rest (sym (same tokens) ∙ e);
  complete = λ tree front rest h k. same (front ++ rest) ∙ r.complete tree front rest h k;
  refused = λ tokens s e. r.refused tokens s (sym (same tokens) ∙ e);
}

-- the same grammar in other words
pub reads_same : {A : Type 0} {P Q : A → List Lexeme → Type 0} {stop : A → Lexeme → Bool} {p : Parser A}
    → IsReader P stop p → ((a : A) (tokens : List Lexeme) → P a tokens → Q a tokens) →
    ((a : A) (tokens : List Lexeme) → Q a tokens → P a tokens) → IsReader Q stop p
reads_same {A} {P} {Q} {stop} {p} r into back = record {
  some = record { more = r.some.more; tree = r.some.tree; spelled = into r.some.tree ([] ++ r.some.more) r.some.spelled };
  sound = λ tokens tree rest e. (let h : Reads P stop tokens tree rest = r.sound tokens tree rest e in
      record { front = h.front; split = h.split; spelled = into tree h.front h.spelled; stops = h.stops });
  complete = λ tree front rest h k. r.complete tree front rest (back tree front h) k;
  refused = λ tokens s e. (let h : HaltsAt P tokens s.left = r.refused tokens s e in
      record {
        front = h.front;
        split = h.split;
        before = record {
          more = h.before.more;
          tree = h.before.tree;
          spelled = into h.before.tree
              (h.front ++ h.before.more) h.before.spelled;
        };
        here = λ t rest f g. h.here t rest f
            (record { more = g.more; tree = g.tree; spelled = back g.tree ((h.front ++ t ∷ []) ++ g.more) g.spelled });
      });
}

-- ---- one token

one_sound : {A : Type 0} (says : Lexeme → Option A) (t : Lexeme) (ts : List Lexeme) (a : A) (rest : List Lexeme) (o : Option A)
    → says t ≡ o → answer o (t ∷ ts) ts ≡ Ok (a, rest) → Reads (Says says) always (t ∷ ts) a rest
one_sound says t ts a rest None e h = absurd (cc)
one_sound says t ts a rest (Some b) e h = record {
  front = t ∷ [];
  split = ap (λ (xs : List Lexeme). t ∷ xs) (Outcomes.same_rest b a ts rest h);
  spelled = record { token = t; alone = refl; said = e ∙ ap (λ x. Some x) (Outcomes.same_tree b a ts rest h) };
  stops = stopped_always rest;
}

one_refused : {A : Type 0} (says : Lexeme → Option A) (t : Lexeme) (ts : List Lexeme) (s : Stop) (o : Option A)
    → CanGoOn (Says says) [] → says t ≡ o → answer o (t ∷ ts) ts ≡ Err s → HaltsAt (Says says) (t ∷ ts) s.left
one_refused says t ts s None some e h = halts_first_token (Says says) (t ∷ ts) s.left (refused_is s (refuse (t ∷ ts)) h) some
    (λ u rest f g. (let k : (u ∷ []) ++ g.more ≡ g.spelled.token ∷ [] = g.spelled.alone in let m : says
    g.spelled.token ≡ Some g.tree = g.spelled.said in cc))
one_refused says t ts s (Some a) some e h = absurd (cc)

pub reads_one : {A : Type 0} (says : Lexeme → Option A) (t : Lexeme) (a : A) → says t ≡ Some a → IsReader (Says says)
    always (one says)
reads_one {A} says t a e = record {
  some = some;
  sound = sound;
  complete = λ tree front rest h k. ap (λ (f : List Lexeme). one says (f ++ rest)) h.alone
      ∙ ap (λ (o : Option A). answer o (h.token ∷ rest) rest) h.said;
  refused = refused;
}
  where
    some : CanGoOn (Says says) []
    some = record { more = t ∷ []; tree = a; spelled = record { token = t; alone = refl; said = e } }

    sound : (tokens : List Lexeme) (tree : A) (rest : List Lexeme) → one says tokens ≡ Ok (tree, rest)
        → Reads (Says says) always tokens tree rest
    sound [] tree rest h = absurd (cc)
    sound (t ∷ ts) tree rest h = one_sound says t ts tree rest (says t) refl h

    refused : (tokens : List Lexeme) (s : Stop) → one says tokens ≡ Err s → HaltsAt (Says says) tokens s.left
    refused [] s h = halts_first_token (Says says) [] s.left (refused_is s (refuse []) h) some (λ u rest f g. absurd (cc))
    refused (t ∷ ts) s h = one_refused says t ts s (says t) some refl h

-- ---- one token that passes a test

passing_sound : (test : Lexeme → Bool) (t : Lexeme) (ts : List Lexeme) (u : Unit {0}) (rest : List Lexeme) (b : Bool)
    → test t ≡ b → ◌≡◌ {A = Outcome (Unit {0})} (cond b (Ok (tt, ts)) (Err (refuse (t ∷ ts)))) (Ok (u, rest))
    → Reads (λ (u : Unit {0}). Passes test) always (t ∷ ts) u rest
passing_sound test t ts u rest true e h = record {
  front = t ∷ [];
  split = ap (λ (xs : List Lexeme). t ∷ xs) (Outcomes.same_rest tt u ts rest h);
  spelled = record { token = t; alone = refl; passes = e };
  stops = stopped_always rest;
}
passing_sound test t ts u rest false e h = absurd (cc)

passing_refused : (test : Lexeme → Bool) (t : Lexeme) (ts : List Lexeme) (s : Stop) (b : Bool)
    → CanGoOn (λ (u : Unit {0}). Passes test) [] → test t ≡ b → ◌≡◌ {A = Outcome (Unit {0})}
    (cond b (Ok (tt, ts)) (Err (refuse (t ∷ ts)))) (Err s)
    → HaltsAt (λ (u : Unit {0}). Passes test) (t ∷ ts) s.left
passing_refused test t ts s true some e h = absurd (cc)
passing_refused test t ts s false some e h = halts_first_token (λ (u : Unit {0}). Passes test) (t ∷ ts) s.left
    (refused_is s (refuse (t ∷ ts)) h) some
    (λ u rest f g. (let k : (u ∷ []) ++ g.more ≡ g.spelled.token ∷ [] = g.spelled.alone in let m : test
    g.spelled.token ≡ true = g.spelled.passes in cc))

pub reads_passing : (test : Lexeme → Bool) (t : Lexeme) → test t ≡ true → IsReader (λ (u : Unit {0}). Passes test)
    always (passing test)
reads_passing test t e = record {
  some = some;
  sound = sound;
  complete = λ tree front rest h k. ap (λ (f : List Lexeme). passing test (f ++ rest)) h.alone
      ∙ ap (λ (b : Bool). cond b (Ok (tt, rest)) (Err (refuse (h.token ∷ rest)))) h.passes;
  refused = refused;
}
  where
    some : CanGoOn (λ (u : Unit {0}). Passes test) []
    some = record { more = t ∷ []; tree = tt; spelled = record { token = t; alone = refl; passes = e } }

    sound : (tokens : List Lexeme) (tree : Unit {0}) (rest : List Lexeme) → passing test tokens ≡ Ok (tree, rest)
        → Reads (λ (u : Unit {0}). Passes test) always tokens tree rest
    sound [] tree rest h = absurd (cc)
    sound (t ∷ ts) tree rest h = passing_sound test t ts tree rest (test t) refl h

    refused : (tokens : List Lexeme) (s : Stop) → passing test tokens ≡ Err s
        → HaltsAt (λ (u : Unit {0}). Passes test) tokens s.left
    refused [] s h = halts_first_token (λ (u : Unit {0}). Passes test) [] s.left (refused_is s (refuse []) h) some
        (λ u rest f g. absurd (cc))
    refused (t ∷ ts) s h = passing_refused test t ts s (test t) some refl h

-- ---- one reader and then another

-- what the second grammar spells, which may hang on the first tree, and what ends it, ends the first
abbrev pub Follows : {A B : Type 0} → (A → Lexeme → Bool) → (A → B → List Lexeme → Type 0) → Type 0
Follows {A} {B} stop Q = (a : A) (b : B) (tokens : List Lexeme) → Q a b tokens → Stopped (stop a) tokens

-- the first of two readers refuses
pub halts_in_first : {A B : Type 0} {P : A → List Lexeme → Type 0} {stop : A → Lexeme → Bool} {p : Parser A} → IsReader P stop p
    → (Q : A → B → List Lexeme → Type 0) → Follows stop Q → ((a : A) → CanGoOn (Q a) []) → (tokens : List Lexeme)
    (s : Stop) → p tokens ≡ Err s
    → HaltsAt (λ (x : A × B). P x.0 ⋅ Q x.0 x.1) tokens s.left
halts_in_first {A} {B} {P} {stop} {p} r Q follows some tokens s e =
    record { front = h.front; split = h.split; before = begins; here = here }
  where
    h : HaltsAt P tokens s.left
    h = r.refused tokens s e

    begins : CanGoOn (λ (x : A × B). P x.0 ⋅ Q x.0 x.1) h.front
    begins = record {
      more = h.before.more ++ after.more;
      tree = (h.before.tree, after.tree);
      spelled = record {
        front = h.front ++ h.before.more;
        rest = after.more;
        split =
            sym (append_assoc h.front h.before.more after.more);
        first = h.before.spelled;
        second = after.spelled;
      };
    }
      where
        after : CanGoOn (Q h.before.tree) []
        after = some h.before.tree

    shorter : (t : Lexeme) (rest more : List Lexeme) → s.left ≡ t ∷ rest → (CanGoOn P (h.front ++ t ∷ []) → ⊥)
        → (a : A) (b : B) (g1 g2 : List Lexeme) → P a g1 → Q a b g2 → (mid : List Lexeme) → h.front ++ t ∷ [] ≡ g1
        ++ mid → g2 ≡ mid ++ more → ⊥
    shorter t rest more f blocked a b g1 g2 x y [] longer is = blocked
        (record {
          more = [];
          tree = a;
          spelled = subst (P a) (sym (append_empty g1) ∙ sym longer
              ∙ sym (append_empty (h.front ++ t ∷ []))) x;
        })
    shorter t rest more f blocked a b g1 g2 x y (u ∷ mid) longer is =
        let ends : Stopped (stop a) ((u ∷ mid) ++ more) = subst (Stopped (stop a)) is (follows a b g2 y) in
        let read : p (g1 ++ (u ∷ mid) ++ rest) ≡ Ok (a, (u ∷ mid) ++ rest) = ap p (append_assoc g1 (u ∷ mid) rest)
        ∙ r.complete a g1 ((u ∷ mid) ++ rest) x ends in
        let same : tokens ≡ g1 ++ (u ∷ mid) ++ rest = h.split ∙ ap (λ (l : List Lexeme). h.front ++ l) f
        ∙ one_more h.front t rest ∙ ap (λ (l : List Lexeme). l ++ rest) longer in
        Outcomes.not_both (p tokens) (a, (u ∷ mid) ++ rest) s (ap p same ∙ read) e

    here : (t : Lexeme) (rest : List Lexeme) → s.left ≡ t ∷ rest → CanGoOn (λ (x : A × B). P x.0 ⋅ Q x.0 x.1)
        (h.front ++ t ∷ []) → ⊥
    here t rest f g =
        elim (overlaps g.spelled.front g.spelled.rest (h.front ++ t ∷ []) g.more (sym g.spelled.split)) [
          | inl o ↦ h.here t rest f (record {
            more = o.mid;
            tree = g.tree.0;
            spelled = subst (P g.tree.0) o.longer
                g.spelled.first;
          })
          | inr o ↦ shorter t rest g.more f (h.here t rest f) g.tree.0 g.tree.1 g.spelled.front g.spelled.rest
              g.spelled.first g.spelled.second o.mid o.longer o.shorter
        ]

-- the second of two readers refuses
pub halts_in_second : {A B : Type 0} {P : A → List Lexeme → Type 0} {stop : A → Lexeme → Bool} {p : Parser A} → IsReader P stop p
    → (Q : A → B → List Lexeme → Type 0) → Follows stop Q → (tokens : List Lexeme) (a : A) (mid : List Lexeme)
    → p tokens ≡ Ok (a, mid)
    → (left : List Lexeme) → HaltsAt (Q a) mid left → HaltsAt (λ (x : A × B). P x.0 ⋅ Q x.0 x.1) tokens left
halts_in_second {A} {B} {P} {stop} {p} r Q follows tokens a mid e left h = record {
  front = k.front ++ h.front;
  split = k.split ∙ ap (λ (l : List Lexeme). k.front ++ l) h.split ∙ sym (append_assoc k.front h.front left);
  before = record {
    more = h.before.more;
    tree = (a, h.before.tree);
    spelled = record {
      front = k.front;
      rest = h.front ++ h.before.more;
      split = append_assoc k.front h.front
          h.before.more;
      first = k.spelled;
      second = h.before.spelled;
    };
  };
  here = here;
}
  where
    k : Reads P stop tokens a mid
    k = r.sound tokens a mid e

    here : (t : Lexeme) (rest : List Lexeme) → left ≡ t ∷ rest → CanGoOn (λ (x : A × B). P x.0 ⋅ Q x.0 x.1)
        ((k.front ++ h.front) ++ t ∷ []) → ⊥
    here t rest f g =
        let tail : List Lexeme = h.front ++ t ∷ g.more in
        let ends : Stopped (stop a) (h.front ++ t ∷ g.more) = stopped_with (stop a) h.front t rest g.more
        (subst (Stopped (stop a)) (h.split ∙ ap (λ (l : List Lexeme). h.front ++ l) f) k.stops) in
        let same : k.front ++ (h.front ++ t ∷ g.more) ≡ g.spelled.front ++ g.spelled.rest =
        sym (append_assoc k.front h.front (t ∷ g.more)) ∙ one_more (k.front ++ h.front) t g.more ∙ g.spelled.split in
        let mine : p (k.front ++ (h.front ++ t ∷ g.more)) ≡ Ok (a, h.front ++ t ∷ g.more) = r.complete a k.front
        (h.front ++ t ∷ g.more) k.spelled ends in
        let other : p (g.spelled.front ++ g.spelled.rest) ≡ Ok (g.tree.0, g.spelled.rest) =
        r.complete g.tree.0 g.spelled.front g.spelled.rest g.spelled.first
        (follows g.tree.0 g.tree.1 g.spelled.rest g.spelled.second) in
        let one_read : ◌≡◌ {A = Outcome A} (Ok (a, h.front ++ t ∷ g.more)) (Ok (g.tree.0, g.spelled.rest)) = sym mine
        ∙ ap p same ∙ other in
        let trees : a ≡ g.tree.0 = Outcomes.same_tree a g.tree.0 (h.front ++ t ∷ g.more) g.spelled.rest one_read in
        let rests : h.front ++ t ∷ g.more ≡ g.spelled.rest = Outcomes.same_rest a g.tree.0 (h.front ++ t ∷ g.more)
        g.spelled.rest one_read in
        h.here t rest f (record {
          more = g.more;
          tree = g.tree.1;
          spelled = subst (λ (d : A). Q d g.tree.1 ((h.front ++ t ∷ []) ++ g.more)) (sym trees)
              (subst (Q g.tree.0 g.tree.1) (sym rests ∙ one_more h.front t g.more) g.spelled.second);
        })

-- the trees of a reader, changed
pub record Image {A B : Type 0} (f : A → B) (P : A → List Lexeme → Type 0) (b : B) (tokens : List Lexeme) : Type 0 where
  pub tree : A
  pub is : f tree ≡ b
  pub spelled : P tree tokens

-- the trees of a reader that hangs on what another has read
pub record Continues {A B : Type 0} (P : A → List Lexeme → Type 0) (Q : A → B → List Lexeme → Type 0) (b : B)
    (tokens : List Lexeme) : Type 0 where
  pub tree : A
  pub spelled : (P tree ⋅ Q tree b) tokens

-- a reader that every token ends, and then one that hangs on what it read
pub reads_continued : {A B : Type 0} {P : A → List Lexeme → Type 0} {p : Parser A} {Q : A → B → List Lexeme → Type 0}
    {stop : B → Lexeme → Bool} {next : A → Parser B}
    → IsReader P always p → ((a : A) → IsReader (Q a) stop (next a)) → IsReader (Continues P Q) stop (continued p next)
reads_continued {A} {B} {P} {p} {Q} {stop} {next} r w = record {
  some = some;
  sound = sound;
  complete =
      complete;
  refused = refused;
}
  where
    some : CanGoOn (Continues P Q) []
    some = record {
      more = r.some.more ++ after.more;
      tree = after.tree;
      spelled = record {
        tree = r.some.tree;
        spelled = record {
          front = r.some.more;
          rest = after.more;
          split =
              refl;
          first = r.some.spelled;
          second = after.spelled;
        };
      };
    }
      where
        after : CanGoOn (Q r.some.tree) []
        after = (w r.some.tree).some

    sound : (tokens : List Lexeme) (tree : B) (rest : List Lexeme) → continued p next tokens ≡ Ok (tree, rest)
        → Reads (Continues P Q) stop tokens tree rest
    sound tokens tree rest e =
        let t = Outcomes.then_ok (p tokens) next (tree, rest) e in
        let one : Reads P always tokens t.tree t.mid = r.sound tokens t.tree t.mid t.was in
        let two : Reads (Q t.tree) stop t.mid tree rest = (w t.tree).sound t.mid tree rest t.next in
        record {
          front = one.front ++ two.front;
          split = one.split ∙ ap (λ (l : List Lexeme). one.front ++ l) two.split ∙ sym (append_assoc one.front two.front rest);
          spelled = record {
            tree = t.tree;
            spelled = record {
              front = one.front;
              rest = two.front;
              split =
                  refl;
              first = one.spelled;
              second = two.spelled;
            };
          };
          stops = two.stops;
        }

    complete : (tree : B) (front rest : List Lexeme) → Continues P Q tree front → Stopped (stop tree) rest
        → continued p next (front ++ rest) ≡ Ok (tree, rest)
    complete tree front rest h k =
        let same : front ++ rest ≡ h.spelled.front ++ (h.spelled.rest ++ rest) = ap (λ (l : List Lexeme). l ++ rest)
        h.spelled.split ∙ append_assoc h.spelled.front h.spelled.rest rest in
        let one : p (front ++ rest) ≡ Ok (h.tree, h.spelled.rest ++ rest) =
        ap p same ∙ r.complete h.tree h.spelled.front (h.spelled.rest ++ rest) h.spelled.first
        (stopped_always (h.spelled.rest ++ rest)) in
        Outcomes.then_is (p (front ++ rest)) next h.tree (h.spelled.rest ++ rest) one ∙ (w h.tree).complete tree
        h.spelled.rest rest h.spelled.second k

    halts : (tokens left : List Lexeme) → HaltsAt (λ (x : A × B). P x.0 ⋅ Q x.0 x.1) tokens left
        → HaltsAt (Continues P Q) tokens left
    halts tokens left h = record {
      front = h.front;
      split = h.split;
      before = record {
        more = h.before.more;
        tree = h.before.tree.1;
        spelled =
            record { tree = h.before.tree.0; spelled = h.before.spelled };
      };
      here = λ t rest f g. h.here t rest f
          (record { more = g.more; tree = (g.spelled.tree, g.tree); spelled = g.spelled.spelled });
    }

    refused : (tokens : List Lexeme) (s : Stop) → continued p next tokens ≡ Err s → HaltsAt (Continues P Q) tokens s.left
    refused tokens s e = elim (Outcomes.then_err (p tokens) next s e) [
      | inl f ↦ halts tokens s.left (halts_in_first r Q (λ a b rest h. stopped_always rest) (λ a. (w a).some) tokens s f)
      | inr t ↦ halts tokens s.left (halts_in_second r Q (λ a b rest h. stopped_always rest) tokens t.tree t.mid
          t.was s.left ((w t.tree).refused t.mid s t.next))
    ]

-- how the test of where a sequence ends goes with those of its parts
pub record Joins {A B : Type 0} (stop : A → Lexeme → Bool) (Q : B → List Lexeme → Type 0) (stop' : B → Lexeme → Bool)
    (stops : A × B → Lexeme → Bool) : Type 0 where
  pub first : (a : A) (b : B) (front rest : List Lexeme) → Q b front → Stopped (stops (a, b)) rest → Stopped (stop a)
      (front ++ rest)
  pub second : (a : A) (b : B) (rest : List Lexeme) → Stopped (stops (a, b)) rest → Stopped (stop' b) rest
  pub all : (a : A) (b : B) (front rest : List Lexeme) → Q b front → Stopped (stop a) (front ++ rest)
      → Stopped (stop' b) rest → Stopped (stops (a, b)) rest

pub follows_of : {A B : Type 0} {stop : A → Lexeme → Bool} {Q : B → List Lexeme → Type 0} {stop' : B → Lexeme → Bool}
    {stops : A × B → Lexeme → Bool}
    → Joins stop Q stop' stops → Follows stop (λ a. Q)
follows_of {stop = stop} j a b tokens h = subst (Stopped (stop a)) (append_empty tokens) (j.first a b tokens [] h tt)

pub reads_both : {A B : Type 0} {P : A → List Lexeme → Type 0} {stop : A → Lexeme → Bool} {p : Parser A}
    {Q : B → List Lexeme → Type 0} {stop' : B → Lexeme → Bool} {q : Parser B} {stops : A × B → Lexeme → Bool}
    → IsReader P stop p → IsReader Q stop' q → Joins stop Q stop' stops → IsReader (λ (x : A × B). P x.0 ⋅ Q x.1) stops (both p q)
reads_both {A} {B} {P} {stop} {p} {Q} {stop'} {q} {stops} r w j = record {
  some = some;
  sound = sound;
  complete =
      complete;
  refused = refused;
}
  where
    some : CanGoOn (λ (x : A × B). P x.0 ⋅ Q x.1) []
    some = record {
      more = r.some.more ++ w.some.more;
      tree = (r.some.tree, w.some.tree);
      spelled = record { front = r.some.more; rest = w.some.more; split = refl; first = r.some.spelled; second = w.some.spelled };
    }

    sound : (tokens : List Lexeme) (tree : A × B) (rest : List Lexeme) → both p q tokens ≡ Ok (tree, rest)
        → Reads (λ (x : A × B). P x.0 ⋅ Q x.1) stops tokens tree rest
    sound tokens tree rest e =
        let t = Outcomes.then_ok (p tokens) (λ a rest. changed (λ b. (a, b)) (q rest)) (tree, rest) e in
        let c = Outcomes.changed_ok (λ b. (t.tree, b)) (q t.mid) tree rest t.next in
        let one : Reads P stop tokens t.tree t.mid = r.sound tokens t.tree t.mid t.was in
        let two : Reads Q stop' t.mid c.tree rest = w.sound t.mid c.tree rest c.was in
        let made : Reads (λ (x : A × B). P x.0 ⋅ Q x.1) stops tokens (t.tree, c.tree) rest = record {
          front = one.front ++ two.front;
          split = one.split ∙ ap (λ (l : List Lexeme). one.front ++ l) two.split ∙ sym (append_assoc one.front two.front rest);
          spelled = record { front = one.front; rest = two.front; split = refl; first = one.spelled; second = two.spelled };
          stops = j.all t.tree c.tree two.front rest two.spelled (subst (Stopped (stop t.tree)) two.split one.stops) two.stops;
        } in
        subst (λ (x : A × B). Reads (λ (x : A × B). P x.0 ⋅ Q x.1) stops tokens x rest) c.is made

    complete : (tree : A × B) (front rest : List Lexeme) → (P tree.0 ⋅ Q tree.1) front → Stopped (stops tree) rest
        → both p q (front ++ rest) ≡ Ok (tree, rest)
    complete tree front rest h k =
        let same : front ++ rest ≡ h.front ++ (h.rest ++ rest) = ap (λ (l : List Lexeme). l ++ rest) h.split
        ∙ append_assoc h.front h.rest rest in
        let one : p (front ++ rest) ≡ Ok (tree.0, h.rest ++ rest) = ap p same ∙ r.complete tree.0 h.front
        (h.rest ++ rest) h.first (j.first tree.0 tree.1 h.rest rest h.second k) in
        let two : q (h.rest ++ rest) ≡ Ok (tree.1, rest) = w.complete tree.1 h.rest rest h.second
        (j.second tree.0 tree.1 rest k) in
        Outcomes.then_is (p (front ++ rest)) (λ a rest. changed (λ b. (a, b)) (q rest)) tree.0 (h.rest ++ rest) one
        ∙ Outcomes.changed_is (λ b. (tree.0, b)) (q (h.rest ++ rest)) tree.1 rest two

    refused : (tokens : List Lexeme) (s : Stop) → both p q tokens ≡ Err s → HaltsAt (λ (x : A × B). P x.0 ⋅ Q x.1) tokens s.left
    refused tokens s e = elim (Outcomes.then_err (p tokens) (λ a rest. changed (λ b. (a, b)) (q rest)) s e) [
      | inl f ↦ halts_in_first r (λ a. Q) (follows_of j) (λ a. w.some) tokens s f
      | inr t ↦ halts_in_second r (λ a. Q) (follows_of j) tokens t.tree t.mid t.was s.left
          (w.refused t.mid s (Outcomes.changed_err (λ b. (t.tree, b)) (q t.mid) s t.next))
    ]

-- ---- what stands first

-- the tokens begin with one at which a test answers so
pub record FirstIs (test : Lexeme → Bool) (b : Bool) (tokens : List Lexeme) : Type 0 where
  pub token : Lexeme
  pub rest : List Lexeme
  pub is : tokens ≡ token ∷ rest
  pub answers : test token ≡ b

-- every spelling begins with a token at which a test answers so
abbrev pub Begins : {A : Type 0} → (Lexeme → Bool) → Bool → (A → List Lexeme → Type 0) → Type 0
Begins {A} test b P = (a : A) (tokens : List Lexeme) → P a tokens → FirstIs test b tokens

pub first_passes : (test other : Lexeme → Bool) (b : Bool) → ((t : Lexeme) → test t ≡ true → other t ≡ b) →
    (tokens : List Lexeme) → Passes test tokens → FirstIs other b tokens
first_passes test other b goes tokens h = record { token = h.token; rest = []; is = h.alone; answers = goes h.token h.passes }

pub first_then : {L M : List Lexeme → Type 0} {tokens : List Lexeme} (test : Lexeme → Bool) (b : Bool) →
    ((front : List Lexeme) → L front → FirstIs test b front) → Then L M tokens → FirstIs test b tokens
first_then test b begins h =
    let f : FirstIs test b h.front = begins h.front h.first in
    record {
      token = f.token;
      rest = f.rest ++ h.rest;
      is = h.split ∙ ap (λ (l : List Lexeme). l ++ h.rest) f.is;
      answers = f.answers;
    }

pub first_says : {A : Type 0} {says : Lexeme → Option A} (test : Lexeme → Bool) (b : Bool) →
    ((t : Lexeme) (a : A) → says t ≡ Some a → test t ≡ b) → Begins test b (Says says)
first_says test b goes a tokens h = record { token = h.token; rest = []; is = h.alone; answers = goes h.token a h.said }

pub begins_image : {A B : Type 0} (f : A → B) (P : A → List Lexeme → Type 0) (test : Lexeme → Bool) (b : Bool)
    → Begins test b P → Begins test b (Image f P)
begins_image f P test b begins tree tokens h = begins h.tree tokens h.spelled

pub begins_continues : {A B : Type 0} (P : A → List Lexeme → Type 0) (Q : A → B → List Lexeme → Type 0)
    (test : Lexeme → Bool) (b : Bool) → Begins test b P → Begins test b (Continues P Q)
begins_continues P Q test b begins tree tokens h = first_then test b (begins h.tree) h.spelled

-- three parts, grouped otherwise
pub first_two : {L M N : List Lexeme → Type 0} {tokens : List Lexeme} → (L ⋅ M ⋅ N) tokens → ((L ⋅ M) ⋅ N) tokens
first_two h = record {
  front = h.front ++ h.second.front;
  rest = h.second.rest;
  split = h.split ∙ ap (λ (l : List Lexeme). h.front ++ l) h.second.split
      ∙ sym (append_assoc h.front h.second.front h.second.rest);
  first = record { front = h.front; rest = h.second.front; split = refl; first = h.first; second = h.second.first };
  second = h.second.second;
}

pub last_two : {L M N : List Lexeme → Type 0} {tokens : List Lexeme} → ((L ⋅ M) ⋅ N) tokens → (L ⋅ M ⋅ N) tokens
last_two h = record {
  front = h.first.front;
  rest = h.first.rest ++ h.rest;
  split = h.split ∙ ap (λ (l : List Lexeme). l ++ h.rest) h.first.split ∙ append_assoc h.first.front h.first.rest h.rest;
  first = h.first.first;
  second = record { front = h.first.rest; rest = h.rest; split = refl; first = h.first.second; second = h.second };
}

-- such tokens end what stands before them
abbrev pub Ended : {A : Type 0} → (A → Lexeme → Bool) → (Lexeme → Bool) → Type 0
Ended {A} stop test = (a : A) (t : Lexeme) → test t ≡ true → stop a t ≡ true

pub stopped_at_first : (stop test : Lexeme → Bool) → ((t : Lexeme) → test t ≡ true → stop t ≡ true) →
    (tokens rest : List Lexeme) → FirstIs test true tokens → Stopped stop (tokens ++ rest)
stopped_at_first stop test goes tokens rest f = subst (λ (l : List Lexeme). Stopped stop (l ++ rest)) (sym f.is)
    (goes f.token f.answers)

-- ---- sequences whose first part ends where the second begins

-- of a reader that ends at each token with which the second part begins
pub joins_over : {A B : Type 0} (stop : A → Lexeme → Bool) (Q : B → List Lexeme → Type 0) (stop' : B → Lexeme → Bool)
    (test : Lexeme → Bool)
    → Begins test true Q → Ended stop test → Joins stop Q stop' (λ x. stop' x.1)
joins_over stop Q stop' test begins goes = record {
  first = λ a b front rest h k. stopped_at_first (stop a) test (goes a) front rest (begins b front h);
  second = λ a b rest k. k;
  all = λ a b front rest h k m. m;
}

-- a reader that ends where another begins, and then that one
pub reads_then : {A B : Type 0} {P : A → List Lexeme → Type 0} {stop : A → Lexeme → Bool} {p : Parser A}
    {Q : B → List Lexeme → Type 0} {stop' : B → Lexeme → Bool} {q : Parser B}
    → IsReader P stop p → IsReader Q stop' q → (test : Lexeme → Bool) → Begins test true Q → Ended stop test
    → IsReader (λ (x : A × B). P x.0 ⋅ Q x.1) (λ x. stop' x.1) (both p q)
reads_then {stop = stop} {Q = Q} {stop'} r w test begins goes = reads_both r w (joins_over stop Q stop' test begins goes)

-- of a reader that every token ends
pub joins_plain : {A B : Type 0} (Q : B → List Lexeme → Type 0) (stop' : B → Lexeme → Bool) → Joins {A = A} always Q
    stop' (λ x. stop' x.1)
joins_plain Q stop' = record {
  first = λ a b front rest h k. stopped_always (front ++ rest);
  second = λ a b rest k. k;
  all = λ a b front rest h k m. m;
}

-- a reader that every token ends, and then another
pub reads_two : {A B : Type 0} {P : A → List Lexeme → Type 0} {p : Parser A} {Q : B → List Lexeme → Type 0}
    {stop' : B → Lexeme → Bool} {q : Parser B}
    → IsReader P always p → IsReader Q stop' q → IsReader (λ (x : A × B). P x.0 ⋅ Q x.1) (λ x. stop' x.1) (both p q)
reads_two {Q = Q} {stop'} r w = reads_both r w (joins_plain Q stop')

pub reads_mapped : {A B : Type 0} {P : A → List Lexeme → Type 0} {stop : A → Lexeme → Bool} {p : Parser A}
    → IsReader P stop p → (f : A → B) (stop' : B → Lexeme → Bool) → ((a : A) (t : Lexeme) → stop' (f a) t ≡ stop a t)
    → IsReader (Image f P) stop' (mapped f p)
reads_mapped {A} {B} {P} {stop} {p} r f stop' same = record { some = some; sound = sound; complete = complete; refused = refused }
  where
    some : CanGoOn (Image f P) []
    some = record {
      more = r.some.more;
      tree = f r.some.tree;
      spelled =
          record { tree = r.some.tree; is = refl; spelled = r.some.spelled };
    }

    ends : (a : A) (b : B) (rest : List Lexeme) → f a ≡ b → Stopped (stop a) rest → Stopped (stop' b) rest
    ends a b [] e k = tt
    ends a b (t ∷ ts) e k = ap (λ (b : B). stop' b t) (sym e) ∙ same a t ∙ k

    back : (a : A) (b : B) (rest : List Lexeme) → f a ≡ b → Stopped (stop' b) rest → Stopped (stop a) rest
    back a b [] e k = tt
    back a b (t ∷ ts) e k = sym (same a t) ∙ ap (λ (b : B). stop' b t) e ∙ k

    sound : (tokens : List Lexeme) (tree : B) (rest : List Lexeme) → mapped f p tokens ≡ Ok (tree, rest)
        → Reads (Image f P) stop' tokens tree rest
    sound tokens tree rest e =
        let c = Outcomes.changed_ok f (p tokens) tree rest e in
        let h : Reads P stop tokens c.tree rest = r.sound tokens c.tree rest c.was in
        record {
          front = h.front;
          split = h.split;
          spelled = record {
            tree = c.tree;
            is = c.is;
            spelled =
                h.spelled;
          };
          stops = ends c.tree tree rest c.is h.stops;
        }

    complete : (tree : B) (front rest : List Lexeme) → Image f P tree front → Stopped (stop' tree) rest → mapped f p
        (front ++ rest) ≡ Ok (tree, rest)
    complete tree front rest h k =
        Outcomes.changed_is f (p (front ++ rest)) h.tree rest
        (r.complete h.tree front rest h.spelled (back h.tree tree rest h.is k))
        ∙ ap (λ (b : B). Ok (b, rest)) h.is

    refused : (tokens : List Lexeme) (s : Stop) → mapped f p tokens ≡ Err s → HaltsAt (Image f P) tokens s.left
    refused tokens s e =
        let h : HaltsAt P tokens s.left = r.refused tokens s (Outcomes.changed_err f (p tokens) s e) in
        record {
          front = h.front;
          split = h.split;
          before = record {
            more = h.before.more;
            tree = f h.before.tree;
            spelled =
                record { tree = h.before.tree; is = refl; spelled = h.before.spelled };
          };
          here = λ t rest g w. h.here t rest g (record { more = w.more; tree = w.spelled.tree; spelled = w.spelled.spelled });
        }

-- the trees of a reader made into those of a rule
pub reads_made : {A B : Type 0} {P : A → List Lexeme → Type 0} {Q : B → List Lexeme → Type 0}
    {stop : A → Lexeme → Bool} {p : Parser A}
    → IsReader P stop p → (f : A → B) (stop' : B → Lexeme → Bool) → ((a : A) (t : Lexeme) → stop' (f a) t ≡ stop a t)
    → ((a : A) (tokens : List Lexeme) → P a tokens → Q (f a) tokens) → ((b : B) (tokens : List Lexeme) → Q b tokens
    → Image f P b tokens)
    → IsReader Q stop' (mapped f p)
reads_made {Q = Q} r f stop' same into back = reads_same (reads_mapped r f stop' same)
    (λ b tokens h. subst (λ (b : _). Q b tokens) h.is (into h.tree tokens h.spelled)) back

-- ---- a fixed token and a reader

pub reads_after : {A : Type 0} {P : A → List Lexeme → Type 0} {stop : A → Lexeme → Bool} {p : Parser A}
    → (test : Lexeme → Bool) (t : Lexeme) → test t ≡ true → IsReader P stop p → IsReader (λ a. Passes test ⋅ P a)
    stop (after test p)
reads_after {A} {P} {stop} {p} test t e r =
    reads_as
    (reads_made (reads_two (reads_passing test t e) r) (λ (x : Unit {0} × A). x.1) stop (λ a t. refl)
    (λ x tokens h. h) (λ a tokens h. record { tree = (tt, a); is = refl; spelled = h }))
    same
  where
    same : (tokens : List Lexeme) → after test p tokens ≡ mapped (λ (x : Unit {0} × A). x.1) (both (passing test) p) tokens
    same tokens = sym (Outcomes.changed_then (λ (x : Unit {0} × A). x.1) (passing test tokens)
        (λ u rest. changed (λ b. (u, b)) (p rest))
        ∙ then_same (passing test tokens))
      where
        then_same : (o : Outcome (Unit {0})) → and_then o (λ u rest. changed (λ (x : Unit {0} × A). x.1)
            (changed (λ b. (u, b)) (p rest))) ≡ and_then o (λ u rest. p rest)
        then_same (Ok x) = Outcomes.changed_twice (λ (b : A). (x.0, b)) (λ (x : Unit {0} × A). x.1) (p x.1)
            ∙ Outcomes.changed_same (p x.1)
        then_same (Err s) = refl

-- a fixed token at which the reader ends, after it
pub reads_before : {A : Type 0} {P : A → List Lexeme → Type 0} {stop : A → Lexeme → Bool} {p : Parser A}
    → IsReader P stop p → (test : Lexeme → Bool) (t : Lexeme) → test t ≡ true → Ended stop test
    → IsReader (λ a. P a ⋅ Passes test) always (before p test)
reads_before {A} {P} {stop} {p} r test t e goes =
    reads_as
    (reads_made (reads_both r (reads_passing test t e) joined) (λ (x : A × Unit {0}). x.0) always (λ a t. refl)
    (λ x tokens h. h) (λ a tokens h. record { tree = (a, tt); is = refl; spelled = h }))
    same
  where
    begins : Begins test true (λ (u : Unit {0}). Passes test)
    begins u tokens h = first_passes test test true (λ t f. f) tokens h

    joined : Joins stop (λ (u : Unit {0}). Passes test) always (λ x. always {A = Unit {0}} x.1)
    joined = joins_over stop (λ (u : Unit {0}). Passes test) always test begins goes

    same : (tokens : List Lexeme) → before p test tokens ≡ mapped (λ (x : A × Unit {0}). x.0) (both p (passing test)) tokens
    same tokens = sym (Outcomes.changed_then (λ (x : A × Unit {0}). x.0) (p tokens)
        (λ a rest. changed (λ u. (a, u)) (passing test rest)) ∙ then_same (p tokens))
      where
        then_same : (o : Outcome A) → and_then o (λ a rest. changed (λ (x : A × Unit {0}). x.0)
            (changed (λ u. (a, u)) (passing test rest))) ≡ and_then o (λ a rest. changed (λ u. a) (passing test rest))
        then_same (Ok x) = Outcomes.changed_twice (λ (u : Unit {0}). (x.0, u)) (λ (x : A × Unit {0}). x.0) (passing test x.1)
        then_same (Err s) = refl
