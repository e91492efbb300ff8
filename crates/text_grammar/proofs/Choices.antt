-- Readers that choose by the first token keep their laws.
use Rattle.std.proofs.Common.{◌≡◌, Bool, true, false, not, cond, List, [], ◌∷◌, ◌++◌, ◌⊎◌, inl, inr, refl, sym, ap, subst, ◌∙◌, Option, Some, None, Ok, Err}
use Rattle.text_tokens.specs.Lexeme.{Lexeme}
use Rattle.text_grammar.specs.Grammar.{Maybe}
use Rattle.text_grammar.specs.Reading.{Stop, Outcome, Parser, maybe, choose, changed}
use Rattle.text_grammar.specs.Laws.{Stopped, Reads, HaltsAt, IsReader}
use Rattle.text_grammar.proofs.Outcomes
use Rattle.text_grammar.proofs.Readers.{FirstIs, Begins}

-- ---- the first token

pub chosen : {A : Type 0} (b : Bool) (x y z : A) → cond b x y ≡ z → ((b ≡ true) × (x ≡ z)) ⊎ ((b ≡ false) × (y ≡ z))
chosen true x y z e = inl (refl, e)
chosen false x y z e = inr (refl, e)

no_room : (front : List Lexeme) (t : Lexeme) (rest : List Lexeme) → [] ≡ front ++ t ∷ rest → ⊥
no_room [] t rest e = cc
no_room (u ∷ front) t rest e = cc

same_first : (front : List Lexeme) (u : Lexeme) (xs ys : List Lexeme) (t v : Lexeme) (ts vs : List Lexeme) → t
    ∷ ts ≡ front ++ u ∷ xs → (front ++ u ∷ []) ++ ys ≡ v ∷ vs → t ≡ v
same_first [] u xs ys t v ts vs e f = cc
same_first (w ∷ front) u xs ys t v ts vs e f = cc

-- ---- one of two readers

-- one grammar or another
abbrev pub Either : {A : Type 0} → (A → List Lexeme → Type 0) → (A → List Lexeme → Type 0) → A → List Lexeme → Type 0
Either P Q a tokens = P a tokens ⊎ Q a tokens

pub reads_choose : {A : Type 0} {P Q : A → List Lexeme → Type 0} {stop : A → Lexeme → Bool} {p q : Parser A}
    → IsReader P stop p → IsReader Q stop q → (test : Lexeme → Bool) → Begins test true P → Begins test false Q
    → IsReader (Either P Q) stop (choose test p q)
reads_choose {A} {P} {Q} {stop} {p} {q} r w test begins begins' = record {
  some = record { more = r.some.more; tree = r.some.tree; spelled = inl r.some.spelled };
  sound = sound;
  complete = complete;
  refused = refused;
}
  where
    in_p : (tokens : List Lexeme) (tree : A) (rest : List Lexeme) → Reads P stop tokens tree rest
        → Reads (Either P Q) stop tokens tree rest
    in_p tokens tree rest h = record { front = h.front; split = h.split; spelled = inl h.spelled; stops = h.stops }

    in_q : (tokens : List Lexeme) (tree : A) (rest : List Lexeme) → Reads Q stop tokens tree rest
        → Reads (Either P Q) stop tokens tree rest
    in_q tokens tree rest h = record { front = h.front; split = h.split; spelled = inr h.spelled; stops = h.stops }

    sound : (tokens : List Lexeme) (tree : A) (rest : List Lexeme) → choose test p q tokens ≡ Ok (tree, rest)
        → Reads (Either P Q) stop tokens tree rest
    sound [] tree rest e = in_q [] tree rest (w.sound [] tree rest e)
    sound (t ∷ ts) tree rest e = elim (chosen (test t) (p (t ∷ ts)) (q (t ∷ ts)) (Ok (tree, rest)) e) [
      | inl h ↦ in_p (t ∷ ts) tree rest (r.sound (t ∷ ts) tree rest h.1)
      | inr h ↦ in_q (t ∷ ts) tree rest (w.sound (t ∷ ts) tree rest h.1)
    ]

    complete : (tree : A) (front rest : List Lexeme) → Either P Q tree front → Stopped (stop tree) rest
        → choose test p q (front ++ rest) ≡ Ok (tree, rest)
    complete tree front rest (inl h) k =
        let f : FirstIs test true front = begins tree front h in
        let same : choose test p q (front ++ rest) ≡ p (front ++ rest) =
        subst (λ (l : List Lexeme). choose test p q (l ++ rest) ≡ p (l ++ rest)) (sym f.is)
        (ap (λ (b : Bool). cond b (p (f.token ∷ (f.rest ++ rest))) (q (f.token ∷ (f.rest ++ rest)))) f.answers) in
        same ∙ r.complete tree front rest h k
    complete tree front rest (inr h) k =
        let f : FirstIs test false front = begins' tree front h in
        let same : choose test p q (front ++ rest) ≡ q (front ++ rest) =
        subst (λ (l : List Lexeme). choose test p q (l ++ rest) ≡ q (l ++ rest)) (sym f.is)
        (ap (λ (b : Bool). cond b (p (f.token ∷ (f.rest ++ rest))) (q (f.token ∷ (f.rest ++ rest)))) f.answers) in
        same ∙ w.complete tree front rest h k

    refused : (tokens : List Lexeme) (s : Stop) → choose test p q tokens ≡ Err s → HaltsAt (Either P Q) tokens s.left
    refused [] s e =
        let h : HaltsAt Q [] s.left = w.refused [] s e in
        record {
          front = h.front;
          split = h.split;
          before = record { more = h.before.more; tree = h.before.tree; spelled = inr h.before.spelled };
          here = λ t rest f g. no_room h.front t rest (h.split ∙ ap (λ (l : List Lexeme). h.front ++ l) f);
        }
    refused (t ∷ ts) s e = elim (chosen (test t) (p (t ∷ ts)) (q (t ∷ ts)) (Err s) e) [
      | inl c ↦ by_p c.0 (r.refused (t ∷ ts) s c.1)
      | inr c ↦ by_q c.0 (w.refused (t ∷ ts) s c.1)
    ]
      where
        by_p : test t ≡ true → HaltsAt P (t ∷ ts) s.left → HaltsAt (Either P Q) (t ∷ ts) s.left
        by_p c h = record {
          front = h.front;
          split = h.split;
          before = record { more = h.before.more; tree = h.before.tree; spelled = inl h.before.spelled };
          here = λ u rest f g. elim g.spelled [
            | inl y ↦ h.here u rest f (record { more = g.more; tree = g.tree; spelled = y })
            | inr y ↦ (let k : FirstIs test false ((h.front ++ u ∷ []) ++ g.more) = begins' g.tree
                ((h.front ++ u ∷ []) ++ g.more) y in
                let m : t ≡ k.token = same_first h.front u rest g.more t k.token ts k.rest
                (h.split ∙ ap (λ (l : List Lexeme). h.front ++ l) f) k.is in
                let no_test : test k.token ≡ false = k.answers in cc)
          ];
        }

        by_q : test t ≡ false → HaltsAt Q (t ∷ ts) s.left → HaltsAt (Either P Q) (t ∷ ts) s.left
        by_q c h = record {
          front = h.front;
          split = h.split;
          before = record { more = h.before.more; tree = h.before.tree; spelled = inr h.before.spelled };
          here = λ u rest f g. elim g.spelled [
            | inr y ↦ h.here u rest f (record { more = g.more; tree = g.tree; spelled = y })
            | inl y ↦ (let k : FirstIs test true ((h.front ++ u ∷ []) ++ g.more) = begins g.tree
                ((h.front ++ u ∷ []) ++ g.more) y in
                let m : t ≡ k.token = same_first h.front u rest g.more t k.token ts k.rest
                (h.split ∙ ap (λ (l : List Lexeme). h.front ++ l) f) k.is in
                let passes : test k.token ≡ true = k.answers in cc)
          ];
        }

-- ---- once or not at all

-- what ends it: what ends the tree, or any token that doesn't begin one
abbrev pub maybe_ends : {A : Type 0} → (A → Lexeme → Bool) → (Lexeme → Bool) → Option A → Lexeme → Bool
maybe_ends stop test None t = not (test t)
maybe_ends stop test (Some a) t = stop a t

nothing_read : {A : Type 0} (P : A → List Lexeme → Type 0) (stop : A → Lexeme → Bool) (test : Lexeme → Bool)
    (tokens : List Lexeme) (tree : Option A) (rest : List Lexeme)
    → Stopped (λ t. not (test t)) tokens → ◌≡◌ {A = Outcome (Option A)} (Ok (None, tokens)) (Ok (tree, rest))
    → Reads (Maybe P) (maybe_ends stop test) tokens tree rest
nothing_read {A} P stop test tokens tree rest ends e =
    let made : Reads (Maybe P) (maybe_ends stop test) tokens None tokens =
    record { front = []; split = refl; spelled = refl; stops = ends } in
    let at_rest : Reads (Maybe P) (maybe_ends stop test) tokens None rest =
    subst (λ (l : List Lexeme). Reads (Maybe P) (maybe_ends stop test) tokens None l)
    (Outcomes.same_rest None tree tokens rest e) made in
    subst (λ (o : Option A). Reads (Maybe P) (maybe_ends stop test) tokens o rest)
    (Outcomes.same_tree None tree tokens rest e) at_rest

pub reads_maybe : {A : Type 0} {P : A → List Lexeme → Type 0} {stop : A → Lexeme → Bool} {p : Parser A}
    → IsReader P stop p → (test : Lexeme → Bool) → Begins test true P → IsReader (Maybe P) (maybe_ends stop test) (maybe test p)
reads_maybe {A} {P} {stop} {p} r test begins = record {
  some = record { more = []; tree = None; spelled = refl };
  sound = sound;
  complete = complete;
  refused = refused;
}
  where
    sound : (tokens : List Lexeme) (tree : Option A) (rest : List Lexeme) → maybe test p tokens ≡ Ok (tree, rest)
        → Reads (Maybe P) (maybe_ends stop test) tokens tree rest
    sound [] tree rest e = nothing_read P stop test [] tree rest tt e
    sound (t ∷ ts) tree rest e = elim (chosen (test t) (changed (λ a. Some a) (p (t ∷ ts))) (Ok (None, t ∷ ts))
        (Ok (tree, rest)) e) [
          | inl h ↦ (let c = Outcomes.changed_ok (λ a. Some a) (p (t ∷ ts)) tree rest h.1 in
              let k : Reads P stop (t ∷ ts) c.tree rest = r.sound (t ∷ ts) c.tree rest c.was in
              let made : Reads (Maybe P) (maybe_ends stop test) (t ∷ ts) (Some c.tree) rest =
              record { front = k.front; split = k.split; spelled = k.spelled; stops = k.stops } in
              subst (λ (o : Option A). Reads (Maybe P) (maybe_ends stop test) (t ∷ ts) o rest) c.is made)
          | inr h ↦ nothing_read P stop test (t ∷ ts) tree rest (ap not h.0) h.1
        ]

    complete : (tree : Option A) (front rest : List Lexeme) → Maybe P tree front
        → Stopped (maybe_ends stop test tree) rest → maybe test p (front ++ rest) ≡ Ok (tree, rest)
    complete None front rest h k = ap (λ (l : List Lexeme). maybe test p (l ++ rest)) h ∙ at_rest rest k
      where
        not_passed : (b : Bool) → not b ≡ true → b ≡ false
        not_passed true e = cc
        not_passed false e = refl

        at_rest : (rest : List Lexeme) → Stopped (λ t. not (test t)) rest → maybe test p rest ≡ Ok (None, rest)
        at_rest [] k = refl
        at_rest (t ∷ ts) k = ap (λ (b : Bool). cond b (changed (λ a. Some a) (p (t ∷ ts))) (Ok (None, t ∷ ts)))
            (not_passed (test t) k)
    complete (Some a) front rest h k =
        let f : FirstIs test true front = begins a front h in
        let same : maybe test p (front ++ rest) ≡ changed (λ a. Some a) (p (front ++ rest)) =
        subst (λ (l : List Lexeme). maybe test p (l ++ rest) ≡ changed (λ a. Some a) (p (l ++ rest))) (sym f.is)
        (ap (λ (b : Bool). cond b (changed (λ a. Some a) (p (f.token ∷ (f.rest ++ rest))))
        (Ok (None, f.token ∷ (f.rest ++ rest)))) f.answers) in
        same ∙ Outcomes.changed_is (λ a. Some a) (p (front ++ rest)) a rest (r.complete a front rest h k)

    refused : (tokens : List Lexeme) (s : Stop) → maybe test p tokens ≡ Err s → HaltsAt (Maybe P) tokens s.left
    refused [] s e = absurd (cc)
    refused (t ∷ ts) s e = elim (chosen (test t) (changed (λ a. Some a) (p (t ∷ ts))) (Ok (None, t ∷ ts)) (Err s) e) [
      | inl c ↦ (let h : HaltsAt P (t ∷ ts) s.left = r.refused (t ∷ ts) s
          (Outcomes.changed_err (λ a. Some a) (p (t ∷ ts)) s c.1) in
          record {
            front = h.front;
            split = h.split;
            before = record { more = h.before.more; tree = Some h.before.tree; spelled = h.before.spelled };
            here = λ u rest f g. goes h.front u g.more g.tree g.spelled
                (λ a y. h.here u rest f (record { more = g.more; tree = a; spelled = y }));
          })
      | inr c ↦ absurd (let k : ◌≡◌ {A = Outcome (Option A)} (Ok (None, t ∷ ts)) (Err s) = c.1 in cc)
    ]
      where
        goes : (front : List Lexeme) (u : Lexeme) (more : List Lexeme) (tree : Option A) → Maybe P tree
            ((front ++ u ∷ []) ++ more) → ((a : A) → P a ((front ++ u ∷ []) ++ more) → ⊥) → ⊥
        goes [] u more None y no_tree = cc
        goes (v ∷ front) u more None y no_tree = cc
        goes front u more (Some a) y no_tree = no_tree a y
