-- Readers of lists keep their laws: a reader any number of times, and once or more with a separator.
use Rattle.std.proofs.Common.{◌≡◌, ℕ, zero, suc, ◌+◌, ◌≤◌, Bool, true, false, not, ◌&&◌, cond, List, [], ◌∷◌, ◌++◌, length, inl, inr, refl, sym, ap, subst, ◌∙◌, append_assoc, arith, length-append, Ok, Err}
use Rattle.text_tokens.specs.Lexeme.{Lexeme}
use Rattle.text_grammar.specs.Grammar.{◌⋅◌, Passes, Many, Listed}
use Rattle.text_grammar.specs.Reading.{Stop, Outcome, Parser, and_then, changed, prepend, mapped, both, after, many_within, many, listed}
use Rattle.text_grammar.specs.Laws.{Stopped, Reads, HaltsAt, IsReader}
use Rattle.text_grammar.proofs.Outcomes
use Rattle.text_grammar.proofs.Readers.{always, FirstIs, Begins, Ended, stopped_at_first, first_then, first_passes, Follows, Joins, Image, halts_in_first, halts_in_second, reads_as, reads_same, reads_both, reads_mapped, reads_after}
use Rattle.text_grammar.proofs.Choices.{chosen}

-- what ends a list: what ends its last item, and begins no further one
abbrev pub ends : {A : Type 0} → (A → Lexeme → Bool) → (Lexeme → Bool) → List A → Lexeme → Bool
ends stop test [] t = not (test t)
ends stop test (x ∷ []) t = stop x t && not (test t)
ends stop test (x ∷ y ∷ ys) t = ends stop test (y ∷ ys) t

and_first : (a b : Bool) → a && b ≡ true → a ≡ true
and_first true b e = refl
and_first false b e = cc

and_second : (a b : Bool) → a && b ≡ true → b ≡ true
and_second true b e = e
and_second false b e = absurd (cc)

and_both : (a b : Bool) → a ≡ true → b ≡ true → a && b ≡ true
and_both true b e f = f
and_both false b e f = absurd (cc)

stopped_first : (s r : Lexeme → Bool) (rest : List Lexeme) → Stopped (λ t. s t && r t) rest → Stopped s rest
stopped_first s r [] h = tt
stopped_first s r (t ∷ ts) h = and_first (s t) (r t) h

stopped_second : (s r : Lexeme → Bool) (rest : List Lexeme) → Stopped (λ t. s t && r t) rest → Stopped r rest
stopped_second s r [] h = tt
stopped_second s r (t ∷ ts) h = and_second (s t) (r t) h

stopped_both : (s r : Lexeme → Bool) (rest : List Lexeme) → Stopped s rest → Stopped r rest → Stopped (λ t. s t && r t) rest
stopped_both s r [] h k = tt
stopped_both s r (t ∷ ts) h k = and_both (s t) (r t) h k

first_of_many : {A : Type 0} {P : A → List Lexeme → Type 0} (test : Lexeme → Bool) → Begins test true P →
    (x : A) (xs : List A) (tokens : List Lexeme) → Many P (x ∷ xs) tokens → FirstIs test true tokens
first_of_many test begins x xs tokens h = first_then test true (begins x) h

-- ---- where a list ends

pub joins_many : {A : Type 0} (P : A → List Lexeme → Type 0) (stop : A → Lexeme → Bool) (test : Lexeme → Bool)
    → Begins test true P → Ended stop test
    → Joins stop (Many P) (ends stop test) (λ (x : A × List A). ends stop test (x.0 ∷ x.1))
joins_many {A} P stop test begins goes = record { first = first; second = second; all = all }
  where
    first : (a : A) (xs : List A) (front rest : List Lexeme) → Many P xs front → Stopped (ends stop test (a ∷ xs))
        rest → Stopped (stop a) (front ++ rest)
    first a [] front rest h k = subst (λ (l : List Lexeme). Stopped (stop a) (l ++ rest)) (sym h)
        (stopped_first (stop a) (λ t. not (test t)) rest k)
    first a (y ∷ ys) front rest h k = stopped_at_first (stop a) test (goes a) front rest
        (first_of_many {P = P} test begins y ys front h)

    second : (a : A) (xs : List A) (rest : List Lexeme) → Stopped (ends stop test (a ∷ xs)) rest
        → Stopped (ends stop test xs) rest
    second a [] rest k = stopped_second (stop a) (λ t. not (test t)) rest k
    second a (y ∷ ys) rest k = k

    all : (a : A) (xs : List A) (front rest : List Lexeme) → Many P xs front → Stopped (stop a) (front ++ rest)
        → Stopped (ends stop test xs) rest → Stopped (ends stop test (a ∷ xs)) rest
    all a [] front rest h k m = stopped_both (stop a) (λ t. not (test t)) rest
        (subst (λ (l : List Lexeme). Stopped (stop a) (l ++ rest)) h k) m
    all a (y ∷ ys) front rest h k m = m

-- ---- a reader any number of times

-- what an item leaves is shorter
shorter : (t : Lexeme) (ts front mid : List Lexeme) (test : Lexeme → Bool) (b : Bool) (k : ℕ) → t ∷ ts ≡ front ++ mid
    → FirstIs test b front → length (t ∷ ts) ≤ suc k → length mid ≤ k
shorter t ts front mid test b k e f h =
    let same : t ∷ ts ≡ f.token ∷ (f.rest ++ mid) = e ∙ ap (λ (l : List Lexeme). l ++ mid) f.is in
    let tails : ts ≡ f.rest ++ mid = cc in
    let sizes : length ts ≡ length f.rest + length mid = ap length tails ∙ length-append f.rest mid in
    omega arith

no_items : {A : Type 0} (P : A → List Lexeme → Type 0) (stop : A → Lexeme → Bool) (test : Lexeme → Bool)
    (tokens : List Lexeme) (tree : List A) (rest : List Lexeme)
    → Stopped (λ t. not (test t)) tokens → ◌≡◌ {A = Outcome (List A)} (Ok ([], tokens)) (Ok (tree, rest))
    → Reads (Many P) (ends stop test) tokens tree rest
no_items {A} P stop test tokens tree rest stops e =
    let made : Reads (Many P) (ends stop test) tokens [] tokens = record {
      front = [];
      split = refl;
      spelled =
          refl;
      stops = stops;
    } in
    let at_rest : Reads (Many P) (ends stop test) tokens [] rest =
    subst (λ (l : List Lexeme). Reads (Many P) (ends stop test) tokens [] l)
    (Outcomes.same_rest [] tree tokens rest e) made in
    subst (λ (o : List A). Reads (Many P) (ends stop test) tokens o rest) (Outcomes.same_tree [] tree tokens rest e) at_rest

not_passed : (b : Bool) → not b ≡ true → b ≡ false
not_passed true e = cc
not_passed false e = refl

pub reads_many : {A : Type 0} {P : A → List Lexeme → Type 0} {stop : A → Lexeme → Bool} {p : Parser A}
    → IsReader P stop p → (test : Lexeme → Bool) → Begins test true P → Ended stop test → IsReader (Many P)
    (ends stop test) (many test p)
reads_many {A} {P} {stop} {p} r test begins goes = record {
  some = record { more = []; tree = []; spelled = refl };
  sound = λ tokens tree rest e. sound (length tokens) tokens tree rest (omega arith) e;
  complete = λ tree front rest h k. complete (length (front ++ rest)) tree front rest (omega arith) h k;
  refused = λ tokens s e. refused (length tokens) tokens s e;
}
  where
    j : Joins stop (Many P) (ends stop test) (λ (x : A × List A). ends stop test (x.0 ∷ x.1))
    j = joins_many P stop test begins goes

    follows : Follows stop (λ (a : A). Many P)
    follows a [] tokens h = subst (Stopped (stop a)) (sym h) tt
    follows a (x ∷ xs) tokens h = let f = first_of_many {P = P} test begins x xs tokens h in subst (Stopped (stop a))
        (sym f.is) (goes a f.token f.answers)

    sound : (k : ℕ) (tokens : List Lexeme) (tree : List A) (rest : List Lexeme) → length tokens ≤ k
        → many_within k test p tokens ≡ Ok (tree, rest) → Reads (Many P) (ends stop test) tokens tree rest
    sound zero [] tree rest h e = no_items P stop test [] tree rest tt e
    sound zero (t ∷ ts) tree rest h e = absurd (omega arith)
    sound (suc k) [] tree rest h e = no_items P stop test [] tree rest tt e
    sound (suc k) (t ∷ ts) tree rest h e =
        elim (chosen (test t) (and_then (p (t ∷ ts)) (λ x rest. prepend (x ∷ []) (many_within k test p rest)))
        (Ok ([], t ∷ ts)) (Ok (tree, rest)) e) [
          | inl c ↦ (let w = Outcomes.then_ok (p (t ∷ ts)) (λ x rest. prepend (x ∷ []) (many_within k test p rest))
              (tree, rest) c.1 in
              let one : Reads P stop (t ∷ ts) w.tree w.mid = r.sound (t ∷ ts) w.tree w.mid w.was in
              let m = Outcomes.changed_ok (λ ys. (w.tree ∷ []) ++ ys) (many_within k test p w.mid) tree rest w.next in
              let f : FirstIs test true one.front = begins w.tree one.front one.spelled in
              let two : Reads (Many P) (ends stop test) w.mid m.tree rest = sound k w.mid m.tree rest
              (shorter t ts one.front w.mid test true k one.split f h) m.was in
              let made : Reads (Many P) (ends stop test) (t ∷ ts) (w.tree ∷ m.tree) rest = record {
                front = one.front ++ two.front;
                split = one.split ∙ ap (λ (l : List Lexeme). one.front ++ l) two.split ∙ sym (append_assoc one.front two.front rest);
                spelled = record { front = one.front; rest = two.front; split = refl; first = one.spelled; second = two.spelled };
                stops = j.all w.tree m.tree two.front rest two.spelled (subst (Stopped (stop w.tree)) two.split one.stops) two.stops;
              } in
              subst (λ (l : List A). Reads (Many P) (ends stop test) (t ∷ ts) l rest) m.is made)
          | inr c ↦ no_items P stop test (t ∷ ts) tree rest (ap not c.0) c.1
        ]

    done : (k : ℕ) (rest : List Lexeme) → Stopped (λ t. not (test t)) rest → many_within k test p rest ≡ Ok ([], rest)
    done zero rest h = refl
    done (suc k) [] h = refl
    done (suc k) (t ∷ ts) h = ap (λ (b : Bool). cond b
        (and_then (p (t ∷ ts)) (λ x rest. prepend (x ∷ []) (many_within k test p rest))) (Ok ([], t ∷ ts)))
        (not_passed (test t) h)

    complete : (k : ℕ) (tree : List A) (front rest : List Lexeme) → length (front ++ rest) ≤ k → Many P tree front
        → Stopped (ends stop test tree) rest → many_within k test p (front ++ rest) ≡ Ok (tree, rest)
    complete k [] front rest h y m = ap (λ (l : List Lexeme). many_within k test p (l ++ rest)) y ∙ done k rest m
    complete k (x ∷ xs) front rest h y m = at_count k h (λ n fewer. complete n xs y.rest rest fewer y.second
        (j.second x xs rest m))
      where
        f : FirstIs test true y.front
        f = begins x y.front y.first

        same : front ++ rest ≡ f.token ∷ (f.rest ++ (y.rest ++ rest))
        same = ap (λ (l : List Lexeme). l ++ rest) y.split ∙ append_assoc y.front y.rest rest
            ∙ ap (λ (l : List Lexeme). l ++ (y.rest ++ rest)) f.is

        read : p (f.token ∷ (f.rest ++ (y.rest ++ rest))) ≡ Ok (x, y.rest ++ rest)
        read = ap (λ (l : List Lexeme). p (l ++ (y.rest ++ rest))) (sym f.is) ∙ r.complete x y.front (y.rest ++ rest)
            y.first (j.first x xs y.rest rest y.second m)

        at_count : (k : ℕ) → length (front ++ rest) ≤ k →
            ((n : ℕ) → length (y.rest ++ rest) ≤ n → many_within n test p (y.rest ++ rest) ≡ Ok (xs, rest))
            → many_within k test p (front ++ rest) ≡ Ok (x ∷ xs, rest)
        at_count zero h further = absurd (let sizes : length (front ++ rest) ≡ length
            (f.token ∷ (f.rest ++ (y.rest ++ rest))) = ap length same in omega arith)
        at_count (suc k) h further =
            let sizes : length (front ++ rest) ≡ length (f.token ∷ (f.rest ++ (y.rest ++ rest))) = ap length same in
            let parts : length (f.rest ++ (y.rest ++ rest)) ≡ length f.rest + length (y.rest ++ rest) =
            length-append f.rest (y.rest ++ rest) in
            let fewer : length (y.rest ++ rest) ≤ k = omega arith in
            let more : many_within k test p (y.rest ++ rest) ≡ Ok (xs, rest) = further k fewer in
            ap (many_within (suc k) test p) same
            ∙ ap (λ (b : Bool). cond b (and_then (p (f.token ∷ (f.rest ++ (y.rest ++ rest))))
            (λ x rest. prepend (x ∷ []) (many_within k test p rest)))
            (Ok ([], f.token ∷ (f.rest ++ (y.rest ++ rest))))) f.answers
            ∙ Outcomes.then_is (p (f.token ∷ (f.rest ++ (y.rest ++ rest))))
            (λ x rest. prepend (x ∷ []) (many_within k test p rest)) x (y.rest ++ rest) read
            ∙ Outcomes.changed_is (λ ys. (x ∷ []) ++ ys) (many_within k test p (y.rest ++ rest)) xs rest more

    no_end : (front : List Lexeme) (u : Lexeme) (more : List Lexeme) (tree : List A) → Many P tree ((front ++ u ∷ []) ++ more)
        → ((x : A) (xs : List A) → Many P (x ∷ xs) ((front ++ u ∷ []) ++ more) → ⊥) → ⊥
    no_end [] u more [] y no_tree = cc
    no_end (v ∷ front) u more [] y no_tree = cc
    no_end front u more (x ∷ xs) y no_tree = no_tree x xs y

    halts : (tokens left : List Lexeme) → HaltsAt (λ (x : A × List A). P x.0 ⋅ Many P x.1) tokens left
        → HaltsAt (Many P) tokens left
    halts tokens left h = record {
      front = h.front;
      split = h.split;
      before = record { more = h.before.more; tree = h.before.tree.0 ∷ h.before.tree.1; spelled = h.before.spelled };
      here = λ t rest f g. no_end h.front t g.more g.tree g.spelled
          (λ x xs y. h.here t rest f (record { more = g.more; tree = (x, xs); spelled = y }));
    }

    refused : (k : ℕ) (tokens : List Lexeme) (s : Stop) → many_within k test p tokens ≡ Err s → HaltsAt (Many P) tokens s.left
    refused zero tokens s e = absurd (let k : ◌≡◌ {A = Outcome (List A)} (Ok ([], tokens)) (Err s) = e in cc)
    refused (suc k) [] s e = absurd (let k : ◌≡◌ {A = Outcome (List A)} (Ok ([], [])) (Err s) = e in cc)
    refused (suc k) (t ∷ ts) s e =
        elim (chosen (test t) (and_then (p (t ∷ ts)) (λ x rest. prepend (x ∷ []) (many_within k test p rest)))
        (Ok ([], t ∷ ts)) (Err s) e) [
          | inl c ↦ (elim (Outcomes.then_err (p (t ∷ ts)) (λ x rest. prepend (x ∷ []) (many_within k test p rest)) s c.1) [
            | inl f ↦ halts (t ∷ ts) s.left
                (halts_in_first r (λ a. Many P) follows (λ a. record { more = []; tree = []; spelled = refl }) (t ∷ ts) s f)
            | inr w ↦ halts (t ∷ ts) s.left (halts_in_second r (λ a. Many P) follows (t ∷ ts) w.tree w.mid w.was s.left
                (refused k w.mid s (Outcomes.changed_err (λ ys. (w.tree ∷ []) ++ ys) (many_within k test p w.mid) s w.next)))
          ])
          | inr c ↦ absurd (let k : ◌≡◌ {A = Outcome (List A)} (Ok ([], t ∷ ts)) (Err s) = c.1 in cc)
        ]

-- ---- a reader once or more, with a separator between two

pub reads_listed : {A : Type 0} {P : A → List Lexeme → Type 0} {stop : A → Lexeme → Bool} {p : Parser A}
    → IsReader P stop p → (separator : Lexeme → Bool) (t : Lexeme) → separator t ≡ true → Ended stop separator
    → IsReader (Listed (Passes separator) P) (ends stop separator) (listed separator p)
reads_listed {A} {P} {stop} {p} r separator t e goes =
    reads_same
    (reads_as (reads_mapped pairs (λ (x : A × List A). x.0 ∷ x.1) (ends stop separator) (λ a t. refl)) same)
    into back
  where
    begins : Begins separator true (λ y. Passes separator ⋅ P y)
    begins a tokens h = first_then separator true (first_passes separator separator true (λ t f. f)) h

    further : IsReader (Many (λ y. Passes separator ⋅ P y)) (ends stop separator) (many separator (after separator p))
    further = reads_many (reads_after separator t e r) separator begins goes

    pairs : IsReader (λ (x : A × List A). P x.0 ⋅ Many (λ y. Passes separator ⋅ P y) x.1)
        (λ (x : A × List A). ends stop separator (x.0 ∷ x.1)) (both p (many separator (after separator p)))
    pairs = reads_both r further (joins_many (λ y. Passes separator ⋅ P y) stop separator begins goes)

    same : (tokens : List Lexeme) → listed separator p tokens ≡ mapped (λ (x : A × List A). x.0 ∷ x.1)
        (both p (many separator (after separator p))) tokens
    same tokens = sym (Outcomes.changed_then (λ (x : A × List A). x.0 ∷ x.1) (p tokens)
        (λ x rest. changed (λ ys. (x, ys)) (many separator (after separator p) rest)) ∙ then_same (p tokens))
      where
        then_same : (o : Outcome A) → and_then o (λ x rest. changed (λ (x : A × List A). x.0 ∷ x.1)
            (changed (λ ys. (x, ys)) (many separator (after separator p) rest)))
            ≡ and_then o (λ x rest. prepend (x ∷ []) (many separator (after separator p) rest))
        then_same (Ok x) = Outcomes.changed_twice (λ (ys : List A). (x.0, ys)) (λ (x : A × List A). x.0 ∷ x.1)
            (many separator (after separator p) x.1)
        then_same (Err s) = refl

    into : (xs : List A) (tokens : List Lexeme) → Image (λ (x : A × List A). x.0 ∷ x.1)
        (λ (x : A × List A). P x.0 ⋅ Many (λ y. Passes separator ⋅ P y) x.1) xs tokens → Listed (Passes separator) P xs tokens
    into xs tokens h = subst (λ (l : List A). Listed (Passes separator) P l tokens) h.is h.spelled

    back : (xs : List A) (tokens : List Lexeme) → Listed (Passes separator) P xs tokens
        → Image (λ (x : A × List A). x.0 ∷ x.1) (λ (x : A × List A). P x.0 ⋅ Many (λ y. Passes separator ⋅ P y) x.1) xs tokens
    back [] tokens h = absurd h
    back (x ∷ xs) tokens h = record { tree = (x, xs); is = refl; spelled = h }

-- ---- lists of items that every token ends

-- the same end, said in other words
pub reads_until : {A : Type 0} {P : A → List Lexeme → Type 0} {stop stop' : A → Lexeme → Bool} {p : Parser A}
    → IsReader P stop p → ((a : A) (tokens : List Lexeme) (t : Lexeme) → P a tokens → stop' a t ≡ stop a t) → IsReader P stop' p
reads_until {A} {P} {stop} {stop'} {p} r same = record {
  some = r.some;
  sound = λ tokens tree rest e. (let h : Reads P stop tokens tree rest = r.sound tokens tree rest e in
      record { front = h.front; split = h.split; spelled = h.spelled; stops = ended tree h.front rest h.spelled h.stops });
  complete = λ tree front rest h k. r.complete tree front rest h (unended tree front rest h k);
  refused = r.refused;
}
  where
    ended : (a : A) (tokens rest : List Lexeme) → P a tokens → Stopped (stop a) rest → Stopped (stop' a) rest
    ended a tokens [] h k = tt
    ended a tokens (t ∷ ts) h k = same a tokens t h ∙ k

    unended : (a : A) (tokens rest : List Lexeme) → P a tokens → Stopped (stop' a) rest → Stopped (stop a) rest
    unended a tokens [] h k = tt
    unended a tokens (t ∷ ts) h k = sym (same a tokens t h) ∙ k

-- any token that doesn't begin a further item
abbrev pub unless : {A : Type 0} → (Lexeme → Bool) → A → Lexeme → Bool
unless test a t = not (test t)

unless_ends : {A : Type 0} (test : Lexeme → Bool) (xs : List A) (t : Lexeme) → not (test t) ≡ ends always test xs t
unless_ends test [] t = refl
unless_ends test (x ∷ []) t = refl
unless_ends test (x ∷ y ∷ ys) t = unless_ends test (y ∷ ys) t

pub reads_many_plain : {A : Type 0} {P : A → List Lexeme → Type 0} {p : Parser A}
    → IsReader P always p → (test : Lexeme → Bool) → Begins test true P → IsReader (Many P) (unless test) (many test p)
reads_many_plain {A} {P} {p} r test begins = reads_until (reads_many r test begins (λ a t e. refl))
    (λ xs tokens t h. unless_ends test xs t)

pub reads_listed_plain : {A : Type 0} {P : A → List Lexeme → Type 0} {p : Parser A}
    → IsReader P always p → (separator : Lexeme → Bool) (t : Lexeme) → separator t ≡ true
    → IsReader (Listed (Passes separator) P) (unless separator) (listed separator p)
reads_listed_plain {A} {P} {p} r separator t e = reads_until (reads_listed r separator t e (λ a t e. refl))
    (λ xs tokens t h. unless_ends separator xs t)
