-- A loop that reads one item more.
use Rattle.std.proofs.Common.{◌≡◌, ℕ, zero, suc, ◌+◌, Bool, true, false, cond, List, [], ◌∷◌, ◌++◌, inl, inr, refl, sym, ap, ◌∙◌, append_assoc, arith, Option, Some, None, Ok, Err}
use Rattle.std.proofs.lemmas.List.{append-nil}
use Rattle.text_tokens.specs.Lexeme.{Lexeme}
use Rattle.text_grammar.specs.Reading.{Stop, Outcome, Parser, starts, taken, refuse, and_then, changed, after, prepend, many_within}
use Rattle.text_grammar.proofs.Outcomes
use Rattle.text_grammar.proofs.Choices.{chosen}

-- ---- lists in front of an outcome

pub prepend_nothing : {A : Type 0} (o : Outcome (List A)) → prepend [] o ≡ o
prepend_nothing (Ok x) = refl
prepend_nothing (Err s) = refl

pub prepend_twice : {A : Type 0} (xs : List A) (x : A) (o : Outcome (List A)) → prepend xs (prepend (x ∷ []) o) ≡
    prepend (xs ++ x ∷ []) o
prepend_twice xs x (Ok y) = ap (λ (l : List _). Ok (l, y.1)) (sym (append_assoc xs (x ∷ []) y.0))
prepend_twice xs x (Err s) = refl

-- ---- one item more

item_read : {A : Type 0} (test : Lexeme → Bool) (p : Parser A) (xs : List A) (t : Lexeme) (ts : List Lexeme) (x : A)
    (rest : List Lexeme) (k : ℕ)
    → test t ≡ true → p (t ∷ ts) ≡ Ok (x, rest) → prepend xs (many_within (suc k) test p (t ∷ ts)) ≡ prepend
    (xs ++ x ∷ []) (many_within k test p rest)
item_read test p xs t ts x rest k e f =
    ap (prepend xs)
    (ap (λ (b : Bool). cond b (and_then (p (t ∷ ts)) (λ x rest. prepend (x ∷ []) (many_within k test p rest)))
    (Ok ([], t ∷ ts))) e
    ∙ Outcomes.then_is (p (t ∷ ts)) (λ x rest. prepend (x ∷ []) (many_within k test p rest)) x rest f)
    ∙ prepend_twice xs x (many_within k test p rest)

item_refused : {A : Type 0} (test : Lexeme → Bool) (p : Parser A) (xs : List A) (t : Lexeme) (ts : List Lexeme) (s : Stop) (k : ℕ)
    → test t ≡ true → p (t ∷ ts) ≡ Err s → prepend xs (many_within (suc k) test p (t ∷ ts)) ≡ Err s
item_refused test p xs t ts s k e f =
    ap (prepend xs)
    (ap (λ (b : Bool). cond b (and_then (p (t ∷ ts)) (λ x rest. prepend (x ∷ []) (many_within k test p rest)))
    (Ok ([], t ∷ ts))) e
    ∙ ap (λ (o : Outcome _). and_then o (λ x rest. prepend (x ∷ []) (many_within k test p rest))) f)

no_item : {A : Type 0} (test : Lexeme → Bool) (p : Parser A) (xs : List A) (t : Lexeme) (ts : List Lexeme) (k : ℕ)
    → test t ≡ false → prepend xs (many_within k test p (t ∷ ts)) ≡ Ok (xs, t ∷ ts)
no_item test p xs t ts zero e = ap (λ (l : List _). Ok (l, t ∷ ts)) (append-nil xs)
no_item test p xs t ts (suc k) e =
    ap (prepend xs) (ap (λ (b : Bool). cond b
    (and_then (p (t ∷ ts)) (λ x rest. prepend (x ∷ []) (many_within k test p rest))) (Ok ([], t ∷ ts))) e)
    ∙ ap (λ (l : List _). Ok (l, t ∷ ts)) (append-nil xs)

pub no_tokens : {A : Type 0} (test : Lexeme → Bool) (p : Parser A) (xs : List A) (k : ℕ) → prepend xs
    (many_within k test p []) ≡ Ok (xs, [])
no_tokens test p xs zero = ap (λ (l : List _). Ok (l, [])) (append-nil xs)
no_tokens test p xs (suc k) = ap (λ (l : List _). Ok (l, [])) (append-nil xs)

-- at the end of the count
pub counted : {A : Type 0} (test : Lexeme → Bool) (p : Parser A) (xs : List A) (tokens : List Lexeme) (k : ℕ) → k ≡ 0
    → prepend xs (many_within k test p tokens) ≡ Ok (xs, tokens)
counted test p xs tokens k e = ap (λ (n : ℕ). prepend xs (many_within n test p tokens)) e
    ∙ ap (λ (l : List _). Ok (l, tokens)) (append-nil xs)

-- ---- items that begin by a test

pub item_more : {A : Type 0} (test : Lexeme → Bool) (p : Parser A) (xs ys : List A) (tokens rest : List Lexeme) (k j : ℕ)
    → starts test tokens ≡ true → changed (λ x. xs ++ x ∷ []) (p tokens) ≡ Ok (ys, rest) → k ≡ j + 1
    → prepend xs (many_within k test p tokens) ≡ prepend ys (many_within j test p rest)
item_more test p xs ys [] rest k j e f g = absurd (cc)
item_more test p xs ys (t ∷ ts) rest k j e f g =
    let w = Outcomes.changed_ok (λ x. xs ++ x ∷ []) (p (t ∷ ts)) ys rest f in
    let count : k ≡ suc j = omega arith in
    ap (λ (n : ℕ). prepend xs (many_within n test p (t ∷ ts))) count
    ∙ item_read test p xs t ts w.tree rest j e w.was
    ∙ ap (λ (l : List _). prepend l (many_within j test p rest)) w.is

pub item_stops : {A : Type 0} (test : Lexeme → Bool) (p : Parser A) (xs : List A) (tokens : List Lexeme) (s : Stop) (k j : ℕ)
    → starts test tokens ≡ true → changed (λ x. xs ++ x ∷ []) (p tokens) ≡ Err s → k ≡ j + 1 → prepend xs
    (many_within k test p tokens) ≡ Err s
item_stops test p xs [] s k j e f g = absurd (cc)
item_stops test p xs (t ∷ ts) s k j e f g =
    let count : k ≡ suc j = omega arith in
    ap (λ (n : ℕ). prepend xs (many_within n test p (t ∷ ts))) count
    ∙ item_refused test p xs t ts s j e (Outcomes.changed_err (λ x. xs ++ x ∷ []) (p (t ∷ ts)) s f)

pub item_ends : {A : Type 0} (test : Lexeme → Bool) (p : Parser A) (xs : List A) (tokens : List Lexeme) (k : ℕ)
    → starts test tokens ≡ false → prepend xs (many_within k test p tokens) ≡ Ok (xs, tokens)
item_ends test p xs [] k e = no_tokens test p xs k
item_ends test p xs (t ∷ ts) k e = no_item test p xs t ts k e

-- ---- items after a fixed token

record Took (test : Lexeme → Bool) (tokens next : List Lexeme) : Type 0 where
  pub token : Lexeme
  pub is : tokens ≡ token ∷ next
  pub passes : test token ≡ true

took : (test : Lexeme → Bool) (tokens next : List Lexeme) → taken test tokens ≡ Some next → Took test tokens next
took test [] next e = absurd (cc)
took test (t ∷ ts) next e = elim (chosen (test t) (Some ts) None (Some next) e) [
  | inl c ↦ record { token = t; is = (let k : ◌≡◌ {A = Option (List Lexeme)} (Some ts) (Some next) = c.1 in cc); passes = c.0 }
  | inr c ↦ absurd (let k : ◌≡◌ {A = Option (List Lexeme)} None (Some next) = c.1 in cc)
]

after_is : {A : Type 0} (test : Lexeme → Bool) (p : Parser A) (tokens next : List Lexeme) (w : Took test tokens next)
    → after test p tokens ≡ p next
after_is test p tokens next w = ap (after test p) w.is
    ∙ ap (λ (b : Bool). and_then (cond b (Ok (tt, next)) (Err (refuse (w.token ∷ next)))) (λ u rest. p rest)) w.passes

starts_is : (test : Lexeme → Bool) (tokens next : List Lexeme) → Took test tokens next → starts test tokens ≡ true
starts_is test tokens next w = ap (starts test) w.is ∙ w.passes

pub further_item : {A : Type 0} (test : Lexeme → Bool) (p : Parser A) (xs ys : List A) (tokens next rest : List Lexeme) (k j : ℕ)
    → taken test tokens ≡ Some next → changed (λ x. xs ++ x ∷ []) (p next) ≡ Ok (ys, rest) → k ≡ j + 1
    → prepend xs (many_within k test (after test p) tokens) ≡ prepend ys (many_within j test (after test p) rest)
further_item test p xs ys tokens next rest k j e f g =
    let w = took test tokens next e in
    item_more test (after test p) xs ys tokens rest k j (starts_is test tokens next w)
    (ap (changed (λ x. xs ++ x ∷ [])) (after_is test p tokens next w) ∙ f) g

pub further_stops : {A : Type 0} (test : Lexeme → Bool) (p : Parser A) (xs : List A) (tokens next : List Lexeme)
    (s : Stop) (k j : ℕ)
    → taken test tokens ≡ Some next → changed (λ x. xs ++ x ∷ []) (p next) ≡ Err s → k ≡ j + 1 → prepend xs
    (many_within k test (after test p) tokens) ≡ Err s
further_stops test p xs tokens next s k j e f g =
    let w = took test tokens next e in
    item_stops test (after test p) xs tokens s k j (starts_is test tokens next w)
    (ap (changed (λ x. xs ++ x ∷ [])) (after_is test p tokens next w) ∙ f) g

pub further_ends : {A : Type 0} (test : Lexeme → Bool) (p : Parser A) (xs : List A) (tokens : List Lexeme) (k : ℕ)
    → taken test tokens ≡ None → prepend xs (many_within k test (after test p) tokens) ≡ Ok (xs, tokens)
further_ends test p xs [] k e = no_tokens test (after test p) xs k
further_ends test p xs (t ∷ ts) k e = elim (chosen (test t) (Some ts) None None e) [
  | inl c ↦ absurd (let k : ◌≡◌ {A = Option (List Lexeme)} (Some ts) None = c.1 in cc)
  | inr c ↦ no_item test (after test p) xs t ts k c.0
]
