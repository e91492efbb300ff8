-- A loop that puts what it reads into what holds it.
use Rattle.std.proofs.Common.{◌≡◌, ℕ, zero, suc, ◌+◌, Bool, true, false, cond, List, [], ◌∷◌, ◌++◌, refl, sym, ap, ◌∙◌, append_assoc, arith, subst, Result, Ok, Err}
use Rattle.std.proofs.lemmas.List.{append-nil}
use Rattle.text_tokens.specs.Lexeme.{Lexeme}
use Rattle.text_grammar.specs.Reading.{Stop, Outcome, Parser, Gives, starts, and_then, changed, prepend, many_within}
use Rattle.text_grammar.specs.declared.refusal.Refusal.{Refusal}
use Rattle.text_grammar.proofs.Outcomes
use Rattle.log_syntax.specs.Reading.{gathered, put_all, pushed}

-- the list that is read, where one more begins
many_more : {A : Type 0} (test : Lexeme → Bool) (p : Parser A) (t : Lexeme) (ts : List Lexeme) (k : ℕ) → test t ≡ true
    → many_within (suc k) test p (t ∷ ts) ≡ and_then (p (t ∷ ts)) (λ x rest. prepend (x ∷ []) (many_within k test p rest))
many_more test p t ts k e =
    ap (λ (b : Bool). cond b (and_then (p (t ∷ ts)) (λ x rest. prepend (x ∷ []) (many_within k test p rest))) (Ok ([], t ∷ ts))) e

pub gathered_more : {A B : Type 0} (put : B → A → B) (test : Lexeme → Bool) (p : Parser A) (into held : B)
    (tokens rest : List Lexeme) (k j : ℕ)
    → starts test tokens ≡ true → changed (λ x. put into x) (p tokens) ≡ Ok (held, rest) → k ≡ j + 1
    → gathered put into k test p tokens ≡ gathered put held j test p rest
gathered_more put test p into held [] rest k j e f g = absurd (cc)
gathered_more {A} {B} put test p into held (t ∷ ts) rest k j e f g =
    let w = Outcomes.changed_ok (λ x. put into x) (p (t ∷ ts)) held rest f in
    let count : k ≡ suc j = omega arith in
    ap (λ (n : ℕ). changed (put_all put into) (many_within n test p (t ∷ ts))) count
    ∙ ap (changed (put_all put into)) (many_more test p t ts j e ∙ Outcomes.then_is (p (t ∷ ts))
    (λ x rest. prepend (x ∷ []) (many_within j test p rest)) w.tree rest w.was)
    ∙ Outcomes.changed_twice (λ (ys : List A). (w.tree ∷ []) ++ ys) (put_all put into) (many_within j test p rest)
    ∙ ap (λ (b : B). changed (put_all put b) (many_within j test p rest)) w.is

pub gathered_stops : {A B : Type 0} (put : B → A → B) (test : Lexeme → Bool) (p : Parser A) (into : B)
    (tokens : List Lexeme) (s : Stop) (k j : ℕ)
    → starts test tokens ≡ true → changed (λ x. put into x) (p tokens) ≡ Err s → k ≡ j + 1
    → gathered put into k test p tokens ≡ Err s
gathered_stops put test p into [] s k j e f g = absurd (cc)
gathered_stops put test p into (t ∷ ts) s k j e f g =
    let count : k ≡ suc j = omega arith in
    ap (λ (n : ℕ). changed (put_all put into) (many_within n test p (t ∷ ts))) count
    ∙ ap (changed (put_all put into)) (many_more test p t ts j e
    ∙ ap (λ (o : Outcome _). and_then o (λ x rest. prepend (x ∷ []) (many_within j test p rest)))
    (Outcomes.changed_err (λ x. put into x) (p (t ∷ ts)) s f))

pub gathered_ends : {A B : Type 0} (put : B → A → B) (test : Lexeme → Bool) (p : Parser A) (into : B)
    (tokens : List Lexeme) (k : ℕ)
    → starts test tokens ≡ false → gathered put into k test p tokens ≡ Ok (into, tokens)
gathered_ends put test p into [] zero e = refl
gathered_ends put test p into [] (suc k) e = refl
gathered_ends put test p into (t ∷ ts) zero e = refl
gathered_ends put test p into (t ∷ ts) (suc k) e =
    ap (λ (b : Bool). changed (put_all put into)
    (cond b (and_then (p (t ∷ ts)) (λ x rest. prepend (x ∷ []) (many_within k test p rest))) (Ok ([], t ∷ ts)))) e

-- at the end of the count
pub gathered_counted : {A B : Type 0} (put : B → A → B) (test : Lexeme → Bool) (p : Parser A) (into : B)
    (tokens : List Lexeme) (k : ℕ)
    → k ≡ 0 → gathered put into k test p tokens ≡ Ok (into, tokens)
gathered_counted put test p into tokens k e = ap (λ (n : ℕ). changed (put_all put into) (many_within n test p tokens)) e

-- ---- items at the end of a list

pub all_pushed : {A : Type 0} (xs ys : List A) → put_all pushed xs ys ≡ xs ++ ys
all_pushed xs [] = sym (append-nil xs)
all_pushed xs (y ∷ ys) = all_pushed (xs ++ y ∷ []) ys ∙ append_assoc xs (y ∷ []) ys

-- ---- what a loop began with

pub begun : {A B T : Type 0} (view : T → B × List Lexeme) (result : Result T Refusal) (put : B → A → B)
    (test : Lexeme → Bool) (p : Parser A) (into empty : B) (tokens : List Lexeme) (k : ℕ)
    → into ≡ empty → Gives view result (gathered put into k test p tokens)
    → Gives view result (gathered put empty k test p tokens)
begun {B = B} view result put test p into empty tokens k e h =
    subst (λ (b : B). Gives view result (gathered put b k test p tokens)) e h
