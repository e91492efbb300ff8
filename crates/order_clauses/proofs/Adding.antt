-- Axioms that are put after the steps of a log, in parts.
use Rattle.std.proofs.Common.{◌≡◌, ◌∙◌, ◌≤◌, ◌+◌, ℕ, List, [], ◌∷◌, ◌++◌, Some, length, slice_get, take, sym, ap, subst, append_assoc, add-one}
use Rattle.std.specs.List.{flat_map}
use Rattle.std.proofs.lemmas.List.{append-nil, take_more, take_all}
use Rattle.std.proofs.lemmas.Option.{slice_get_within, get_or_from_slice_get}
use Rattle.refutation_log.specs.declared.step.Label.{Label}
use Rattle.refutation_log.specs.declared.step.Step.{Step}
use Rattle.order_clauses.specs.Added.{IsStepOf, AreStepsOf, Adds, below}
use Rattle.order_clauses.specs.Subject.{Subject}

pub adds_none : (s : Subject) (steps : List Step) → Adds s [] steps steps
adds_none s steps = record { added = []; is_added = sym (append-nil steps); are_steps = tt }

pub adds_one : (s : Subject) (l : Label) (taken : Step) (old new : List Step) → IsStepOf s l taken → new ≡ old
    ++ taken ∷ [] → Adds s (l ∷ []) old new
adds_one s l taken old new is e = record { added = taken ∷ []; is_added = e; are_steps = (is, tt) }

steps_append : (s : Subject) (ls ms : List Label) (ts us : List Step) → AreStepsOf s ls ts → AreStepsOf s ms us
    → AreStepsOf s (ls ++ ms) (ts ++ us)
steps_append s [] ms [] us a b = b
steps_append s [] ms (x ∷ ts) us a b = absurd a
steps_append s (l ∷ ls) ms [] us a b = absurd a
steps_append s (l ∷ ls) ms (x ∷ ts) us a b = (a.0, steps_append s ls ms ts us a.1 b)

pub adds_both : (s : Subject) (ls ms : List Label) (a b c : List Step) → Adds s ls a b → Adds s ms b c → Adds s (ls ++ ms) a c
adds_both s ls ms a b c x y = record {
  added = x.added ++ y.added;
  is_added = y.is_added ∙ ap (λ (t : List Step). t ++ y.added) x.is_added ∙ append_assoc a x.added y.added;
  are_steps = steps_append s ls ms x.added y.added x.are_steps y.are_steps;
}

pub below_none : (s : Subject) (f : ℕ → List Label) (a : List Step) → Adds s (below f 0) a a
unfolding below
below_none s f a = adds_none s a

pub below_more : (s : Subject) (f : ℕ → List Label) (n : ℕ) (a b c : List Step) → Adds s (below f n) a b
    → Adds s (f n) b c → Adds s (below f (n + 1)) a c
unfolding below
below_more s f n a b c x y = rw add-one (adds_both s (below f n) (f n) a b c x y)

pub flat_map_push : {A B : Type 0} (f : A → List B) (xs : List A) (x : A) → flat_map f (xs ++ x ∷ []) ≡ flat_map f xs ++ f x
flat_map_push f [] x = append-nil (f x)
flat_map_push {A} {B} f (y ∷ xs) x = ap (λ (l : List B). f y ++ l) (flat_map_push f xs x)
    ∙ sym (append_assoc (f y) (flat_map f xs) (f x))

pub flat_push : {A : Type 0} (s : Subject) (f : A → List Label) (xs : List A) (x : A) (a b c : List Step)
    → Adds s (flat_map f xs) a b → Adds s (f x) b c → Adds s (flat_map f (xs ++ x ∷ [])) a c
flat_push s f xs x a b c p q = rw (flat_map_push f xs x) (adds_both s (flat_map f xs) (f x) a b c p q)

pub flat_more : {A : Type 0} (s : Subject) (f : A → List Label) (xs : List A) (i : ℕ) (x : A) (a b c : List Step)
    → slice_get xs i ≡ Some x
    → Adds s (flat_map f (take i xs)) a b → Adds s (f x) b c → Adds s (flat_map f (take (i + 1) xs)) a c
flat_more s f xs i x a b c at p q =
    rw (take_more xs i x (slice_get_within xs i x at), get_or_from_slice_get xs i x x at) (flat_push s f (take i xs) x a b c p q)

pub below_all : (s : Subject) (f : ℕ → List Label) (n m : ℕ) (a b : List Step) → n ≡ m → Adds s (below f n) a b
    → Adds s (below f m) a b
below_all s f n m a b e adds = subst (λ (k : ℕ). Adds s (below f k) a b) e adds

pub flat_all : {A : Type 0} (s : Subject) (f : A → List Label) (xs : List A) (n : ℕ) (a b : List Step) → length xs ≤ n
    → Adds s (flat_map f (take n xs)) a b → Adds s (flat_map f xs) a b
flat_all {A} s f xs n a b e adds = subst (λ (ys : List A). Adds s (flat_map f ys) a b) (take_all n xs e) adds
