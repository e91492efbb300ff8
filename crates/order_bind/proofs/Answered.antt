-- Lists that are answered item by item.
use Rattle.std.proofs.Common.{◌≡◌, ◌∙◌, ◌+◌, ℕ, List, [], ◌∷◌, ◌++◌, length, Result, Ok, Err, All, refl, sym, ap, subst, zero-add, arith}
use Rattle.std.specs.List.{enumerate_from}
use Rattle.std.proofs.lemmas.List.{append-nil}
use Rattle.std.proofs.lemmas.List.Elements.{All-nil, All-cons, All-head, All-tail, All-same}
use Rattle.std.proofs.lemmas.List.FromFn.{length-enumerate_from}
use Rattle.bind_faults.specs.Faults.{all_of}
use Rattle.bind_faults.specs.declared.fault.BindFault.{BindFault}
use Rattle.table_rows.proofs.SoFar.{enumerate_append}
use Rattle.order_bind.proofs.OrderLemmas.{all_of-at_err, all_of-at_ok, with_front, with_front-none, with_one}
use Rattle.order_bind.proofs.OrderPairs.{all_of-length, first_ok}

-- a fact of each answer, from one of each item
pub each_answer : {X A : Type 0} (Q : X → Type 0) (P : A → Type 0) (f : X → Result A BindFault) →
    ((n : X) (x : A) → Q n → f n ≡ Ok x → P x)
    → (ns : List X) (xs : List A) → All Q ns → all_of f ns ≡ Ok xs → All P xs
each_answer Q P f each [] xs all is = let none : xs ≡ [] = cc in All-same P xs [] none (All-nil P)
each_answer Q P f each (n ∷ ns) xs all is =
    let parts = first_ok f n ns xs is in
    All-same P xs (parts.0 ∷ parts.1) parts.4
    (All-cons P parts.0 parts.1 (each n parts.0 (All-head Q n ns all) parts.2)
    (each_answer Q P f each ns parts.1 (All-tail Q n ns all) parts.3))

-- answers in front of others
one_front : {A : Type 0} (y : A) (ys : List A) (r : Result (List A) BindFault) → with_one y (with_front ys r) ≡
    with_front (y ∷ ys) r
one_front y ys (Ok zs) = refl
one_front y ys (Err e) = refl

all_of-append : {X A : Type 0} (f : X → Result A BindFault) (ns more : List X) (xs : List A) → all_of f ns ≡ Ok xs
    → all_of f (ns ++ more) ≡ with_front xs (all_of f more)
all_of-append {X} {A} f [] more xs is =
    let none : [] ≡ xs = cc in
    subst (λ (ys : List A). all_of f more ≡ with_front ys (all_of f more)) none (sym (with_front-none (all_of f more)))
all_of-append {X} {A} f (n ∷ ns) more xs is =
    let parts = first_ok f n ns xs is in
    let all : all_of f (n ∷ (ns ++ more)) ≡ with_front (parts.0 ∷ parts.1) (all_of f more) =
    all_of-at_ok f n parts.0 (ns ++ more) parts.2
    ∙ ap (with_one parts.0) (all_of-append f ns more parts.1 parts.3)
    ∙ one_front parts.0 parts.1 (all_of f more) in
    all ∙ ap (λ (ys : List A). with_front ys (all_of f more)) (sym parts.4)

-- ---- items with their places

-- all items so far have an answer
pub record AreAnswered {X A : Type 0} (f : ℕ × X → Result A BindFault) (done : List X) (list : List A) : Type 0 where
  pub answers : all_of f (enumerate_from 0 done) ≡ Ok list

pub answered_none : {X A : Type 0} (f : ℕ × X → Result A BindFault) → AreAnswered f [] []
answered_none f = record { answers = refl }

place_of_next : {X A : Type 0} (f : ℕ × X → Result A BindFault) (done : List X) (list : List A) → AreAnswered f done
    list → length done ≡ length list
place_of_next f done list so = sym (all_of-length f (enumerate_from 0 done) list so.answers ∙ length-enumerate_from 0 done)

with_next : {X A : Type 0} (f : ℕ × X → Result A BindFault) (done : List X) (t : X) (rest : List X) (list : List A)
    → AreAnswered f done list
    → all_of f (enumerate_from 0 (done ++ t ∷ rest)) ≡ with_front list
    (all_of f ((length list, t) ∷ enumerate_from (length list + 1) rest))
with_next f done t rest list so =
    ap (all_of f) (enumerate_append 0 done (t ∷ rest) ∙ rw (zero-add, place_of_next f done list so) refl)
    ∙ all_of-append f (enumerate_from 0 done) ((length list, t) ∷ enumerate_from (length list + 1) rest) list so.answers

at_place : {X A : Type 0} (f : ℕ × X → Result A BindFault) (t : X) (place count : ℕ) (r : Result A BindFault)
    → place ≡ count → f (place, t) ≡ r
    → f (count, t) ≡ r
at_place f t place count r counted is = ap (λ k. f (k, t)) (sym counted) ∙ is

pub answered_more : {X A : Type 0} (f : ℕ × X → Result A BindFault) (done : List X) (t : X) (list : List A)
    (place : ℕ) (x : A) → AreAnswered f done list
    → place ≡ length list → f (place, t) ≡ Ok x → AreAnswered f (done ++ t ∷ []) (list ++ x ∷ [])
answered_more f done t list place x so counted is = record {
  answers = with_next f done t [] list so ∙ ap (with_front list)
      (all_of-at_ok f (length list, t) x [] (at_place f t place (length list) (Ok x) counted is));
}

pub answered_err : {X A : Type 0} (f : ℕ × X → Result A BindFault) (done : List X) (t : X) (rest : List X)
    (list : List A) (place : ℕ) (e : BindFault)
    → AreAnswered f done list → place ≡ length list → f (place, t) ≡ Err e
    → all_of f (enumerate_from 0 (done ++ t ∷ rest)) ≡ Err e
answered_err f done t rest list place e so counted is =
    with_next f done t rest list so
    ∙ ap (with_front list) (all_of-at_err f (length list, t) e (enumerate_from (length list + 1) rest)
    (at_place f t place (length list) (Err e) counted is))

pub answered_all : {X A : Type 0} (f : ℕ × X → Result A BindFault) (done rest tuples : List X) (list : List A)
    → AreAnswered f done list
    → done ++ rest ≡ tuples → length rest ≡ 0 → all_of f (enumerate_from 0 tuples) ≡ Ok list
answered_all f done [] tuples list so all none =
    ap (λ ts. all_of f (enumerate_from 0 ts)) (sym all ∙ append-nil done) ∙ so.answers
answered_all f done (t ∷ rest) tuples list so all none = absurd (omega arith)
