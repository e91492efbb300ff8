-- A reader at most so many times keeps its laws.
use Rattle.std.proofs.Common.{◌≡◌, ℕ, zero, suc, ◌≤◌, Bool, true, false, not, cond, List, [], ◌∷◌, ◌++◌, length, refl, sym, ap, subst, ◌∙◌, arith, Option, Some, None, Ok, Err}
use Rattle.text_tokens.specs.Lexeme.{Lexeme}
use Rattle.text_grammar.specs.Grammar.{◌⋅◌, Maybe}
use Rattle.text_grammar.specs.Reading.{Outcome, Parser, and_then, changed, prepend, mapped, both, maybe, many_within}
use Rattle.text_grammar.specs.Laws.{Stopped, Reads, IsReader}
use Rattle.text_grammar.proofs.Outcomes
use Rattle.text_grammar.proofs.Readers.{always, stopped_always, FirstIs, Begins, Ended, Image, first_then, reads_as, reads_made, reads_two}
use Rattle.text_grammar.proofs.Choices.{maybe_ends, reads_maybe}
use Rattle.log_syntax.specs.Grammar.{UpTo}
use Rattle.log_syntax.specs.Reading.{gathered, put_all, pushed}
use Rattle.log_syntax.proofs.Gathering.{all_pushed}

-- what ends a list of items that every token ends: any token where it is full, and else each that begins no further item
abbrev pub ends_within : {A : Type 0} → ℕ → (Lexeme → Bool) → List A → Lexeme → Bool
ends_within zero test xs t = true
ends_within (suc k) test [] t = not (test t)
ends_within (suc k) test (x ∷ xs) t = ends_within k test xs t

-- a token that begins no item ends it
pub ended_at : {A : Type 0} (k : ℕ) (test : Lexeme → Bool) (xs : List A) (t : Lexeme) → test t ≡ false
    → ends_within k test xs t ≡ true
ended_at zero test xs t e = refl
ended_at (suc k) test [] t e = ap not e
ended_at (suc k) test (x ∷ xs) t e = ended_at k test xs t e

pub ended_within : {A : Type 0} (k : ℕ) (test stop : Lexeme → Bool) → ((t : Lexeme) → stop t ≡ true → test t ≡ false)
    → Ended {A = List A} (ends_within k test) stop
ended_within k test stop goes xs t e = ended_at k test xs t (goes t e)

-- lists of one length end alike
pub ends_alike : {A B : Type 0} (k : ℕ) (test : Lexeme → Bool) (xs : List A) (ys : List B) (t : Lexeme) → length xs ≡ length ys
    → ends_within k test xs t ≡ ends_within k test ys t
ends_alike zero test xs ys t e = refl
ends_alike (suc k) test [] [] t e = refl
ends_alike (suc k) test [] (y ∷ ys) t e = absurd (omega arith)
ends_alike (suc k) test (x ∷ xs) [] t e = absurd (omega arith)
ends_alike (suc k) test (x ∷ xs) (y ∷ ys) t e = ends_alike k test xs ys t (omega arith)

-- a list begins as its first item
pub up_to_begins : {A : Type 0} (k : ℕ) (P : A → List Lexeme → Type 0) (test : Lexeme → Bool) (b : Bool) → Begins test b P
    → (x : A) (xs : List A) (tokens : List Lexeme) → UpTo k P (x ∷ xs) tokens → FirstIs test b tokens
up_to_begins k P test b begins x xs tokens h = first_then test b (begins x) h.spelled

-- one item and the others, or none
abbrev pub list_of : {A : Type 0} → Option (A × List A) → List A
list_of None = []
list_of (Some x) = x.0 ∷ x.1

same_outcome : {A : Type 0} (o : Outcome A) (q : Parser (List A))
    → and_then o (λ x rest. prepend (x ∷ []) (q rest)) ≡ changed list_of
    (changed (λ (x : A × List A). Some x) (and_then o (λ a rest. changed (λ b. (a, b)) (q rest))))
same_outcome (Ok x) q =
    sym (ap (changed list_of) (Outcomes.changed_twice (λ b. (x.0, b)) (λ (y : _ × List _). Some y) (q x.1))
    ∙ Outcomes.changed_twice (λ b. Some (x.0, b)) list_of (q x.1))
same_outcome (Err s) q = refl

one_or_none : {A : Type 0} (b : Bool) (t : Lexeme) (ts : List Lexeme) (o : Outcome A) (q : Parser (List A))
    → cond b (and_then o (λ x rest. prepend (x ∷ []) (q rest))) (Ok ([], t ∷ ts))
    ≡ changed list_of (cond b (changed (λ (x : A × List A). Some x)
    (and_then o (λ a rest. changed (λ b. (a, b)) (q rest)))) (Ok (None, t ∷ ts)))
one_or_none true t ts o q = same_outcome o q
one_or_none false t ts o q = refl

pub same_reader : {A : Type 0} (k : ℕ) (test : Lexeme → Bool) (p : Parser A) (tokens : List Lexeme)
    → many_within (suc k) test p tokens ≡ mapped list_of (maybe test (both p (many_within k test p))) tokens
same_reader k test p [] = refl
same_reader k test p (t ∷ ts) = one_or_none (test t) t ts (p (t ∷ ts)) (many_within k test p)

pub no_more : {A : Type 0} (P : A → List Lexeme → Type 0) (test : Lexeme → Bool) (p : Parser A)
    → IsReader (UpTo 0 P) (ends_within 0 test) (many_within 0 test p)
no_more {A} P test p = record {
  some = record { more = []; tree = []; spelled = record { few = omega arith; spelled = refl } };
  sound = λ tokens tree rest e. sound tokens tree rest e;
  complete = complete;
  refused = λ tokens s e. absurd (let k : ◌≡◌ {A = Outcome (List A)} (Ok ([], tokens)) (Err s) = e in cc);
}
  where
    sound : (tokens : List Lexeme) (tree : List A) (rest : List Lexeme)
        → ◌≡◌ {A = Outcome (List A)} (Ok ([], tokens)) (Ok (tree, rest)) → Reads (UpTo 0 P) (ends_within 0 test) tokens tree rest
    sound tokens tree rest e =
        let trees : [] ≡ tree = Outcomes.same_tree [] tree tokens rest e in
        let made : Reads (UpTo 0 P) (ends_within 0 test) tokens [] rest = record {
          front = [];
          split = Outcomes.same_rest [] tree tokens rest e;
          spelled = record { few = omega arith; spelled = refl };
          stops = stopped_always rest;
        } in
        subst (λ (l : List A). Reads (UpTo 0 P) (ends_within 0 test) tokens l rest) trees made

    complete : (tree : List A) (front rest : List Lexeme) → UpTo 0 P tree front → Stopped (ends_within 0 test tree) rest
        → many_within 0 test p (front ++ rest) ≡ Ok (tree, rest)
    complete [] front rest h k = ap (λ (l : List Lexeme). Ok ([], l ++ rest)) h.spelled
    complete (x ∷ xs) front rest h k = absurd (let few : length (x ∷ xs) ≤ 0 = h.few in omega arith)

pub reads_up_to : {A : Type 0} {P : A → List Lexeme → Type 0} {p : Parser A} → IsReader P always p → (test : Lexeme → Bool)
    → Begins test true P
    → (k : ℕ) → IsReader (UpTo k P) (ends_within k test) (many_within k test p)
reads_up_to {A} {P} {p} r test begins zero = no_more P test p
reads_up_to {A} {P} {p} r test begins (suc k) =
    reads_as
    (reads_made (reads_maybe (reads_two r (reads_up_to r test begins k)) test
    (λ x tokens h. first_then test true (begins x.0) h)) list_of (ends_within (suc k) test) same into back)
    (same_reader k test p)
  where
    same : (o : Option (A × List A)) (t : Lexeme)
        → ends_within (suc k) test (list_of o) t ≡ maybe_ends (λ (x : A × List A). ends_within k test x.1) test o t
    same None t = refl
    same (Some x) t = refl

    into : (o : Option (A × List A)) (tokens : List Lexeme) → Maybe (λ (x : A × List A). P x.0 ⋅ UpTo k P x.1) o tokens
        → UpTo (suc k) P (list_of o) tokens
    into None tokens h = record { few = omega arith; spelled = h }
    into (Some x) tokens h = record {
      few = (let few : length x.1 ≤ k = h.second.few in omega arith);
      spelled = record { front = h.front; rest = h.rest; split = h.split; first = h.first; second = h.second.spelled };
    }

    back : (xs : List A) (tokens : List Lexeme) → UpTo (suc k) P xs tokens
        → Image list_of (Maybe (λ (x : A × List A). P x.0 ⋅ UpTo k P x.1)) xs tokens
    back [] tokens h = record { tree = None; is = refl; spelled = h.spelled }
    back (x ∷ xs) tokens h = record {
      tree = Some (x, xs);
      is = refl;
      spelled = record {
        front = h.spelled.front;
        rest = h.spelled.rest;
        split = h.spelled.split;
        first = h.spelled.first;
        second = record { few = (let few : length (x ∷ xs) ≤ suc k = h.few in omega arith); spelled = h.spelled.second };
      };
    }

-- the items at the end of an empty list are themselves
pub reads_gathered : {A : Type 0} {P : A → List Lexeme → Type 0} {p : Parser A} → IsReader P always p → (test : Lexeme → Bool)
    → Begins test true P
    → (k : ℕ) → IsReader (UpTo k P) (ends_within k test) (gathered pushed [] k test p)
reads_gathered {A} {P} {p} r test begins k = reads_as (reads_up_to r test begins k) (λ tokens. same (many_within k test p tokens))
  where
    same : (o : Outcome (List A)) → changed (put_all pushed []) o ≡ o
    same (Ok x) = ap (λ (l : List A). Ok (l, x.1)) (all_pushed [] x.0)
    same (Err s) = refl
