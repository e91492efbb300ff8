-- A reader at most so many times keeps its laws where not every token ends an item.
use Rattle.std.proofs.Common.{◌≡◌, ℕ, zero, suc, ◌≤◌, Bool, true, false, not, ◌&&◌, List, [], ◌∷◌, ◌++◌, length, refl, sym, ap, subst, arith, Option, Some, None, Ok, Err}
use Rattle.text_tokens.specs.Lexeme.{Lexeme}
use Rattle.text_grammar.specs.Grammar.{◌⋅◌, Maybe}
use Rattle.text_grammar.specs.Reading.{Outcome, Parser, changed, many_within}
use Rattle.text_grammar.specs.Laws.{IsReader, Stopped}
use Rattle.text_grammar.proofs.Readers.{Begins, Ended, Image, Joins, first_then, reads_as, reads_both, reads_made, stopped_at_first}
use Rattle.text_grammar.proofs.Choices.{maybe_ends, reads_maybe}
use Rattle.text_grammar.proofs.ListReaders.{reads_until}
use Rattle.log_syntax.specs.Grammar.{UpTo}
use Rattle.log_syntax.specs.Reading.{gathered, put_all, pushed}
use Rattle.log_syntax.proofs.Gathering.{all_pushed}
use Rattle.log_syntax.proofs.UpToReaders.{list_of, no_more, same_reader, up_to_begins}
use Rattle.log_syntax.proofs.Logs.{and_both, stopped_both, stopped_first, stopped_second}

-- what ends a list of items: what ends the last one, and begins no further one unless the list is full
abbrev pub ends_up_to : {A : Type 0} → ℕ → (A → Lexeme → Bool) → (Lexeme → Bool) → List A → Lexeme → Bool
ends_up_to zero stop test xs t = true
ends_up_to (suc k) stop test [] t = not (test t)
ends_up_to (suc k) stop test (x ∷ []) t = stop x t && ends_up_to k stop test [] t
ends_up_to (suc k) stop test (x ∷ y ∷ ys) t = ends_up_to k stop test (y ∷ ys) t

-- a token that ends each item and begins none ends the list
pub ended_up_to : {A : Type 0} (k : ℕ) (stop : A → Lexeme → Bool) (test : Lexeme → Bool) (xs : List A) (t : Lexeme)
    → ((x : A) → stop x t ≡ true) → test t ≡ false → ends_up_to k stop test xs t ≡ true
ended_up_to zero stop test xs t each e = refl
ended_up_to (suc k) stop test [] t each e = ap not e
ended_up_to (suc k) stop test (x ∷ []) t each e = and_both (stop x t) (ends_up_to k stop test [] t) (each x)
    (ended_up_to k stop test [] t each e)
ended_up_to (suc k) stop test (x ∷ y ∷ ys) t each e = ended_up_to k stop test (y ∷ ys) t each e

joins_up_to : {A : Type 0} (k : ℕ) (P : A → List Lexeme → Type 0) (stop : A → Lexeme → Bool) (test : Lexeme → Bool)
    → Begins test true P → Ended stop test
    → Joins stop (UpTo k P) (ends_up_to k stop test) (λ (x : A × List A). ends_up_to (suc k) stop test (x.0 ∷ x.1))
joins_up_to {A} k P stop test begins goes = record { first = first; second = second; all = all }
  where
    first : (a : A) (xs : List A) (front rest : List Lexeme) → UpTo k P xs front
        → Stopped (ends_up_to (suc k) stop test (a ∷ xs)) rest
        → Stopped (stop a) (front ++ rest)
    first a [] front rest h m =
        subst (λ (l : List Lexeme). Stopped (stop a) (l ++ rest)) (sym h.spelled)
        (stopped_first (stop a) (ends_up_to k stop test []) rest m)
    first a (y ∷ ys) front rest h m = stopped_at_first (stop a) test (goes a) front rest
        (up_to_begins k P test true begins y ys front h)

    second : (a : A) (xs : List A) (rest : List Lexeme) → Stopped (ends_up_to (suc k) stop test (a ∷ xs)) rest
        → Stopped (ends_up_to k stop test xs) rest
    second a [] rest m = stopped_second (stop a) (ends_up_to k stop test []) rest m
    second a (y ∷ ys) rest m = m

    all : (a : A) (xs : List A) (front rest : List Lexeme) → UpTo k P xs front → Stopped (stop a) (front ++ rest)
        → Stopped (ends_up_to k stop test xs) rest → Stopped (ends_up_to (suc k) stop test (a ∷ xs)) rest
    all a [] front rest h m n =
        stopped_both (stop a) (ends_up_to k stop test []) rest
        (subst (λ (l : List Lexeme). Stopped (stop a) (l ++ rest)) h.spelled m) n
    all a (y ∷ ys) front rest h m n = n

pub reads_ending_up_to : {A : Type 0} {P : A → List Lexeme → Type 0} {stop : A → Lexeme → Bool} {p : Parser A} → IsReader P stop p
    → (test : Lexeme → Bool) → Begins test true P → Ended stop test
    → (k : ℕ) → IsReader (UpTo k P) (ends_up_to k stop test) (many_within k test p)
reads_ending_up_to {P = P} {p = p} r test begins goes zero = reads_until (no_more P test p) (λ xs tokens t h. refl)
reads_ending_up_to {A} {P} {stop} {p} r test begins goes (suc k) =
    reads_as
    (reads_made (reads_maybe (reads_both r (reads_ending_up_to r test begins goes k)
    (joins_up_to k P stop test begins goes)) test (λ x tokens h. first_then test true (begins x.0) h)) list_of
    (ends_up_to (suc k) stop test) same into back)
    (same_reader k test p)
  where
    same : (o : Option (A × List A)) (t : Lexeme)
        → ends_up_to (suc k) stop test (list_of o) t ≡ maybe_ends (λ (x : A × List A). ends_up_to (suc k) stop test
        (x.0 ∷ x.1)) test o t
    same None t = refl
    same (Some x) t = refl

    into : (o : Option (A × List A)) (tokens : List Lexeme) → Maybe (λ (x : A × List A). P x.0 ⋅ UpTo k P x.1) o tokens
        → UpTo (suc k) P (list_of o) tokens
    into None tokens h = record { few = omega arith; spelled = h }
    into (Some x) tokens h = record {
      few = (let few : length x.1 ≤ k = h.second.few in omega arith);
      spelled = record { front = h.front; rest = h.rest; split = h.split; first = h.first; second = h.second.spelled };
    }

    back : (xs : List A) (tokens : List Lexeme) → UpTo (suc k) P xs tokens
        → Image list_of (Maybe (λ (x : A × List A). P x.0 ⋅ UpTo k P x.1)) xs tokens
    back [] tokens h = record { tree = None; is = refl; spelled = h.spelled }
    back (x ∷ xs) tokens h = record {
      tree = Some (x, xs);
      is = refl;
      spelled = record {
        front = h.spelled.front;
        rest = h.spelled.rest;
        split = h.spelled.split;
        first = h.spelled.first;
        second = record { few = (let few : length (x ∷ xs) ≤ suc k = h.few in omega arith); spelled = h.spelled.second };
      };
    }

-- the items at the end of an empty list are themselves
pub reads_ending : {A : Type 0} {P : A → List Lexeme → Type 0} {stop : A → Lexeme → Bool} {p : Parser A} → IsReader P stop p
    → (test : Lexeme → Bool) → Begins test true P → Ended stop test
    → (k : ℕ) → IsReader (UpTo k P) (ends_up_to k stop test) (gathered pushed [] k test p)
reads_ending {A} {p = p} r test begins goes k = reads_as (reads_ending_up_to r test begins goes k)
    (λ tokens. same (many_within k test p tokens))
  where
    same : (o : Outcome (List A)) → changed (put_all pushed []) o ≡ o
    same (Ok x) = ap (λ (l : List A). Ok (l, x.1)) (all_pushed [] x.0)
    same (Err s) = refl
