-- A log or none is read, and what follows it.
use Rattle.std.proofs.Common.{◌≡◌, Bool, true, false, not, ◌||◌, List, [], ◌∷◌, ◌++◌, inl, inr, refl, sym, ap, subst, ◌∙◌, ℕ, Option, Some, None, Result, Ok, Err, codes}
use Rattle.std.specs.Str.{bytes_eq}
use Rattle.text_tokens.specs.Lexeme.{Lexeme}
use Rattle.text_tokens.specs.declared.token.TokenKind.TheVariants.{Word}
use Rattle.text_grammar.specs.Words.{is_word}
use Rattle.text_grammar.specs.Grammar.{◌⋅◌, Maybe, RefusedAt, Then}
use Rattle.text_grammar.specs.Reading.{Outcome, Parser, Stop, and_then, at_end, both, changed, ended, mapped, maybe, refuse, whole}
use Rattle.text_grammar.specs.Laws.{IsReader, IsWhole}
use Rattle.text_grammar.proofs.Outcomes
use Rattle.text_grammar.proofs.Readers.{Begins, Ended, FirstIs, Image, first_then, reads_as, reads_made, reads_then}
use Rattle.text_grammar.proofs.Choices.{maybe_ends, reads_maybe}
use Rattle.text_grammar.proofs.FixedTokens.{apart}
use Rattle.text_grammar.proofs.Whole.{reads_whole}
use Rattle.log_syntax.specs.declared.trees.ReadLog.{ReadLog}
use Rattle.log_syntax.specs.Grammar.{SpellsLog, SpellsLogPart}
use Rattle.log_syntax.specs.Reading.{log_at, log_or_none, log_part_at}
use Rattle.log_syntax.proofs.Logs.{begins_log, ended_log, ends_log, reads_log}

-- ---- readers whose trees are changed

-- The tokens after a tree may end it or not by what it was before the change, which the changed tree does not tell: so
-- there is no law of the changed reader alone.

-- ... of the whole text
record WasWhole {A B : Type 0} (f : A → B) (o : Outcome A) (b : B) : Type 0 where
  tree : A
  was : ended o ≡ Ok tree
  is : f tree ≡ b

same_ok : {A : Type 0} (a b : A) → ◌≡◌ {A = Result A Stop} (Ok a) (Ok b) → a ≡ b
same_ok a b e = cc

whole_ok : {A B : Type 0} (f : A → B) (o : Outcome A) (b : B) → ended (changed f o) ≡ Ok b → WasWhole f o b
whole_ok {A} {B} f (Ok x) b e = by x.0 x.1 e
  where
    by : (a : A) (rest : List Lexeme) → at_end (f a) rest ≡ Ok b → WasWhole f (Ok (a, rest)) b
    by a [] e = record { tree = a; was = refl; is = same_ok (f a) b e }
    by a (t ∷ ts) e = absurd (cc)
whole_ok f (Err s) b e = absurd (cc)

whole_err : {A B : Type 0} (f : A → B) (o : Outcome A) (s : Stop) → ended (changed f o) ≡ Err s → ended o ≡ Err s
whole_err {A} {B} f (Ok x) s e = by x.0 x.1 e
  where
    by : (a : A) (rest : List Lexeme) → at_end (f a) rest ≡ Err s → at_end a rest ≡ Err s
    by a [] e = absurd (cc)
    by a (t ∷ ts) e = ap (λ (q : Stop). Err q) (Outcomes.same_stop {A = B} (refuse (t ∷ ts)) s e)
whole_err {A} {B} f (Err r) s e = ap (λ (q : Stop). Err q) (Outcomes.same_stop {A = B} r s e)

whole_is : {A B : Type 0} (f : A → B) (o : Outcome A) (a : A) → ended o ≡ Ok a → ended (changed f o) ≡ Ok (f a)
whole_is {A} {B} f (Ok x) a e = by x.0 x.1 e
  where
    by : (c : A) (rest : List Lexeme) → at_end c rest ≡ Ok a → at_end (f c) rest ≡ Ok (f a)
    by c [] e = ap (λ (d : A). Ok (f d)) (same_ok c a e)
    by c (t ∷ ts) e = absurd (cc)
whole_is f (Err s) a e = absurd (cc)

pub whole_changed : {A B : Type 0} {P : A → List Lexeme → Type 0} {Q : B → List Lexeme → Type 0}
    {stop : A → Lexeme → Bool} {p : Parser A}
    → IsReader P stop p → (f : A → B) → ((a : A) (tokens : List Lexeme) → P a tokens → Q (f a) tokens)
    → ((b : B) (tokens : List Lexeme) → Q b tokens → Image f P b tokens) → IsWhole Q (whole (mapped f p))
whole_changed {A} {B} {P} {Q} {p = p} r f into back = record { right = right; all = all; refused = refused }
  where
    w : IsWhole P (whole p)
    w = reads_whole r

    right : (tokens : List Lexeme) (tree : B) → whole (mapped f p) tokens ≡ Ok tree → Q tree tokens
    right tokens tree e =
        let h = whole_ok f (p tokens) tree e in
        subst (λ (b : B). Q b tokens) h.is (into h.tree tokens (w.right tokens h.tree h.was))

    all : (tokens : List Lexeme) (tree : B) → Q tree tokens → whole (mapped f p) tokens ≡ Ok tree
    all tokens tree h =
        let i = back tree tokens h in
        whole_is f (p tokens) i.tree (w.all tokens i.tree i.spelled) ∙ ap (λ (b : B). Ok b) i.is

    refused : (tokens : List Lexeme) (s : Stop) → whole (mapped f p) tokens ≡ Err s → RefusedAt Q tokens s.left
    refused tokens s e =
        let h : RefusedAt P tokens s.left = w.refused tokens s (whole_err f (p tokens) s e) in
        record {
          front = h.front;
          split = h.split;
          before = record {
            more = h.before.more;
            tree = f h.before.tree;
            spelled = into h.before.tree
                (h.front ++ h.before.more) h.before.spelled;
          };
          here = λ t rest g k. (
              let i = back k.tree ((h.front ++ t ∷ []) ++ k.more) k.spelled in
              h.here t rest g (record { more = k.more; tree = i.tree; spelled = i.spelled }));
          none = λ tree k. (let i = back tree tokens k in h.none i.tree i.spelled);
        }

-- ... and then another, where it ends
pub reads_changed_then : {A B C : Type 0} {P : A → List Lexeme → Type 0} {R : B → List Lexeme → Type 0}
    {stop : A → Lexeme → Bool} {p : Parser A}
    {Q : C → List Lexeme → Type 0} {stop' : C → Lexeme → Bool} {q : Parser C} → IsReader P stop p → (f : A → B)
    → ((a : A) (tokens : List Lexeme) → P a tokens → R (f a) tokens) → ((b : B) (tokens : List Lexeme) → R b tokens
    → Image f P b tokens)
    → IsReader Q stop' q → (test : Lexeme → Bool) → Begins test true Q → Ended stop test
    → IsReader (λ (x : B × C). R x.0 ⋅ Q x.1) (λ x. stop' x.1) (both (mapped f p) q)
reads_changed_then {A} {B} {C} {P} {R} {stop} {p} {Q} {stop'} {q} r f into back w test begins goes =
    reads_as (reads_made (reads_then r w test begins goes) make (λ x. stop' x.1) (λ x t. refl) there here)
    (λ tokens. same tokens (p tokens))
  where
    make : A × C → B × C
    make x = (f x.0, x.1)

    there : (x : A × C) (tokens : List Lexeme) → (P x.0 ⋅ Q x.1) tokens → (R (f x.0) ⋅ Q x.1) tokens
    there x tokens h = record {
      front = h.front;
      rest = h.rest;
      split = h.split;
      first = into x.0 h.front h.first;
      second = h.second;
    }

    here : (x : B × C) (tokens : List Lexeme) → (R x.0 ⋅ Q x.1) tokens → Image make (λ (x : A × C). P x.0 ⋅ Q x.1) x tokens
    here x tokens h =
        let i = back x.0 h.front h.first in
        record {
          tree = (i.tree, x.1);
          is = ap (λ (b : B). (b, x.1)) i.is;
          spelled = record { front = h.front; rest = h.rest; split = h.split; first = i.spelled; second = h.second };
        }

    same : (tokens : List Lexeme) (o : Outcome A)
        → and_then (changed f o) (λ b rest. changed (λ c. (b, c)) (q rest)) ≡ changed make
        (and_then o (λ a rest. changed (λ c. (a, c)) (q rest)))
    same tokens (Ok x) = sym (Outcomes.changed_twice (λ (c : C). (x.0, c)) make (q x.1))
    same tokens (Err s) = refl

-- ---- a log or none

-- what ends a log or none: no token with which one begins where there is none, and else what ends the log
abbrev pub ends_log_or_none : Option ReadLog → Lexeme → Bool
ends_log_or_none = maybe_ends ends_log (is_word (codes "log"))

pub reads_log_or_none : IsReader (Maybe SpellsLog) ends_log_or_none (maybe (is_word (codes "log")) log_at)
reads_log_or_none = reads_maybe reads_log (is_word (codes "log")) (begins_log (is_word (codes "log")) true (λ t e. e))

into_part : (o : Option ReadLog) (tokens : List Lexeme) → Maybe SpellsLog o tokens → SpellsLogPart (log_or_none o) tokens
into_part None tokens h = inl (refl, h)
into_part (Some r) tokens h = inr h

of_part : (r : ReadLog) (tokens : List Lexeme) → SpellsLogPart r tokens → Image log_or_none (Maybe SpellsLog) r tokens
of_part r tokens (inl h) = record { tree = None; is = sym h.0; spelled = h.1 }
of_part r tokens (inr h) = record { tree = Some r; is = refl; spelled = h }

-- all tokens
pub whole_log_part : IsWhole SpellsLogPart (whole log_part_at)
unfolding log_part_at
whole_log_part = whole_changed reads_log_or_none log_or_none into_part of_part

-- what begins with tokens that end a log or none, after one
pub reads_log_part_then : {C : Type 0} {Q : C → List Lexeme → Type 0} {stop' : C → Lexeme → Bool} {q : Parser C}
    → IsReader Q stop' q
    → (test : Lexeme → Bool) → Begins test true Q → Ended ends_log_or_none test
    → IsReader (λ (x : ReadLog × C). SpellsLogPart x.0 ⋅ Q x.1) (λ x. stop' x.1) (both log_part_at q)
unfolding log_part_at
reads_log_part_then w test begins goes = reads_changed_then reads_log_or_none log_or_none into_part of_part w test begins goes

-- it begins with the word `log`, or as what follows it
pub begins_log_part : {C : Type 0} (Q : C → List Lexeme → Type 0) (test : Lexeme → Bool) (b : Bool)
    → ((t : Lexeme) → is_word (codes "log") t ≡ true → test t ≡ b) → Begins test b Q
    → Begins test b (λ (x : ReadLog × C). SpellsLogPart x.0 ⋅ Q x.1)
begins_log_part Q test b goes begins x tokens h = elim h.first [
  | inl k ↦ begins x.1 tokens (subst (Q x.1) (sym (h.split ∙ ap (λ (l : List Lexeme). l ++ h.rest) k.1)) h.second)
  | inr k ↦ first_then test b (λ front m. m) (with_log k)
]
  where
    with_log : SpellsLog x.0 h.front → Then (FirstIs test b) (Q x.1) tokens
    with_log k = record {
      front = h.front;
      rest = h.rest;
      split = h.split;
      first = begins_log test b goes x.0 h.front
          k;
      second = h.second;
    }

-- ---- what ends a log or none

-- a word differs from each of these: `refl` proves it of each
abbrev pub IsNoneOf : List ℕ → List (List ℕ) → Type 0
IsNoneOf word [] = Unit {0}
IsNoneOf word (other ∷ words) = (bytes_eq word other ≡ false) × IsNoneOf word words

-- the words with which a log, a statement and a step begin
abbrev pub log_words : List (List ℕ)
log_words = codes "log" ∷ codes "statement" ∷ codes "axiom" ∷ codes "demand" ∷ codes "learn" ∷ codes "derive" ∷ []

-- another word ends a log or none
pub word_ends_log : (word : List ℕ) → IsNoneOf word log_words → Ended ends_log_or_none (is_word word)
word_ends_log word (log, (says, (given, (brought, (learned, (derived, u)))))) o t e = by o
  where
    is_no : (other : List ℕ) → bytes_eq word other ≡ false → is_word other t ≡ false
    is_no other f = apart Word word Word other f t e

    none : (a b c d : Bool) → a ≡ false → b ≡ false → c ≡ false → d ≡ false → a || b || c || d ≡ false
    none false false false false e f g h = refl
    none _ _ _ _ e f g h = absurd (cc)

    by : (o : Option ReadLog) → ends_log_or_none o t ≡ true
    by None = ap not (is_no (codes "log") log)
    by (Some r) = ended_log r t (is_no (codes "statement") says)
        (none (is_word (codes "axiom") t) (is_word (codes "demand") t) (is_word (codes "learn") t) (is_word (codes "derive") t)
        (is_no (codes "axiom") given) (is_no (codes "demand") brought) (is_no (codes "learn") learned)
        (is_no (codes "derive") derived))

-- as the words `end` and `completion` do
pub end_ends_log : Ended ends_log_or_none (is_word (codes "end"))
end_ends_log = word_ends_log (codes "end") (refl, (refl, (refl, (refl, (refl, (refl, tt))))))

pub completion_ends_log : Ended ends_log_or_none (is_word (codes "completion"))
completion_ends_log = word_ends_log (codes "completion") (refl, (refl, (refl, (refl, (refl, (refl, tt))))))

-- as does either of two tokens that do
pub either_ends_log : (test other : Lexeme → Bool) → Ended ends_log_or_none test → Ended ends_log_or_none other
    → Ended ends_log_or_none (λ t. test t || other t)
either_ends_log test other goes goes' o t e = by (test t) refl
  where
    by : (b : Bool) → test t ≡ b → ends_log_or_none o t ≡ true
    by true f = goes o t f
    by false f = goes' o t (sym (ap (λ (b : Bool). b || other t) f) ∙ e)
