-- What an outcome says of the outcomes that it is made of.
use Rattle.std.proofs.Common.{◌≡◌, List, ◌⊎◌, inl, inr, refl, ap, Result, Ok, Err}
use Rattle.text_tokens.specs.Lexeme.{Lexeme}
use Rattle.text_grammar.specs.Reading.{Stop, Outcome, and_then, changed}

-- what an outcome holds, else these
abbrev tree_or : {A : Type 0} → A → Outcome A → A
tree_or a (Ok x) = x.0
tree_or a (Err s) = a

abbrev rest_or : {A : Type 0} → List Lexeme → Outcome A → List Lexeme
rest_or ts (Ok x) = x.1
rest_or ts (Err s) = ts

pub same_tree : {A : Type 0} (a b : A) (xs ys : List Lexeme) → ◌≡◌ {A = Outcome A} (Ok (a, xs)) (Ok (b, ys)) → a ≡ b
same_tree a b xs ys e = ap (tree_or a) e

pub same_rest : {A : Type 0} (a b : A) (xs ys : List Lexeme) → ◌≡◌ {A = Outcome A} (Ok (a, xs)) (Ok (b, ys)) → xs ≡ ys
same_rest a b xs ys e = ap (rest_or xs) e

pub not_both : {A : Type 0} (o : Outcome A) (x : A × List Lexeme) (s : Stop) → o ≡ Ok x → o ≡ Err s → ⊥
not_both o x s e f = cc

abbrev stop_or : {A : Type 0} → Stop → Result A Stop → Stop
stop_or d (Ok x) = d
stop_or d (Err s) = s

pub same_stop : {A : Type 0} (r s : Stop) → ◌≡◌ {A = Result A Stop} (Err r) (Err s) → r ≡ s
same_stop r s e = ap (stop_or r) e

-- the parts of an outcome that was changed
pub record WasOk {A B : Type 0} (f : A → B) (o : Outcome A) (b : B) (rest : List Lexeme) : Type 0 where
  pub tree : A
  pub was : o ≡ Ok (tree, rest)
  pub is : f tree ≡ b

pub changed_ok : {A B : Type 0} (f : A → B) (o : Outcome A) (b : B) (rest : List Lexeme) → changed f o ≡ Ok (b, rest)
    → WasOk f o b rest
changed_ok f (Ok x) b rest e =
    record {
      tree = x.0;
      was = ap (λ (r : List Lexeme). Ok (x.0, r)) (same_rest (f x.0) b x.1 rest e);
      is = same_tree
          (f x.0) b x.1 rest e;
    }
changed_ok f (Err s) b rest e = absurd (cc)

pub changed_err : {A B : Type 0} (f : A → B) (o : Outcome A) (s : Stop) → changed f o ≡ Err s → o ≡ Err s
changed_err f (Ok x) s e = absurd (cc)
changed_err {A} f (Err r) s e = ap (λ (q : Stop). Err q) (same_stop r s e)

-- the parts of an outcome that went on
pub record WentOn {A B : Type 0} (o : Outcome A) (f : A → List Lexeme → Outcome B) (end : Outcome B) : Type 0 where
  pub tree : A
  pub mid : List Lexeme
  pub was : o ≡ Ok (tree, mid)
  pub next : f tree mid ≡ end

pub then_ok : {A B : Type 0} (o : Outcome A) (f : A → List Lexeme → Outcome B) (x : B × List Lexeme)
    → and_then o f ≡ Ok x → WentOn o f (Ok x)
then_ok (Ok y) f x e = record { tree = y.0; mid = y.1; was = refl; next = e }
then_ok (Err s) f x e = absurd (cc)

pub then_err : {A B : Type 0} (o : Outcome A) (f : A → List Lexeme → Outcome B) (s : Stop) → and_then o f ≡ Err s →
    (o ≡ Err s) ⊎ WentOn o f (Err s)
then_err (Ok y) f s e = inr (record { tree = y.0; mid = y.1; was = refl; next = e })
then_err (Err r) f s e = inl (ap (λ (q : Stop). Err q) (same_stop r s e))

-- outcomes step by step
pub then_is : {A B : Type 0} (o : Outcome A) (f : A → List Lexeme → Outcome B) (a : A) (mid : List Lexeme)
    → o ≡ Ok (a, mid) → and_then o f ≡ f a mid
then_is o f a mid e = ap (λ (x : Outcome _). and_then x f) e

pub changed_is : {A B : Type 0} (f : A → B) (o : Outcome A) (a : A) (rest : List Lexeme) → o ≡ Ok (a, rest)
    → changed f o ≡ Ok (f a, rest)
changed_is f o a rest e = ap (changed f) e

pub changed_twice : {A B C : Type 0} (f : A → B) (g : B → C) (o : Outcome A) → changed g (changed f o) ≡ changed (λ a. g (f a)) o
changed_twice f g (Ok x) = refl
changed_twice f g (Err s) = refl

pub changed_same : {A : Type 0} (o : Outcome A) → changed (λ a. a) o ≡ o
changed_same (Ok x) = refl
changed_same (Err s) = refl

pub changed_then : {A B C : Type 0} (g : B → C) (o : Outcome A) (f : A → List Lexeme → Outcome B)
    → changed g (and_then o f) ≡ and_then o (λ a rest. changed g (f a rest))
changed_then g (Ok x) f = refl
changed_then g (Err s) f = refl
