-- Literals that say a clause.
use Rattle.std.proofs.Common.{◌≡◌, ◌∙◌, ◌+◌, ◌⊎◌, ℕ, zero, suc, List, [], ◌∷◌, ◌++◌, Contains, All, Some, length, slice_get, get_or, take, refl, sym, ap, subst, arith, inl, inr, ⊎_elim}
use Rattle.std.proofs.lemmas.List.{take_more}
use Rattle.std.proofs.lemmas.List.Elements.{Contains-push_cases, Contains-push, Contains-append_left, Contains-get_or}
use Rattle.std.proofs.lemmas.Option.{slice_get_within, get_or_from_slice_get, same_Some, none-some}
use Rattle.currency_base.specs.Lists.{OnlyOnce}
use Rattle.currency_base.specs.Literals.{negation}
use Rattle.currency_base.specs.declared.lit.Lit.{Lit}
use Rattle.refutation_log.specs.declared.statement.Statement.{Statement}
use Rattle.refutation_log.specs.declared.step.Label.{Label}
use Rattle.refutation_log.specs.declared.step.Step.{Step}
use Rattle.refutation_log.specs.declared.step.Step.TheVariants as step
use Rattle.order_literals.specs.Said.{Said, Says}
use Rattle.order_literals.proofs.Sayings.{opposite, negation_says}
use Rattle.order_clauses.specs.Clauses.{SaysOneOf, IsSaidByOne, AreLits}
use Rattle.order_clauses.specs.Added.{Say, IsClauseOf, AreDistinctOf, IsAddedTo, IsStepOf, Adds}
use Rattle.order_clauses.specs.Subject.{Subject, variables}
use Rattle.order_clauses.proofs.Adding.{adds_one}

-- the negation of a literal says the same with the other sign
pub says_not : (statements : List Statement) (lit other : Lit) (s : Said) → other ≡ negation lit → Says statements lit s
    → Says statements other (opposite s)
says_not statements lit other s is says =
    subst (λ (l : Lit). Says statements l (opposite s)) (sym is) (negation_says statements lit s says)

-- ---- each literal says a member of the clause, and each member is said

pub first_of : {A : Type 0} (x : A) (xs : List A) → Contains (x ∷ xs) x
first_of x xs = (0, omega arith, refl)

pub later_in : {A : Type 0} (y : A) (xs : List A) (x : A) → Contains xs x → Contains (y ∷ xs) x
later_in y xs x h = (suc h.0, omega (arith, h.1), h.2)

pub in_cons : {A : Type 0} (y : A) (xs : List A) (x : A) → Contains (y ∷ xs) x → (y ≡ x) ⊎ Contains xs x
in_cons y xs x (zero, within, e) = inl e
in_cons y xs x (suc k, within, e) = inr (k, omega arith, e)

each_said : (statements : List Statement) (lits : List Lit) (clause : List Said) → Say statements lits clause
    → (lit : Lit) → Contains lits lit → SaysOneOf statements clause lit
each_said statements [] [] say lit h = absurd (omega (arith, h.1))
each_said statements [] (said ∷ clause) say lit h = absurd say
each_said statements (x ∷ lits) [] say lit h = absurd say
each_said statements (x ∷ lits) (said ∷ clause) say lit h = ⊎_elim
    (λ (is : x ≡ lit). let r : SaysOneOf statements (said ∷ clause) lit =
    record { said = said; is_in = first_of said clause; says = subst (λ (l : Lit). Says statements l said) is say.0 } in r)
    (λ (more : Contains lits lit). let rest = each_said statements lits clause say.1 lit more in
    let r : SaysOneOf statements (said ∷ clause) lit = record {
      said = rest.said;
      is_in = later_in said clause
          rest.said rest.is_in;
      says = rest.says;
    } in r)
    (in_cons x lits lit h)

all_said : (statements : List Statement) (lits : List Lit) (clause : List Said) → Say statements lits clause
    → (said : Said) → Contains clause said → IsSaidByOne statements lits said
all_said statements [] [] say said h = absurd (omega (arith, h.1))
all_said statements [] (x ∷ clause) say said h = absurd say
all_said statements (lit ∷ lits) [] say said h = absurd say
all_said statements (lit ∷ lits) (x ∷ clause) say said h = ⊎_elim
    (λ (is : x ≡ said). let r : IsSaidByOne statements (lit ∷ lits) said =
    record { lit = lit; is_in = first_of lit lits; says = subst (λ (s : Said). Says statements lit s) is say.0 } in r)
    (λ (more : Contains clause said). let rest = all_said statements lits clause say.1 said more in
    let r : IsSaidByOne statements (lit ∷ lits) said = record {
      lit = rest.lit;
      is_in = later_in lit lits rest.lit
          rest.is_in;
      says = rest.says;
    } in r)
    (in_cons x clause said h)

pub all_of : {A : Type 0} (P : A → Type 0) (xs : List A) → ((x : A) → Contains xs x → P x) → All P xs
all_of P xs h k d within = h (get_or xs k d) (Contains-get_or xs k d within)

-- literals that are those that say a clause, each once
pub are_lits : (statements : List Statement) (lits distinct : List Lit) (clause : List Said) → Say statements lits
    clause → AreDistinctOf lits distinct → AreLits statements clause distinct
are_lits statements lits distinct clause say of = record {
  each = all_of (SaysOneOf statements clause) distinct (λ lit h. each_said statements lits clause say lit (of.each lit h));
  all = all_of (IsSaidByOne statements distinct) clause (λ said h.
      let by = all_said statements lits clause say said h in
      let r : IsSaidByOne statements distinct said = record {
        lit = by.lit;
        is_in = of.all by.lit by.is_in;
        says =
            by.says;
      } in r);
  once = of.once;
}

-- what stands once is the same, each once
pub distinct_of_once : (lits : List Lit) → OnlyOnce lits → AreDistinctOf lits lits
distinct_of_once lits once = record { each = λ lit h. h; all = λ lit h. h; once = once }

pub adds_clause : (s : Subject) (l : Label) (lits distinct : List Lit) (old new : List Step) → IsClauseOf s l lits
    → AreDistinctOf lits distinct
    → new ≡ old ++ step.Axiom l distinct ∷ [] → Adds s (l ∷ []) old new
adds_clause s l lits distinct old new is of e =
    let one : IsStepOf s l (step.Axiom l distinct) = record {
      lits = distinct;
      step = record {
        is_step = refl;
        clause = is.clause;
        is_axiom = is.is_axiom;
        are_lits = are_lits (variables s) lits
            distinct is.clause is.say of;
      };
    } in
    adds_one s l (step.Axiom l distinct) old new one e

-- ---- one more literal, unless it is there

get_before : (xs : List Lit) (y : Lit) (i : ℕ) (x : Lit) → slice_get (xs ++ y ∷ []) i ≡ Some x →
    ((i ≡ length xs) × (y ≡ x)) ⊎ (slice_get xs i ≡ Some x)
get_before [] y zero x at = inl (refl, same_Some y x at)
get_before [] y (suc i) x at = absurd (none-some x at)
get_before (z ∷ xs) y zero x at = inr at
get_before (z ∷ xs) y (suc i) x at = ⊎_elim
    (λ (h : (i ≡ length xs) × (y ≡ x)). inl (ap suc h.0, h.1))
    (λ (h : slice_get xs i ≡ Some x). inr h)
    (get_before xs y i x at)

pub contains_at : {A : Type 0} (xs : List A) (i : ℕ) (x : A) → slice_get xs i ≡ Some x → Contains xs x
contains_at xs i x at = (i, slice_get_within xs i x at, get_or_from_slice_get xs i x x at)

once_push : (xs : List Lit) (y : Lit) → OnlyOnce xs → (Contains xs y → ⊥) → OnlyOnce (xs ++ y ∷ [])
once_push xs y once new i j x a b = ⊎_elim
    (λ (p : (i ≡ length xs) × (y ≡ x)). ⊎_elim
    (λ (q : (j ≡ length xs) × (y ≡ x)). p.0 ∙ sym q.0)
    (λ (q : slice_get xs j ≡ Some x). absurd (new (contains_at xs j y (q ∙ ap Some (sym p.1)))))
    (get_before xs y j x b))
    (λ (p : slice_get xs i ≡ Some x). ⊎_elim
    (λ (q : (j ≡ length xs) × (y ≡ x)). absurd (new (contains_at xs i y (p ∙ ap Some (sym q.1)))))
    (λ (q : slice_get xs j ≡ Some x). once i j x p q)
    (get_before xs y j x b))
    (get_before xs y i x a)

pub distinct_push : (lits old new : List Lit) (lit : Lit) → AreDistinctOf lits old → IsAddedTo old lit new
    → AreDistinctOf (lits ++ lit ∷ []) new
distinct_push lits old new lit of is = ⊎_elim
    (λ (there : Contains old lit). subst (AreDistinctOf (lits ++ lit ∷ [])) (sym (is.there there))
    (let r : AreDistinctOf (lits ++ lit ∷ []) old = record {
      each = λ x h. Contains-append_left lits (lit ∷ []) x (of.each x h);
      all = λ x h. ⊎_elim (λ (p : Contains lits x). of.all x p) (λ (p : lit ≡ x). subst (Contains old) p there)
          (Contains-push_cases lits lit x h);
      once = of.once;
    } in r))
    (λ (absent : Contains old lit → ⊥). subst (AreDistinctOf (lits ++ lit ∷ [])) (sym (is.added absent))
    (let r : AreDistinctOf (lits ++ lit ∷ []) (old ++ lit ∷ []) = record {
      each = λ x h. ⊎_elim
          (λ (p : Contains old x). Contains-append_left lits (lit ∷ []) x (of.each x p))
          (λ (p : lit ≡ x). subst (Contains (lits ++ lit ∷ [])) p (Contains-push lits lit))
          (Contains-push_cases old lit x h);
      all = λ x h. ⊎_elim
          (λ (p : Contains lits x). Contains-append_left old (lit ∷ []) x (of.all x p))
          (λ (p : lit ≡ x). subst (Contains (old ++ lit ∷ [])) p (Contains-push old lit))
          (Contains-push_cases lits lit x h);
      once = once_push old lit of.once absent;
    } in r))
    is.either

pub distinct_more : (lits old new : List Lit) (i : ℕ) (lit : Lit) → slice_get lits i ≡ Some lit → AreDistinctOf
    (take i lits) old → IsAddedTo old lit new → AreDistinctOf (take (i + 1) lits) new
distinct_more lits old new i lit at of is =
    rw (take_more lits i lit (slice_get_within lits i lit at), get_or_from_slice_get lits i lit lit at)
    (distinct_push (take i lits) old new lit of is)

-- ---- literals after literals

pub say_both : (statements : List Statement) (ls ms : List Lit) (ps qs : List Said) → Say statements ls ps
    → Say statements ms qs → Say statements (ls ++ ms) (ps ++ qs)
say_both statements [] ms [] qs a b = b
say_both statements [] ms (x ∷ ps) qs a b = absurd a
say_both statements (l ∷ ls) ms [] qs a b = absurd a
say_both statements (l ∷ ls) ms (x ∷ ps) qs a b = (a.0, say_both statements ls ms ps qs a.1 b)
