-- Literals that say a clause, each once, where each member of it has a literal.
use Rattle.std.proofs.Common.{◌≡◌, ◌⊎◌, ◌++◌, List, [], ◌∷◌, Contains, refl, ap, subst, inl, inr, ⊎_elim}
use Rattle.std.proofs.lemmas.Bool.{cases_eq}
use Rattle.std.proofs.lemmas.List.Elements.{Contains-append_left, Contains-push, Contains-push_cases}
use Rattle.std.proofs.lemmas.Option.{none-some}
use Rattle.currency_base.specs.declared.lit.Lit.{Lit}
use Rattle.refutation_log.specs.declared.statement.Statement.{Statement}
use Rattle.order_literals.proofs.Items.{IsIn, in_contained}
use Rattle.order_literals.specs.Said.{Said, Says}
use Rattle.order_clauses.specs.Added.{AreDistinctOf, IsAddedTo, Say}
use Rattle.order_clauses.specs.Clauses.{AreLits}
use Rattle.order_clauses.proofs.Saying.{are_lits, distinct_push, first_of, in_cons, later_in}

-- a literal is among some, or it is not
lit_or : (a b : Lit) → (a ≡ b) ⊎ (a ≡ b → ⊥)
lit_or a b = ⊎_elim
    (λ (same : a.0 ≡ b.0). inl (ap (λ n. let l : Lit = record { 0 = n } in l) same))
    (λ (differ : a.0 ≡ b.0 → ⊥). inr (λ e. differ (ap (λ (l : Lit). l.0) e)))
    (cases_eq a.0 b.0)

among_or : (lits : List Lit) (lit : Lit) → Contains lits lit ⊎ (Contains lits lit → ⊥)
among_or [] lit = inr (λ at. in_contained [] lit at)
among_or (x ∷ xs) lit = by (lit_or x lit) (among_or xs lit)
  where
    by : (x ≡ lit) ⊎ (x ≡ lit → ⊥) → Contains xs lit ⊎ (Contains xs lit → ⊥) → Contains (x ∷ xs) lit ⊎ (Contains (x ∷ xs) lit → ⊥)
    by (inl same) more = inl (subst (Contains (x ∷ xs)) same (first_of x xs))
    by (inr differ) (inl later) = inl (later_in x xs lit later)
    by (inr differ) (inr never) = inr (λ at. ⊎_elim differ never (in_cons x xs lit at))

added : (lits : List Lit) (lit : Lit) → (new : List Lit) × IsAddedTo lits lit new
added lits lit = by (among_or lits lit)
  where
    by : Contains lits lit ⊎ (Contains lits lit → ⊥) → (new : List Lit) × IsAddedTo lits lit new
    by (inl there) = (lits, record { there = λ at. refl; added = λ never. absurd (never there); either = inl there })
    by (inr never) = (lits ++ lit ∷ [], record { there = λ at. absurd (never at); added = λ n. refl; either = inr never })

-- the same literals, each once
distinct : (lits : List Lit) → (once : List Lit) × AreDistinctOf lits once
distinct [] = (
  [],
  record { each = λ lit at. at; all = λ lit at. at; once = λ i j x at_i at_j. absurd (none-some x at_i) },
)
distinct (x ∷ xs) =
    let rest = distinct xs in
    let more = added rest.0 x in
    let of = distinct_push xs rest.0 more.0 x rest.1 more.1 in (
      more.0,
      record {
        each = λ lit at. ⊎_elim
            (λ (there : Contains xs lit). later_in x xs lit there)
            (λ (same : x ≡ lit). subst (Contains (x ∷ xs)) same (first_of x xs))
            (Contains-push_cases xs x lit (of.each lit at));
        all = λ lit at. ⊎_elim
            (λ (same : x ≡ lit). of.all lit (subst (Contains (xs ++ x ∷ [])) same (Contains-push xs x)))
            (λ (there : Contains xs lit). of.all lit (Contains-append_left xs (x ∷ []) lit there))
            (in_cons x xs lit at);
        once = of.once;
      },
    )

say_all : (statements : List Statement) (clause : List Said)
    → ((x : Said) → IsIn clause x → (lit : Lit) × Says statements lit x) → (lits : List Lit) × Say statements lits clause
say_all statements [] each = ([], tt)
say_all statements (x ∷ clause) each =
    let here = each x (inl refl) in
    let rest = say_all statements clause (λ y at. each y (inr at)) in
    (here.0 ∷ rest.0, (here.1, rest.1))

pub lits_of : (statements : List Statement) (clause : List Said)
    → ((x : Said) → IsIn clause x → (lit : Lit) × Says statements lit x) → (lits : List Lit) × AreLits statements clause lits
lits_of statements clause each =
    let say = say_all statements clause each in
    let once = distinct say.0 in
    (once.0, are_lits statements say.0 once.0 clause say.1 once.1)
