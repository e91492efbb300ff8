-- The clauses of counted steps: each is fresh after those before it, so that they are few.
use Rattle.std.proofs.Common.{◌≡◌, ℕ, ◌^◌, ◌<◌, Bool, true, false, cond, List, [], ◌∷◌, ◌++◌, Contains, map, filter, refl, sym, subst, subst₂, ⊎_elim, arith}
use Rattle.std.proofs.lemmas.List.{length-map, map-append}
use Rattle.std.proofs.lemmas.List.Elements.{All-map, All-filter, Contains-append_left, Contains-push, Contains-push_cases}
use Rattle.std.proofs.lemmas.List.Sums.{length-filter}
use Rattle.currency_base.specs.declared.lit.Lit.{Lit}
use Rattle.refutation_log.specs.Steps.{clause_of, clauses_of, is_counted}
use Rattle.refutation_log.specs.Counted.{IsFresh, IsNew, AreWithin, CountedAreNew, counted_steps}
use Rattle.refutation_log.specs.declared.step.Step.{Step}
use Rattle.refutation_log.specs.declared.step.Step.TheVariants.{Axiom, OnDemand, Learn}
use Rattle.log_laws.proofs.Fronts.{EachAfter, each_after}
use Rattle.log_laws.proofs.FreshClauses.{IsWithin, fresh_are_few}

-- a counted step is new after the steps before it
abbrev IsNewIfCounted : List Step → Step → Type 0
IsNewIfCounted before step = is_counted step ≡ true → IsNew (clauses_of before) step

fresh_of_new : (earlier : List (List Lit)) (step : Step) → IsNew earlier step → IsFresh earlier (clause_of step)
fresh_of_new earlier (Axiom label lits) new = absurd new
fresh_of_new earlier (OnDemand label lits) new = new.1
fresh_of_new earlier (Learn lits hints counted) new = new.1

-- each of the clauses is one of the others
abbrev AreAmong : List (List Lit) → List (List Lit) → Type 0
AreAmong clauses others = (c : List Lit) → Contains clauses c → Contains others c

-- what is fresh after clauses is so after some of them
fresh_after_some : (some all : List (List Lit)) (clause : List Lit) → AreAmong some all → IsFresh all clause → IsFresh some clause
fresh_after_some some all clause among fresh =
    record { not_empty = fresh.not_empty; no_opposites = fresh.no_opposites; no_subset = λ c at. fresh.no_subset c (among c at) }

-- the clauses of the counted steps
abbrev counted_clauses : List Step → List (List Lit)
counted_clauses steps = map clause_of (filter is_counted steps)

-- the clause of each counted step is fresh after those of the counted steps before it
counted_fresh : (earlier : List (List Lit)) (front rest : List Step) → AreAmong earlier (clauses_of front)
    → EachAfter IsNewIfCounted front rest → EachAfter IsFresh earlier (counted_clauses rest)
counted_fresh earlier front [] among each = tt
counted_fresh earlier front (step ∷ rest) among each =
    go (is_counted step) refl (λ more known. counted_fresh more (front ++ step ∷ []) rest known each.1)
  where
    now : List (List Lit)
    now = clauses_of (front ++ step ∷ [])

    pushed : clauses_of front ++ clause_of step ∷ [] ≡ now
    pushed = sym (map-append clause_of front (step ∷ []))

    before : AreAmong earlier now
    before c at = subst (λ l. Contains l c) pushed (Contains-append_left (clauses_of front) (clause_of step ∷ []) c (among c at))

    here : (c : List Lit) → clause_of step ≡ c → Contains now c
    here c e = subst₂ Contains pushed e (Contains-push (clauses_of front) (clause_of step))

    go : (counted : Bool) → is_counted step ≡ counted
        → ((more : List (List Lit)) → AreAmong more now → EachAfter IsFresh more (counted_clauses rest))
        → EachAfter IsFresh earlier (map clause_of (cond counted (step ∷ filter is_counted rest) (filter is_counted rest)))
    go false e later = later earlier before
    go true e later = (
      fresh_after_some earlier (clauses_of front) (clause_of step) among (fresh_of_new (clauses_of front) step (each.0 e)),
      later (earlier ++ clause_of step ∷ [])
          (λ c at. ⊎_elim (before c) (here c) (Contains-push_cases earlier (clause_of step) c at)),
    )

pub counted_few : (statements : ℕ) (steps : List Step) → AreWithin statements steps → CountedAreNew steps
    → counted_steps steps < 3 ^ statements
counted_few statements steps within new =
    let counted = filter is_counted steps in
    let kept = All-filter is_counted (λ step. IsWithin statements (clause_of step)) steps within in
    let fresh = counted_fresh [] [] steps (λ c at. at) (each_after IsNewIfCounted [] steps new) in
    let few = fresh_are_few statements (counted_clauses steps) (All-map (IsWithin statements) clause_of counted kept) fresh in
    omega (arith, few, length-map counted clause_of, length-filter is_counted steps)
