-- Clauses that are each fresh after those before them are fewer than 3 to the number of their variables.
use Rattle.std.proofs.Common.{◌≡◌, ℕ, ◌^◌, ◌<◌, eqb, true, false, List, [], ◌∷◌, ◌++◌, All, Contains, length, map, refl, sym, subst, ⊎_elim, arith}
use Rattle.std.specs.List.{AllByRecursion, IsDistinct, list_any}
use Rattle.std.proofs.lemmas.Bool.{eqb-true, false_from_ne_true, or_cases}
use Rattle.std.proofs.lemmas.List.{length-map}
use Rattle.std.proofs.lemmas.List.Elements.{All-head, All-tail, Contains-append_left, Contains-push}
use Rattle.std.proofs.lemmas.Map.Steps.{length-le_from_distinct_below}
use Rattle.currency_base.specs.Literals.{var_of}
use Rattle.currency_base.specs.declared.lit.Lit.{Lit}
use Rattle.refutation_log.specs.Counted.{IsConsistent, IsFresh}
use Rattle.log_laws.proofs.Fronts.{EachAfter}
use Rattle.log_laws.proofs.Numbers.{number, number_below, same_number}

-- the variables of a clause are among so many
abbrev pub IsWithin : ℕ → List Lit → Type 0
IsWithin vars clause = All (λ lit. var_of lit < vars) clause

module _ (vars : ℕ) where
  abbrev numbers : List (List Lit) → List ℕ
  numbers clauses = map (number vars) clauses

  -- a clause without opposites has another number than the fresh clauses after it
  later_differ : (c : List Lit) (earlier clauses : List (List Lit)) → IsWithin vars c → IsConsistent c → Contains earlier c
      → EachAfter IsFresh earlier clauses → AllByRecursion (λ k. eqb (number vars c) k ≡ false) (numbers clauses)
  later_differ c earlier [] within consistent at each = tt
  later_differ c earlier (d ∷ clauses) within consistent at each = (
    false_from_ne_true (eqb (number vars c) (number vars d))
        (λ e. each.0.no_subset c at (same_number vars c d within consistent (eqb-true (number vars c) (number vars d) e))),
    later_differ c (earlier ++ d ∷ []) clauses within consistent (Contains-append_left earlier (d ∷ []) c at) each.1,
  )

  -- the numbers of fresh clauses are pairwise different
  all_differ : (earlier clauses : List (List Lit)) → All (IsWithin vars) clauses → EachAfter IsFresh earlier clauses
      → IsDistinct eqb (numbers clauses)
  unfolding IsDistinct
  all_differ earlier [] within each = tt
  all_differ earlier (c ∷ clauses) within each = (
    later_differ c (earlier ++ c ∷ []) clauses (All-head (IsWithin vars) c clauses within) each.0.no_opposites
        (Contains-push earlier c) each.1,
    all_differ (earlier ++ c ∷ []) clauses (All-tail (IsWithin vars) c clauses within) each.1,
  )

  -- and different from that of the empty clause
  differ_from_empty : (earlier clauses : List (List Lit)) → All (IsWithin vars) clauses → EachAfter IsFresh earlier clauses
      → AllByRecursion (λ k. eqb (number vars []) k ≡ false) (numbers clauses)
  differ_from_empty earlier [] within each = tt
  differ_from_empty earlier (c ∷ clauses) within each = (
    false_from_ne_true (eqb (number vars []) (number vars c)) (λ e. each.0.not_empty (none_in c
        (same_number vars c [] (All-head (IsWithin vars) c clauses within) each.0.no_opposites
        (sym (eqb-true (number vars []) (number vars c) e))))),
    differ_from_empty (earlier ++ c ∷ []) clauses (All-tail (IsWithin vars) c clauses within) each.1,
  )
    where
      none_in : (c : List Lit) → ((lit : Lit) → Contains c lit → Contains {X = Lit} [] lit) → c ≡ []
      none_in [] none = refl
      none_in (first ∷ rest) none = let at = none first (0, omega arith, refl) in absurd (omega (arith, at.1))

  all_below : (clauses : List (List Lit)) (q : ℕ) → list_any (eqb q) (numbers clauses) ≡ true → q < 3 ^ vars
  all_below [] q is = absurd (cc)
  all_below (c ∷ clauses) q is = ⊎_elim
      (λ (here : eqb q (number vars c) ≡ true).
      subst (λ n. n < 3 ^ vars) (sym (eqb-true q (number vars c) here)) (number_below vars c))
      (λ (there : list_any (eqb q) (numbers clauses) ≡ true). all_below clauses q there)
      (or_cases (eqb q (number vars c)) (list_any (eqb q) (numbers clauses)) is)

  -- the empty clause and the fresh ones have different numbers, all of them below 3 to the number of variables
  pub fresh_are_few : (clauses : List (List Lit)) → All (IsWithin vars) clauses → EachAfter IsFresh [] clauses
      → length clauses < 3 ^ vars
  unfolding IsDistinct
  fresh_are_few clauses within each =
      let few = length-le_from_distinct_below (numbers ([] ∷ clauses)) (3 ^ vars)
      (differ_from_empty [] clauses within each, all_differ [] clauses within each) (all_below ([] ∷ clauses)) in
      omega (arith, few, length-map clauses (number vars))
