-- A clause follows by the reasons of the literals that were resolved, in the order in which they came, and each of those adds
-- a literal.
use Rattle.std.proofs.Common.{◌≡◌, ◌≢◌, ◌⊎◌, ◌<◌, ◌∙◌, ℕ, List, [], ◌∷◌, ◌++◌, Contains, map, refl, sym, ap, subst, inl, inr, arith}
use Rattle.std.proofs.lemmas.List.Elements.{Contains-push, Contains-push_cases, Contains-append_left, Contains-append_right}
use Rattle.currency_base.specs.Literals.{negation}
use Rattle.currency_base.specs.declared.lit.Lit.{Lit}
use Rattle.refutation_log.specs.Follows.{Falsifies, Follows, IsOnlyOpen}
use Rattle.lean_hints.specs.Lean.{EachAdds, IsAdding}
use Rattle.conflict_analysis.proofs.Entries.{negation_twice}
use Rattle.conflict_analysis.proofs.Members.{cons_cases}
use Rattle.conflict_analysis.specs.Steps.{IsCovered, IsLaw, Rises}

-- the literals that are false once those of some places have been resolved, and those of others have not
record Walks (lit : ℕ → Lit) (learned : List Lit) (places rest : List ℕ) (falses : List Lit) : Type 0 where
  kept : (o : Lit) → Contains learned o → Contains falses o
  walked : (q : ℕ) → Contains places q → Contains rest q ⊎ Contains falses (negation (lit q))
  only : (o : Lit) → Contains falses o → Contains learned o ⊎
      ((q : ℕ) × Contains places q × (Contains rest q → ⊥) × (o ≡ negation (lit q)))

module _ (lit : ℕ → Lit) (clause : ℕ → List Lit) (learned : List Lit) (places : List ℕ) (last : List Lit)
    (law : IsLaw lit clause learned places last) where
  -- the literal of a place is not false yet
  open_yet : (p : ℕ) (rest : List ℕ) (falses : List Lit) → Walks lit learned places rest falses → Contains places p
      → Contains falses (lit p) → ⊥
  open_yet p rest falses w in_places false = by (w.only (lit p) false)
    where
      by : Contains learned (lit p) ⊎ ((q : ℕ) × Contains places q × (Contains rest q → ⊥) × (lit p ≡ negation (lit q))) → ⊥
      by (inl in_learned) = law.fresh p in_places in_learned
      by (inr other) = law.apart p other.0 in_places other.1 other.3

  -- and neither is its negation
  new_yet : (p : ℕ) (rest : List ℕ) (falses : List Lit) → Walks lit learned places (p ∷ rest) falses → Contains places p
      → Contains falses (negation (lit p)) → ⊥
  new_yet p rest falses w in_places false = by (w.only (negation (lit p)) false)
    where
      by : Contains learned (negation (lit p)) ⊎
          ((q : ℕ) × Contains places q × (Contains (p ∷ rest) q → ⊥) × (negation (lit p) ≡ negation (lit q))) → ⊥
      by (inl in_learned) = law.new p in_places in_learned
      by (inr other) =
          let same : lit p ≡ lit other.0 = sym (negation_twice (lit p)) ∙ ap negation other.3 ∙ negation_twice (lit other.0) in
          other.2 (subst (λ q. Contains (p ∷ rest) q) (law.once p other.0 in_places other.1 same)
          (Contains-append_left (p ∷ []) rest p (Contains-push [] p)))

  -- the others of its reason are
  others_false : (p : ℕ) (rest : List ℕ) (falses : List Lit) → Walks lit learned places (p ∷ rest) falses → Contains places p
      → ((q : ℕ) → Contains rest q → p < q) → (o : Lit) → Contains (clause p) o → o ≢ lit p → Contains falses o
  others_false p rest falses w in_places rises o in_clause differs = by (law.others p o in_places in_clause differs)
    where
      here : (q : ℕ) → q < p → o ≡ negation (lit q) → (Contains (p ∷ rest) q ⊎ Contains falses (negation (lit q)))
          → Contains falses o
      here q less is (inr false) = subst (λ l. Contains falses l) (sym is) false
      here q less is (inl later) = late (cons_cases p rest q later)
        where
          late : (p ≡ q) ⊎ Contains rest q → Contains falses o
          late (inl same) = absurd (omega (arith, same, less))
          late (inr after) = absurd (omega (arith, rises q after, less))

      by : IsCovered lit learned places p o → Contains falses o
      by (inl in_learned) = w.kept o in_learned
      by (inr other) = here other.0 other.2 other.3 (w.walked other.0 other.1)

  -- one more is resolved
  more : (p : ℕ) (rest : List ℕ) (falses : List Lit) → Walks lit learned places (p ∷ rest) falses → Contains places p
      → ((q : ℕ) → Contains rest q → p < q) → Walks lit learned places rest (falses ++ negation (lit p) ∷ [])
  more p rest falses w in_places rises =
      record {
        kept = λ o there. Contains-append_left falses (negation (lit p) ∷ []) o (w.kept o there);
        walked = λ q there. pass q (w.walked q there);
        only = λ o there. said o (Contains-push_cases falses (negation (lit p)) o there);
      }
    where
      pass : (q : ℕ) → Contains (p ∷ rest) q ⊎ Contains falses (negation (lit q))
          → Contains rest q ⊎ Contains (falses ++ negation (lit p) ∷ []) (negation (lit q))
      pass q (inr false) = inr (Contains-append_left falses (negation (lit p) ∷ []) (negation (lit q)) false)
      pass q (inl later) = late (cons_cases p rest q later)
        where
          late : (p ≡ q) ⊎ Contains rest q → Contains rest q ⊎ Contains (falses ++ negation (lit p) ∷ []) (negation (lit q))
          late (inr after) = inl after
          late (inl same) = inr (subst (λ r. Contains (falses ++ negation (lit p) ∷ []) (negation (lit r))) same
              (Contains-push falses (negation (lit p))))

      said : (o : Lit) → Contains falses o ⊎ (negation (lit p) ≡ o) → Contains learned o ⊎
          ((q : ℕ) × Contains places q × (Contains rest q → ⊥) × (o ≡ negation (lit q)))
      said o (inr is) = inr (p, in_places, λ later. (let less = rises p later in omega (arith, less)), sym is)
      said o (inl false) = elim (w.only o false) [
        | inl in_learned ↦ inl in_learned
        | inr q ↦ inr (q.0, q.1, λ later. q.2 (Contains-append_right (p ∷ []) rest q.0 later), q.3)
      ]

  -- and of its reason it alone is not false yet
  only_open : (p : ℕ) (rest : List ℕ) (falses : List Lit) → Walks lit learned places (p ∷ rest) falses → Contains places p
      → ((q : ℕ) → Contains rest q → p < q) → IsOnlyOpen falses (clause p) (lit p)
  only_open p rest falses w in_places rises = record {
    is_in = law.is_in p in_places;
    is_open = open_yet p (p ∷ rest) falses w in_places;
    others = others_false p rest falses w in_places rises;
  }

  -- so that its negation is added
  adding : (p : ℕ) (rest : List ℕ) (falses : List Lit) → Walks lit learned places (p ∷ rest) falses → Contains places p
      → ((q : ℕ) → Contains rest q → p < q) → IsAdding falses (clause p) (lit p)
  adding p rest falses w in_places rises = record {
    only_open = only_open p rest falses w in_places rises;
    fresh = new_yet p rest falses w in_places;
  }

  first_in : (p : ℕ) (rest : List ℕ) → ((q : ℕ) → Contains (p ∷ rest) q → Contains places q) → Contains places p
  first_in p rest within = within p (Contains-append_left (p ∷ []) rest p (Contains-push [] p))

  rest_in : (p : ℕ) (rest : List ℕ) → ((q : ℕ) → Contains (p ∷ rest) q → Contains places q) → (q : ℕ) → Contains rest q
      → Contains places q
  rest_in p rest within q there = within q (Contains-append_right (p ∷ []) rest q there)

  goes : (rest : List ℕ) (falses : List Lit) → Walks lit learned places rest falses → Rises rest →
      ((q : ℕ) → Contains rest q → Contains places q)
      → (all : List Lit) × Falsifies falses (map clause rest) all × Walks lit learned places [] all
  goes [] falses w rises within = (falses, refl, w)
  goes (p ∷ rest) falses w rises within =
      let here = first_in p rest within in
      let end = goes rest (falses ++ negation (lit p) ∷ []) (more p rest falses w here rises.0) rises.1
      (rest_in p rest within) in
      (end.0, inr (lit p, only_open p rest falses w here rises.0, end.1), end.2)

  adds : (rest : List ℕ) (falses : List Lit) → Walks lit learned places rest falses → Rises rest →
      ((q : ℕ) → Contains rest q → Contains places q) → EachAdds falses (map clause rest)
  adds [] falses w rises within = tt
  adds (p ∷ rest) falses w rises within =
      let here = first_in p rest within in (
        lit p,
        adding p rest falses w here rises.0,
        adds rest (falses ++ negation (lit p) ∷ []) (more p rest falses w here rises.0) rises.1 (rest_in p rest within),
      )

  start : Walks lit learned places places learned
  start = record { kept = λ o there. there; walked = λ q there. inl there; only = λ o there. inl there }

  -- each reason adds a literal
  pub law_adds : Rises places → EachAdds learned (map clause places)
  law_adds rises = adds places learned start rises (λ q there. there)

  -- the clause follows
  pub law_follows : Rises places → Follows learned (map clause places ++ last ∷ [])
  law_follows rises = by (goes places learned start rises (λ q there. there))
    where
      by : ((all : List Lit) × Falsifies learned (map clause places) all × Walks lit learned places [] all)
          → Follows learned (map clause places ++ last ∷ [])
      by end =
          record {
            front = map clause places;
            last = last;
            hints_are = refl;
            falses = end.0;
            falsified = end.1;
            conflict = λ o there. closed o (law.closed o there);
          }
        where
          closed : (o : Lit) → Contains learned o ⊎ ((q : ℕ) × Contains places q × (o ≡ negation (lit q))) → Contains end.0 o
          closed o (inl in_learned) = end.2.kept o in_learned
          closed o (inr other) = ended (end.2.walked other.0 other.1)
            where
              ended : Contains [] other.0 ⊎ Contains end.0 (negation (lit other.0)) → Contains end.0 o
              ended (inl none) = absurd (omega (arith, none.1))
              ended (inr false) = subst (λ l. Contains end.0 l) (sym other.2) false
