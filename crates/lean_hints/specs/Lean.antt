-- Hints of which none is idle.
use Rattle.std.specs.Prelude.{◌≡◌, ◌+◌, ◌++◌, ◌∷◌, ℕ, List, [], Contains, length}
use Rattle.currency_base.specs.Lists.{OnlyOnce}
use Rattle.currency_base.specs.Literals.{negation}
use Rattle.currency_base.specs.declared.lit.Lit.{Lit}
use Rattle.refutation_log.specs.Follows.{Falsifies, IsOnlyOpen, clauses_at}

-- of a clause's literals exactly one is not among those that are false, and its negation is not there yet
pub record IsAdding (falses clause : List Lit) (lit : Lit) : Type 0 where
  pub only_open : IsOnlyOpen falses clause lit
  pub fresh : Contains falses (negation lit) → ⊥

-- going through the clauses, each adds the negation of a literal to those that are false
abbrev pub EachAdds : List Lit → List (List Lit) → Type 0
EachAdds falses [] = Unit {0}
EachAdds falses (clause ∷ clauses) =
    (lit : Lit) × IsAdding falses clause lit × EachAdds (falses ++ negation lit ∷ []) clauses

-- of the hints of a clause, which are numbers of earlier clauses, none stands twice, and each but the last adds a literal
pub record AreLean (earlier : List (List Lit)) (clause : List Lit) (hints : List ℕ) : Type 0 where
  pub once : OnlyOnce hints
  pub adds : (front : List ℕ) (last : ℕ) → hints ≡ front ++ last ∷ [] → EachAdds clause (clauses_at earlier front)

-- the literals that are false in the end, one more for each clause
pub record HasFalsified (falses : List Lit) (clauses : List (List Lit)) : Type 0 where
  pub all : List Lit
  pub falsified : Falsifies falses clauses all
  pub many : length all ≡ length falses + length clauses

-- a law: clauses of which each adds a literal falsify so many
abbrev pub EachAddsOne : Type 0
EachAddsOne = (falses : List Lit) (clauses : List (List Lit)) → EachAdds falses clauses → HasFalsified falses clauses
