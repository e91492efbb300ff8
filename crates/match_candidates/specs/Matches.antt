-- What a match is that some completion may have, what it claims of current values, and the order of matches.
use Rattle.std.specs.Prelude.{◌≡◌, ◌<◌, ℕ, true, List, All, Contains, Some, length, slice_get}
use Rattle.std.specs.Cmp.Lexicographic.{slice_cmp}
use Rattle.std.specs.Ordering.{nat_cmp, ordering_then}
use Rattle.std.specs.declared.cmp.Ordering.{Ordering}
use Rattle.std.specs.declared.cmp.Ordering.TheVariants.{Less}
use Rattle.currency_base.specs.Lists.{OnlyOnce}
use Rattle.currency_base.specs.Values.{value_cmp}
use Rattle.currency_base.specs.declared.ids.EntId.{EntId}
use Rattle.log_axioms.specs.Matches.{match_claims}
use Rattle.match_premises.specs.Premises.{comparisons_are}
use Rattle.match_premises.specs.declared.premise.Premise.{Premise}
use Rattle.query_model.specs.declared.query.Disjunct.{Disjunct}
use Rattle.query_model.specs.declared.query.Match.{Match}
use Rattle.query_model.specs.declared.query.Query.{Query}
use Rattle.spec_model.specs.declared.relation.Relation.{Relation}

-- some completion may have the match: its disjunct is there, with one entity for each atom and one value for each variable, for
-- which the comparisons hold; and each value that an atom asks for is had by some row of its entity, so that it can be claimed
pub record IsMatch (relations : List Relation) (query : Query) (m : Match) : Type 0 where
  pub disjunct : Disjunct
  pub is_disjunct : slice_get query.disjuncts m.disjunct ≡ Some disjunct
  pub per_var : length m.values ≡ disjunct.vars
  pub per_atom : length m.entities ≡ length disjunct.atoms
  pub compared : comparisons_are m.values disjunct.tests ≡ true
  pub claims : List Premise
  pub are_claims : match_claims relations m.values disjunct.atoms m.entities ≡ Some claims

-- what a match claims: for each value that an atom asks for the first row of its entity that has it, atom by atom and place by
-- place
pub record AreClaimsOf (relations : List Relation) (query : Query) (m : Match) (claims : List Premise) : Type 0 where
  pub disjunct : Disjunct
  pub is_disjunct : slice_get query.disjuncts m.disjunct ≡ Some disjunct
  pub are : match_claims relations m.values disjunct.atoms m.entities ≡ Some claims

-- ---- the order of matches

-- entities by their numbers
abbrev pub ent_cmp : EntId → EntId → Ordering
ent_cmp a b = nat_cmp a.0 b.0

-- matches by their disjuncts, then by their entities, and then by their values
abbrev pub match_cmp : Match → Match → Ordering
match_cmp a b =
    ordering_then (nat_cmp a.disjunct b.disjunct)
    (ordering_then (slice_cmp ent_cmp a.entities b.entities) (slice_cmp value_cmp a.values b.values))

abbrev pub MatchPrecedes : Match → Match → Type 0
MatchPrecedes a b = match_cmp a b ≡ Less

-- each match precedes those after it
abbrev pub MatchesAscend : List Match → Type 0
MatchesAscend list = (i j : ℕ) (a b : Match) → i < j → slice_get list i ≡ Some a → slice_get list j ≡ Some b → MatchPrecedes a b

-- ---- all matches

-- exactly the matches of a query, ascending
pub record AreMatches (relations : List Relation) (query : Query) (list : List Match) : Type 0 where
  pub each : All (IsMatch relations query) list
  pub all : (m : Match) → IsMatch relations query m → Contains list m
  pub ascend : MatchesAscend list

-- there are more matches than so many
pub record HasMoreMatches (relations : List Relation) (query : Query) (most : ℕ) : Type 0 where
  pub some : List Match
  pub each : All (IsMatch relations query) some
  pub once : OnlyOnce some
  pub more : most < length some
