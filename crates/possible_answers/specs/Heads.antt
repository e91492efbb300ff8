-- The heads of the matches that are possible.
use Rattle.std.specs.Prelude.{List, [], ◌∷◌, ◌++◌, Option, None, Some, option_and_then, slice_get}
use Rattle.currency_base.specs.declared.value.Value.{Value}
use Rattle.match_premises.specs.Premises.{tuple_from}
use Rattle.possible_values.specs.declared.candidates.Candidate.{Candidate}
use Rattle.possible_values.specs.declared.candidates.Candidate.TheVariants as candidate
use Rattle.query_model.specs.declared.query.Match.{Match}
use Rattle.query_model.specs.declared.query.Query.{Query}
use Rattle.decided_facts.specs.declared.shown.Shown.{Shown}
use Rattle.decided_facts.specs.declared.shown.Shown.TheVariants as shown

-- the values of the head's variables, if the match is one of the query
abbrev pub head_of : Query → Match → Option (List Value)
head_of query m = option_and_then (λ d. tuple_from m.values (Some []) d.head) (slice_get query.disjuncts m.disjunct)

-- a tuple, if it is there
abbrev pub if_there : Option (List Value) → List (List Value)
if_there None = []
if_there (Some tuple) = tuple ∷ []

-- the head of a candidate that is a match
abbrev pub match_head : Query → Candidate → List (List Value)
match_head query (candidate.Match m) = if_there (head_of query m)
match_head query (candidate.Pair p) = []
match_head query (candidate.Value p) = []

-- the same, if it is possible: the fact that it does not hold fails
abbrev pub head_if : Query → Candidate → Shown → List (List Value)
head_if query one (shown.FailsIn place) = match_head query one
head_if query one shown.Holds = []

-- the heads of all that are, in the order of the candidates
abbrev pub heads_from : Query → List Candidate → List Shown → List (List Value)
heads_from query (one ∷ candidates) (x ∷ list) = head_if query one x ++ heads_from query candidates list
heads_from query candidates list = []
