-- The tokens of the question for a fact, as it is written.
use Rattle.std.specs.Prelude.{ℕ, zero, suc, List, [], ◌∷◌, ◌++◌, Option, Some, None, codes}
use Rattle.currency_base.specs.declared.value.Value.{Value}
use Rattle.log_write.specs.Pieces.{many_pieces, symbol, word}
use Rattle.match_premises.specs.declared.premise.Premise.{Premise}
use Rattle.posed_facts.specs.Questions.{claim_attrs, claim_name, claim_value}
use Rattle.posed_facts.specs.declared.fact.Fact.{Fact}
use Rattle.posed_facts.specs.declared.fact.Fact.TheVariants as fact
use Rattle.report_write.specs.Pieces.{attribute_pieces, relation_pieces, row_pieces}
use Rattle.spec_model.specs.declared.question.Asked.{Asked}
use Rattle.spec_model.specs.declared.relation.Relation.{Relation}
use Rattle.text_write.specs.Pieces.{Piece}
use Rattle.text_write.specs.Spelling.{string_piece, value_piece}

-- ---- what stands at a place of an atom

-- "_"
abbrev pub any_pieces : List Piece
any_pieces = word (codes "_")

-- "v"
abbrev pub variable_pieces : List Piece
variable_pieces = word (codes "v")

-- this name as a constant, if there is one
abbrev pub entity_pieces : Option (List ℕ) → List Piece
entity_pieces (Some bytes) = string_piece bytes ∷ []
entity_pieces None = any_pieces

-- this value, if there is one
abbrev pub constant_pieces : Option Value → List Piece
constant_pieces (Some value) = value_piece value ∷ []
constant_pieces None = any_pieces

-- a comma, and what stands at the place
abbrev pub further_pieces : List Piece → List Piece
further_pieces stands = symbol (codes ",") ++ stands

-- anything at each of so many further places
abbrev pub any_places : ℕ → List Piece
any_places zero = []
any_places (suc attrs) = further_pieces any_pieces ++ any_places attrs

-- the same, but this at one of them
abbrev pub places_pieces : ℕ → ℕ → List Piece → List Piece
places_pieces zero attr stands = []
places_pieces (suc attrs) zero stands = further_pieces stands ++ any_places attrs
places_pieces (suc attrs) (suc attr) stands = further_pieces any_pieces ++ places_pieces attrs attr stands

-- that the claim's entity has this at the attribute's place: REL "(" ENTITY { "," place } ")"
abbrev pub atom_pieces : List Relation → Premise → List Piece → List Piece
atom_pieces relations p stands =
    relation_pieces relations p.rel.0 ++ symbol (codes "(") ++ entity_pieces (claim_name relations p)
    ++ places_pieces (claim_attrs relations p) p.attr.0 stands ++ symbol (codes ")")

-- ---- disjuncts

-- the entity has the value that is claimed
abbrev pub claimed_pieces : List Relation → Premise → List Piece
claimed_pieces relations p = atom_pieces relations p (constant_pieces (claim_value relations p))

-- the variable is not this value: "and" "v" "!=" VALUE
abbrev pub test_pieces : Option Value → List Piece
test_pieces (Some value) = word (codes "and") ++ variable_pieces ++ symbol (codes "!=") ++ value_piece value ∷ []
test_pieces None = []

-- the entity has another value
abbrev pub other_pieces : List Relation → Premise → List Piece
other_pieces relations p = atom_pieces relations p variable_pieces ++ test_pieces (claim_value relations p)

-- a further disjunct: "or" and what it says
abbrev pub or_pieces : List Relation → Premise → List Piece
or_pieces relations p = word (codes "or") ++ other_pieces relations p

-- disjuncts with "or" between them
abbrev pub others_pieces : List Relation → List Premise → List Piece
others_pieces relations [] = []
others_pieces relations (p ∷ list) = other_pieces relations p ++ many_pieces (or_pieces relations) list

-- ---- questions

-- "certain" REL "." ATTR ":" ROW "<" ROW ";"
abbrev pub before_pieces : List Relation → Asked → List Piece
before_pieces relations p =
    word (codes "certain") ++ attribute_pieces relations p.rel.0 p.pair.attr.0 ++ symbol (codes ":")
    ++ row_pieces relations p.rel.0 p.pair.earlier ++ symbol (codes "<") ++ row_pieces relations p.rel.0 p.pair.later
    ++ symbol (codes ";")

-- "answers" "(" ")" "where"
abbrev pub where_pieces : List Piece
where_pieces = word (codes "answers") ++ symbol (codes "(") ++ symbol (codes ")") ++ word (codes "where")

-- whether one of these disjuncts holds
abbrev pub whether_pieces : List Piece → List Piece
whether_pieces disjuncts = where_pieces ++ disjuncts ++ symbol (codes ";")

-- the question for a fact
abbrev pub fact_pieces : List Relation → Fact → List Piece
fact_pieces relations (fact.Before p) = before_pieces relations p
fact_pieces relations (fact.Current p) = whether_pieces (claimed_pieces relations p)
fact_pieces relations (fact.Lacks list) = whether_pieces (others_pieces relations list)
