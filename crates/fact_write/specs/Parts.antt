-- The parts of an atom that is written: what stands before the attribute's place, and what stands after it.
use Rattle.std.specs.Prelude.{◌-◌, List, ◌++◌, codes}
use Rattle.log_write.specs.Pieces.{symbol}
use Rattle.match_premises.specs.declared.premise.Premise.{Premise}
use Rattle.posed_facts.specs.Questions.{claim_attrs, claim_name}
use Rattle.report_write.specs.Pieces.{relation_pieces}
use Rattle.spec_model.specs.declared.relation.Relation.{Relation}
use Rattle.text_write.specs.Pieces.{Piece}
use Rattle.fact_write.specs.Pieces.{any_places, entity_pieces}

-- REL "(" ENTITY
abbrev pub head_pieces : List Relation → Premise → List Piece
head_pieces relations p =
    relation_pieces relations p.rel.0 ++ symbol (codes "(") ++ entity_pieces (claim_name relations p)

-- all before the attribute's place, and the comma in front of it
abbrev pub front_pieces : List Relation → Premise → List Piece
front_pieces relations p = head_pieces relations p ++ any_places p.attr.0 ++ symbol (codes ",")

-- all behind the attribute's place
abbrev pub back_pieces : List Relation → Premise → List Piece
back_pieces relations p = any_places (claim_attrs relations p - p.attr.0 - 1) ++ symbol (codes ")")
