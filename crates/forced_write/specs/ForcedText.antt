-- The text that lists the forced pairs of a specification.
use Rattle.std.specs.Prelude.{◌≡◌, ◌↔◌, ◌++◌, ℕ, Bool, true, List, [], ◌∷◌, if◌then◌else◌, Contains, length, codes}
use Rattle.std.specs.Cmp.Lexicographic.{slice_cmp}
use Rattle.std.specs.Fmt.{decimal}
use Rattle.std.specs.List.Sorted.{IsStrictlySortedBy}
use Rattle.std.specs.Ordering.{nat_cmp}
use Rattle.std.specs.declared.cmp.Ordering.{Ordering}
use Rattle.spec_model.specs.Spec.{Spec}
use Rattle.spec_model.specs.declared.question.Asked.{Asked}
use Rattle.spec_model.specs.declared.relation.Relation.{Relation}
use Rattle.log_write.specs.Pieces.{word, symbol, many_pieces}
use Rattle.text_write.specs.Pieces.{Piece, text_of}
use Rattle.report_write.specs.Pieces.{attribute_pieces, row_pieces}
use Rattle.forced_closure.specs.Forced.{IsForced, HasLoop}

-- pair = "pair" REL "." ATTR ":" ROW "<" ROW ";"
abbrev pub pair_pieces : List Relation → Asked → List Piece
pair_pieces relations p =
    word (codes "pair") ++ attribute_pieces relations p.rel.0 p.pair.attr.0 ++ symbol (codes ":")
    ++ row_pieces relations p.rel.0 p.pair.earlier ++ symbol (codes "<") ++ row_pieces relations p.rel.0 p.pair.later
    ++ symbol (codes ";")

-- forced = "forced" COUNT [ "loops" ] ";" { pair } "end" ";"
abbrev pub forced_pieces : List Relation → Bool → List Asked → List Piece
forced_pieces relations loops pairs =
    word (codes "forced") ++ word (decimal (length pairs)) ++ (if loops then word (codes "loops") else []) ++ symbol (codes ";")
    ++ many_pieces (pair_pieces relations) pairs ++ word (codes "end") ++ symbol (codes ";")

-- the order of pairs: by relation, attribute, earlier row and later row
abbrev pub pair_cmp : Asked → Asked → Ordering
pair_cmp a b = slice_cmp nat_cmp (a.rel.0 ∷ a.pair.attr.0 ∷ a.pair.earlier.0 ∷ a.pair.later.0 ∷ [])
    (b.rel.0 ∷ b.pair.attr.0 ∷ b.pair.earlier.0 ∷ b.pair.later.0 ∷ [])

-- the text of exactly the forced pairs, in order; it says whether a row is forced to stand before itself
pub record IsForcedText (s : Spec) (text : List ℕ) : Type 0 where
  pub pairs : List Asked
  pub loops : Bool
  pub exact : (p : Asked) → Contains pairs p ↔ IsForced s p.rel.0 p.pair.attr.0 p.pair.earlier p.pair.later
  pub ascend : IsStrictlySortedBy pair_cmp pairs
  pub loops_are : (loops ≡ true) ↔ HasLoop s
  pub text_is : text ≡ text_of (forced_pieces s.relations loops pairs)
