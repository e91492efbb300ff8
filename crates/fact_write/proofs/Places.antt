-- The places of an atom, as they are written.
use Rattle.std.proofs.Common.{◌≡◌, ◌∙◌, ◌+◌, ◌-◌, ◌<◌, ℕ, zero, suc, List, [], ◌∷◌, ◌++◌, Some, length, refl, ap, sym, append_assoc, arith, codes}
use Rattle.currency_base.specs.declared.value.Value.{Value}
use Rattle.log_write.specs.Pieces.{symbol}
use Rattle.match_premises.specs.declared.premise.Premise.{Premise}
use Rattle.posed_facts.specs.Facts.{IsPlaced}
use Rattle.posed_facts.specs.Questions.{attrs_in, claim_attrs, claim_name, claim_value}
use Rattle.report_write.specs.Pieces.{relation_pieces}
use Rattle.spec_model.specs.declared.relation.Relation.{Relation}
use Rattle.text_write.specs.Pieces.{Piece}
use Rattle.text_write.specs.Spelling.{value_piece}
use Rattle.text_write.specs.Spacing.{Writing, writes_all}
use Rattle.text_write.proofs.Writings.{writes_append}
use Rattle.fact_write.specs.Parts.{back_pieces, front_pieces}
use Rattle.fact_write.specs.Pieces.{any_pieces, any_places, atom_pieces, claimed_pieces, constant_pieces, entity_pieces}
use Rattle.fact_write.specs.Pieces.{further_pieces, places_pieces}

-- one place more at the end
any_more : (n : ℕ) → any_places n ++ further_pieces any_pieces ≡ any_places (n + 1)
any_more n = more n ∙ ap any_places (next n)
  where
    next : (m : ℕ) → suc m ≡ m + 1
    next m = omega arith

    more : (m : ℕ) → any_places m ++ further_pieces any_pieces ≡ any_places (suc m)
    more zero = refl
    more (suc m) = ap (λ l. further_pieces any_pieces ++ l) (more m)

-- so many are written, and then one place more
pub one_more : (n : ℕ) (w a b v : Writing) → a ≡ writes_all w (any_places n) → b ≡ writes_all a (symbol (codes ","))
    → v ≡ writes_all b any_pieces → v ≡ writes_all w (any_places (n + 1))
one_more n w a b v so_far comma any =
    any ∙ ap (λ u. writes_all u any_pieces) comma ∙ ap (λ u. writes_all u (further_pieces any_pieces)) so_far
    ∙ sym (writes_append w (any_places n) (further_pieces any_pieces))
    ∙ ap (λ ps. writes_all w ps) (any_more n)

-- the places before the attribute's, that place, and those behind it
pub places_parts : (n attr : ℕ) (stands : List Piece) → attr < n
    → places_pieces n attr stands ≡ any_places attr ++ symbol (codes ",") ++ stands ++ any_places (n - attr - 1)
places_parts zero attr stands below = absurd (omega (arith, below))
places_parts (suc n) zero stands below =
    let same : n ≡ suc n - 0 - 1 = omega arith in ap (λ m. further_pieces stands ++ any_places m) same
places_parts (suc n) (suc attr) stands below =
    let same : n - attr - 1 ≡ suc n - suc attr - 1 = omega arith in
    ap (λ l. further_pieces any_pieces ++ l)
    (places_parts n attr stands (omega (arith, below))
    ∙ ap (λ m. any_places attr ++ symbol (codes ",") ++ stands ++ any_places m) same)

-- ---- an atom

regrouped : (relation bracket entity places comma stands rest close : List Piece)
    → ((relation ++ bracket ++ entity) ++ places ++ comma) ++ (stands ++ (rest ++ close))
    ≡ relation ++ bracket ++ entity ++ (places ++ comma ++ stands ++ rest) ++ close
regrouped relation bracket entity places comma stands rest close = simp append_assoc

-- the parts of an atom
atom_parts : (relations : List Relation) (p : Premise) → IsPlaced relations p → (stands : List Piece)
    → front_pieces relations p ++ (stands ++ back_pieces relations p) ≡ atom_pieces relations p stands
atom_parts relations p placed stands =
    let attrs = claim_attrs relations p in
    let count : attrs ≡ length placed.relation.attrs = ap attrs_in placed.is_relation in
    let rel = relation_pieces relations p.rel.0 in
    let ent = entity_pieces (claim_name relations p) in
    let bracket = symbol (codes "(") in
    let close = symbol (codes ")") in
    regrouped rel bracket ent (any_places p.attr.0) (symbol (codes ",")) stands (any_places (attrs - p.attr.0 - 1)) close
    ∙ ap (λ l. rel ++ bracket ++ ent ++ l ++ close) (sym (places_parts attrs p.attr.0 stands (omega (arith, placed.attr, count))))

-- an atom is written part by part
pub atom_written : (relations : List Relation) (p : Premise) → IsPlaced relations p → (stands : List Piece) (w a b v : Writing)
    → a ≡ writes_all w (front_pieces relations p) → b ≡ writes_all a stands → v ≡ writes_all b (back_pieces relations p)
    → v ≡ writes_all w (atom_pieces relations p stands)
atom_written relations p placed stands w a b v first second third =
    let front = front_pieces relations p in
    let back = back_pieces relations p in
    third ∙ ap (λ u. writes_all u back) second ∙ sym (writes_append a stands back)
    ∙ ap (λ u. writes_all u (stands ++ back)) first
    ∙ sym (writes_append w front (stands ++ back))
    ∙ ap (λ l. writes_all w l) (atom_parts relations p placed stands)

-- with the value that is claimed
pub claimed_written : (relations : List Relation) (p : Premise) → IsPlaced relations p → (x : Value)
    → claim_value relations p ≡ Some x → (w a b v : Writing) → a ≡ writes_all w (front_pieces relations p)
    → b ≡ writes_all a (value_piece x ∷ []) → v ≡ writes_all b (back_pieces relations p)
    → v ≡ writes_all w (claimed_pieces relations p)
claimed_written relations p placed x is w a b v first second third =
    atom_written relations p placed (value_piece x ∷ []) w a b v first second third
    ∙ ap (λ o. writes_all w (atom_pieces relations p (constant_pieces o))) (sym is)
