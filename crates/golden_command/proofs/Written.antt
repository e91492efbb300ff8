-- The text of what is written, and the records that are put one after another.
use Rattle.std.proofs.Common.{◌≡◌, ◌∙◌, ◌+◌, ◌++◌, ◌∷◌, [], ℕ, List, Some, ap, append_assoc, drop, slice_get, sym}
use Rattle.std.proofs.lemmas.List.{drop_more}
use Rattle.std.proofs.lemmas.Option.{get_or_from_slice_get, slice_get_within}
use Rattle.golden_values.specs.declared.field.Field.{Field}
use Rattle.spec_model.specs.declared.relation.Relation.{Relation}
use Rattle.text_write.proofs.Writings.{text_written}
use Rattle.text_write.specs.Pieces.{Piece, text_of}
use Rattle.text_write.specs.Spacing.{Writing, start, writes_all}
use Rattle.golden_command.specs.Text.{record_of, records_of}

-- what is written from the start is the text of the pieces
pub text_is : (w v : Writing) (pieces : List Piece) → v ≡ start → w ≡ writes_all v pieces → w.text ≡ text_of pieces
text_is w v pieces begun wrote =
    ap (λ (x : Writing). x.text) (wrote ∙ ap (λ (x : Writing). writes_all x pieces) begun) ∙ text_written pieces

-- what is left begins with the item that is read
left_more : {A : Type 0} (xs : List A) (i : ℕ) (x : A) → slice_get xs i ≡ Some x → drop i xs ≡ x ∷ drop (i + 1) xs
left_more xs i x at =
    drop_more xs i x (slice_get_within xs i x at)
    ∙ ap (λ y. y ∷ drop (i + 1) xs) (get_or_from_slice_get xs i x x at)

-- the records that are left come after one record more
pub record_more : (r : Relation) (entities : List (List ℕ)) (table : List (List Field)) (i : ℕ) (entity : List ℕ)
    (fields : List Field) (before after : List (List (List ℕ))) → slice_get entities i ≡ Some entity
    → slice_get table i ≡ Some fields → after ≡ before ++ record_of r entity fields ∷ []
    → after ++ records_of r (drop (i + 1) entities) (drop (i + 1) table)
    ≡ before ++ records_of r (drop i entities) (drop i table)
record_more r entities table i entity fields before after at_entity at_fields put =
    let rest = records_of r (drop (i + 1) entities) (drop (i + 1) table) in
    ap (λ (x : List (List (List ℕ))). x ++ rest) put ∙ append_assoc before (record_of r entity fields ∷ []) rest
    ∙ ap (λ (x : List (List ℕ)). before ++ records_of r x (fields ∷ drop (i + 1) table))
    (sym (left_more entities i entity at_entity))
    ∙ ap (λ (x : List (List Field)). before ++ records_of r (drop i entities) x) (sym (left_more table i fields at_fields))
