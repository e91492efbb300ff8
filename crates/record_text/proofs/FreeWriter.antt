-- Whether records may have different lengths makes no difference to their text.
use Rattle.std.proofs.Common.{◌≡◌, ℕ, List, [], ◌∷◌, refl}
use Rattle.csv.specs.Writing.{default_writer, escaped, field_text, fields_text, is_blank, row_text}
use Rattle.record_text.specs.Writers.{free_writer}

free_escaped : (field : List ℕ) → escaped free_writer field ≡ escaped default_writer field
unfolding escaped
free_escaped [] = refl
free_escaped (b ∷ rest) = rw (free_escaped rest) refl

free_field : (field : List ℕ) → field_text free_writer field ≡ field_text default_writer field
free_field field = rw (free_escaped field) refl

free_fields : (fields : List (List ℕ)) → fields_text free_writer fields ≡ fields_text default_writer fields
unfolding fields_text
free_fields [] = refl
free_fields (field ∷ rest) = rw (free_field field, free_fields rest) refl

free_blank : (fields : List (List ℕ)) → is_blank free_writer fields ≡ is_blank default_writer fields
unfolding is_blank
free_blank [] = refl
free_blank (field ∷ []) = rw (free_field field) refl
free_blank (field ∷ next ∷ rest) = refl

-- the text of a record
pub free_row : (fields : List (List ℕ)) → row_text free_writer fields ≡ row_text default_writer fields
free_row [] = rw (free_blank []) refl
free_row (field ∷ rest) = rw (free_field field, free_fields rest, free_blank (field ∷ rest)) refl
