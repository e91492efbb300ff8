-- The places of a relation's rows, one attribute after another.
use Rattle.std.proofs.Common.{◌≡◌, ◌+◌, ◌<◌, ℕ, List, [], length, slice_set, slice_index_or, sym, ap, ◌∙◌, ⊎_elim, length-set, arith}
use Rattle.std.proofs.lemmas.Bool.{cases_eq}
use Rattle.std.proofs.lemmas.List.{get_or-set_same, get_or-set_other}
use Rattle.spec_model.specs.declared.relation.Relation.{Relation}
use Rattle.spec_model.specs.Satisfies.{Lists}
use Rattle.completion_check.specs.Marks.{AreMarked}
use Rattle.completion_check.specs.Room.{HasPlaces}

-- the length of the list at a place after a write of one as long
length_at_set : {A : Type 0} (xs : List (List A)) (i j : ℕ) (new : List A) → i < length xs → length new ≡ length
    (slice_index_or xs i [])
    → length (slice_index_or (slice_set xs i new) j []) ≡ length (slice_index_or xs j [])
length_at_set {A} xs i j new within same =
    ⊎_elim
    (λ (is : j ≡ i).
    ap (λ (k : ℕ). length (slice_index_or (slice_set xs i new) k [])) is ∙ ap length (get_or-set_same xs i new [] within) ∙ same
    ∙ ap (λ (k : ℕ). length (slice_index_or xs k [])) (sym is))
    (λ (apart : j ≡ i → ⊥). ap length (get_or-set_other xs i j new [] apart))
    (cases_eq j i)

-- there is room for the relation's rows after the places of one attribute were written
pub has_places_set : (r : Relation) (ps : List (List ℕ)) (attr : ℕ) (new : List ℕ) → attr < length r.attrs
    → length new ≡ length (slice_index_or ps attr [])
    → HasPlaces r ps → HasPlaces r (slice_set ps attr new)
has_places_set r ps attr new within same room =
    let here : attr < length ps = omega (arith, room.per_attr) in
    record {
      per_attr = length-set ps attr new ∙ room.per_attr;
      per_row = λ other below. length_at_set ps attr other new here same ∙ room.per_row other below;
    }

-- the places in one more attribute
pub marked_next : (r : Relation) (lists : Lists) (ps : List (List ℕ)) (n : ℕ) (new : List ℕ) → n < length ps
    → AreMarked r.rows (slice_index_or lists n []) new
    → ((attr : ℕ) → attr < n → AreMarked r.rows (slice_index_or lists attr []) (slice_index_or ps attr []))
    → (attr : ℕ) → attr < n + 1 → AreMarked r.rows (slice_index_or lists attr []) (slice_index_or (slice_set ps n new) attr [])
marked_next r lists ps n new within here before attr below =
    ⊎_elim
    (λ (is : attr ≡ n). rw (is, get_or-set_same ps n new [] within) here)
    (λ (apart : attr ≡ n → ⊥). rw (get_or-set_other ps n attr new [] apart) (before attr (omega arith)))
    (cases_eq attr n)
