-- Laws of parts, as statements.
use Rattle.std.specs.Prelude.{◌≡◌, ◌<◌, ◌↔◌, ℕ, length, Some, not, slice_get}
use Rattle.currency_base.specs.declared.ids.EntId.{EntId}
use Rattle.currency_base.specs.declared.ids.RowId.{RowId}
use Rattle.spec_model.specs.Spec.{Spec}
use Rattle.spec_model.specs.Facts.{IsSpecification}
use Rattle.spec_model.specs.Completion.{Rankings, lists_of, HasShape, IsCompletion, Before}
use Rattle.spec_model.specs.Consistent.{IsConsistent}
use Rattle.spec_model.specs.Current.{current_value}
use Rattle.spec_model.specs.declared.relation.Relation.{Relation}
use Rattle.part_laws.specs.Parts.{Scope, Places, rows_in, entities_in, IsPartOf, IsNarrowed, AreSameBeyond}

-- narrowing: what a consistent completion of the whole says of a part's rows is a consistent completion of the part
abbrev pub PartsNarrow : Type 0
PartsNarrow = (s : Spec) (scope : Scope) (n : Places) (part : Spec) (c narrow : Rankings) → IsSpecification s
    → IsPartOf s scope n part → HasShape part.relations narrow → IsNarrowed s.relations n c narrow
    → IsConsistent s c → IsConsistent part narrow

-- joining: a consistent completion of the whole stays one where a part's rows are ranked as in one of the part
abbrev pub PartsJoin : Type 0
PartsJoin = (s : Spec) (scope : Scope) (n : Places) (part : Spec) (c other narrow : Rankings) → IsSpecification s
    → IsPartOf s scope n part → HasShape s.relations c → IsNarrowed s.relations n c narrow
    → AreSameBeyond s.relations scope c other
    → IsConsistent part narrow → IsConsistent s other → IsConsistent s c

-- joining: a completion of a part and one of the rest, each consistent, make a consistent one of the whole
abbrev pub RestsJoin : Type 0
RestsJoin = (s : Spec) (scope : Scope) (n rest_n : Places) (part rest : Spec) (c narrow rest_narrow : Rankings)
    → IsSpecification s
    → IsPartOf s scope n part → IsPartOf s (λ rel ent. not (scope rel ent)) rest_n rest
    → HasShape s.relations c → IsNarrowed s.relations n c narrow → IsNarrowed s.relations rest_n c rest_narrow
    → IsConsistent part narrow → IsConsistent rest rest_narrow → IsConsistent s c

-- facts: of two rows of a part, one stands before the other in it exactly where it does in the whole
abbrev pub PairsAreKept : Type 0
PairsAreKept = (s : Spec) (scope : Scope) (n : Places) (part : Spec) (c narrow : Rankings) → IsSpecification s
    → IsPartOf s scope n part → IsCompletion s.relations c → HasShape part.relations narrow → IsNarrowed s.relations n c narrow
    → (rel : ℕ) (r : Relation) → slice_get s.relations rel ≡ Some r → (attr : ℕ) → attr < length r.attrs
    → (x y old_x old_y : RowId) → slice_get (rows_in n rel) x.0 ≡ Some old_x → slice_get (rows_in n rel) y.0 ≡ Some old_y
    → Before (lists_of narrow rel attr) x y ↔ Before (lists_of c rel attr) old_x old_y

-- facts: an entity of a part has in it the current values that it has in the whole
abbrev pub ValuesAreKept : Type 0
ValuesAreKept = (s : Spec) (scope : Scope) (n : Places) (part : Spec) (c narrow : Rankings) → IsSpecification s
    → IsPartOf s scope n part → HasShape part.relations narrow → IsNarrowed s.relations n c narrow
    → (rel : ℕ) (r new : Relation) → slice_get s.relations rel ≡ Some r → slice_get part.relations rel ≡ Some new
    → (attr : ℕ) → attr < length r.attrs → (k : ℕ) (ent : EntId) → slice_get (entities_in n rel) k ≡ Some ent
    → current_value narrow rel new.rows attr k ≡ current_value c rel r.rows attr ent.0
