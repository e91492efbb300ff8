-- The rows of the entities of a relation.
use Rattle.std.proofs.Common.{◌≡◌, ◌∙◌, ◌<◌, ℕ, List, [], Some, length, get_or, slice_get, sym, subst, arith}
use Rattle.std.proofs.lemmas.Option.{get_or_from_slice_get, slice_get-get_or, slice_get_within}
use Rattle.currency_base.specs.declared.ids.RowId.{RowId}
use Rattle.entity_rows.specs.Members.{AreEntityRows}
use Rattle.log_axioms.specs.Entities.{AreIndexed}
use Rattle.spec_model.specs.declared.relation.Relation.{Relation}

pub rows_there : (relations : List Relation) (rows : List (List (List RowId))) (rel : ℕ) (lists : List (List RowId))
    (r : Relation)
    → AreIndexed relations rows → lists ≡ get_or rows rel lists → slice_get relations rel ≡ Some r
    → AreEntityRows r.rows (length r.entities) lists
rows_there relations rows rel lists r are read here =
    let within : rel < length rows =
    (let many = are.per_relation in let low = slice_get_within relations rel r here in omega (arith, many, low)) in
    let at : slice_get rows rel ≡ Some (get_or rows rel lists) = slice_get-get_or rows rel lists within in
    subst (AreEntityRows r.rows (length r.entities)) (get_or_from_slice_get rows rel (get_or rows rel lists) [] at
    ∙ sym read) (are.each rel r here)
