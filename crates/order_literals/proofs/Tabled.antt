-- The tables of relations, one by one.
use Rattle.std.proofs.Common.{◌≡◌, ◌+◌, ℕ, suc, Bool, true, false, List, [], ◌∷◌, ◌++◌, Some, IfSome, length, take, get_or, slice_get, refl, ap, arith}
use Rattle.std.specs.List.{range_with_len}
use Rattle.std.proofs.lemmas.List.Elements.{All-map}
use Rattle.std.proofs.lemmas.List.FromFn.{length-map-range_with_len}
use Rattle.std.proofs.lemmas.List.{take_more, take_all, length-map}
use Rattle.std.proofs.lemmas.Option.{get_or_from_slice_get, slice_get_within}
use Rattle.currency_base.specs.declared.ids.RelId.{RelId}
use Rattle.currency_base.specs.declared.ids.RowId.{RowId}
use Rattle.entity_lists.specs.Lists.{entities_of}
use Rattle.spec_model.specs.declared.relation.Relation.{Relation}
use Rattle.order_literals.specs.Numbers.{Numbered, is_wanted, numbered, tables_from, value_names_of}
use Rattle.value_names.specs.Names.{row_ids, name_of, names_of}
use Rattle.order_literals.specs.Held.{AreNames}
use Rattle.order_literals.specs.Layout.{numbered_as}
use Rattle.order_literals.proofs.Callers.{table_at}
use Rattle.order_literals.proofs.Lengths.{count_of_row_ids}

-- there are as many as relations
pub count_of_tables : (currents : List RelId) (first : ℕ) (relations : List Relation)
    → length (tables_from currents first relations) ≡ length relations
count_of_tables currents first [] = refl
count_of_tables currents first (r ∷ relations) = ap suc (count_of_tables currents (first + 1) relations)

-- the table of one more relation
pub table_more : (currents : List RelId) (relations : List Relation) (rel : ℕ) (r : Relation) (xs ys : List Numbered)
    (t : Numbered)
    → slice_get relations rel ≡ Some r → xs ≡ take rel (tables_from currents 0 relations) → t ≡ numbered_as
    (is_wanted currents rel) r
    → ys ≡ xs ++ t ∷ [] → ys ≡ take (rel + 1) (tables_from currents 0 relations)
table_more currents relations rel r xs ys t at before is pushed =
    let tables = tables_from currents 0 relations in
    let here = table_at currents relations rel r at in
    let read = get_or_from_slice_get tables rel (numbered currents rel r) (numbered currents rel r) here in
    let more = take_more tables rel (numbered currents rel r) (slice_get_within tables rel (numbered currents rel r) here) in
    cc

-- the tables of all
pub tables_all : (currents : List RelId) (relations : List Relation) (rel : ℕ) → rel ≡ length relations
    → take rel (tables_from currents 0 relations) ≡ tables_from currents 0 relations
tables_all currents relations rel e =
    let count = count_of_tables currents 0 relations in
    take_all rel (tables_from currents 0 relations) (omega arith)

-- ---- names

-- of each attribute a name for each row
names_fit : (r : Relation) → AreNames (length r.attrs) (length (entities_of r.rows)) (value_names_of r)
names_fit r = record {
  per_attr = length-map-range_with_len (names_of r.rows) 0 (length r.attrs);
  per_row = All-map (λ (list : List RowId). length list ≡ length (entities_of r.rows)) (names_of r.rows)
      (range_with_len 0 (length r.attrs))
      (λ k d within. same (get_or (range_with_len 0 (length r.attrs)) k d));
}
  where
    same : (attr : ℕ) → length (names_of r.rows attr) ≡ length (entities_of r.rows)
    same attr =
        let each = length-map (row_ids (length r.rows)) (name_of r.rows attr) in
        let ids = count_of_row_ids (length r.rows) in
        let rows : length (entities_of r.rows) ≡ length r.rows = length-map r.rows (λ row. row.entity.0) in
        omega arith

-- where they are wanted
pub wanted_fit : (wanted : Bool) (r : Relation) → IfSome (numbered_as wanted r).names
    (AreNames (length r.attrs) (length (entities_of r.rows)))
wanted_fit true r = names_fit r
wanted_fit false r = tt
