-- Of a part's rows the same stand before others, and the same values are current, in the part as in the whole.
use Rattle.std.proofs.Common.{◌≡◌, ◌<◌, ◌∙◌, ◌-◌, ℕ, List, Option, Some, None, map, option_map, length, slice_get, refl, sym, ap}
use Rattle.std.proofs.lemmas.List.{length-map}
use Rattle.std.proofs.lemmas.Option.{get_or_from_slice_get, slice_get-map}
use Rattle.currency_base.specs.declared.ids.EntId.{EntId}
use Rattle.currency_base.specs.declared.ids.RowId.{RowId}
use Rattle.denial_rules.specs.Instances.{field_value}
use Rattle.spec_model.specs.Current.{last_row}
use Rattle.part_laws.specs.Laws.{PairsAreKept, ValuesAreKept}
use Rattle.part_laws.specs.Parts.{whole_row}
use Rattle.part_laws.proofs.Rows.{Cut, IsCut, list_at, row_cut}
use Rattle.part_laws.proofs.Listed.{listed_row, before_whole, before_part}
use Rattle.part_laws.proofs.Cuts.{Parted, IsParted, cut_at, is_cut, part_there, listed_in}

pub pairs_are_kept : PairsAreKept
pairs_are_kept s scope n part c narrow whole_is of completion shape narrowed rel r at attr inside x y old_x old_y at_x at_y =
    let p : Parted = record { s = s; scope = scope; n = n; part = part; c = c; narrow = narrow } in
    let is : IsParted p = record { whole_is = whole_is; of = of; shape = shape; narrowed = narrowed } in
    let new = part_there p rel r is at in
    let cut = is_cut p rel r new.0 is at new.1 in
    let k = cut_at p rel r new.0 in (
      before_whole k attr x y old_x old_y cut inside at_x at_y,
      before_part k attr x y old_x old_y cut inside (listed_in s.relations c rel r completion at attr inside) at_x at_y,
    )

-- the value of the last row of a list of the part
last_value : (k : Cut) (attr ent : ℕ) (old : EntId) → IsCut k → attr < length k.whole.attrs → slice_get k.entities ent ≡ Some old
    → field_value k.part.rows (last_row (list_at k.part_lists attr ent)) attr
    ≡ field_value k.whole.rows (last_row (list_at k.lists attr old.0)) attr
last_value k attr ent old is inside at =
    go (last_row list) refl ∙ sym (ap (λ (o : Option RowId). field_value k.whole.rows o attr) last)
  where
    list : List RowId
    list = list_at k.part_lists attr ent

    last : last_row (list_at k.lists attr old.0) ≡ option_map (whole_row k.rows) (last_row list)
    last =
        ap last_row (is.same attr inside ent old at)
        ∙ (ap (λ (m : ℕ). slice_get (map (whole_row k.rows) list) (m - 1)) (length-map list (whole_row k.rows))
        ∙ slice_get-map (whole_row k.rows) list (length list - 1))

    go : (o : Option RowId) → last_row list ≡ o
        → field_value k.part.rows (last_row list) attr ≡ field_value k.whole.rows
        (option_map (whole_row k.rows) (last_row list)) attr
    go None e =
        ap (λ (o : Option RowId). field_value k.part.rows o attr) e
        ∙ sym (ap (λ (o : Option RowId). field_value k.whole.rows (option_map (whole_row k.rows) o) attr) e)
    go (Some row) e =
        let found = listed_row k attr ent (length list - 1) row is e in
        let same = get_or_from_slice_get k.rows row.0 found.0 row found.1 in
        ap (λ (o : Option RowId). field_value k.part.rows o attr) e
        ∙ ((row_cut k row found.0 is found.1).value attr
        ∙ (ap (λ (x : RowId). field_value k.whole.rows (Some x) attr) (sym same)
        ∙ sym (ap (λ (o : Option RowId). field_value k.whole.rows (option_map (whole_row k.rows) o) attr) e)))

pub values_are_kept : ValuesAreKept
values_are_kept s scope n part c narrow whole_is of shape narrowed rel r new at at_new attr inside ent old at_ent =
    let p : Parted = record { s = s; scope = scope; n = n; part = part; c = c; narrow = narrow } in
    let is : IsParted p = record { whole_is = whole_is; of = of; shape = shape; narrowed = narrowed } in
    last_value (cut_at p rel r new) attr ent old (is_cut p rel r new is at at_new) inside at_ent
