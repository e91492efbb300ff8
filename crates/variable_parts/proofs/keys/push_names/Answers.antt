use Rattle.std.proofs.Common.{◌<◌, ◌++◌, ◌∷◌, ◌∙◌, ℕ, Vec, Global, [], true, false, length, map, sym, ap, arith}
use Rattle.std.proofs.lemmas.List.{append-nil, length-map}
use Rattle.std.proofs.lemmas.List.FromFn.{length-map-range_with_len}
use Rattle.currency_base.specs.declared.ids.RowId.{RowId}
use Rattle.value_names.specs.Names.{firsts_of, name_of, names_of, row_ids}
use Rattle.value_names.proofs.NameFacts.{name_at}
use Rattle.variable_parts.specs.Told.{row_key, rows_in}
use Rattle.variable_parts.proofs.BlockKeys.{names_end, names_left, names_more, rest_none}
use Rattle.variable_parts.proofs.keys.push_names.Goals.{then-is_name+in_ok-push, else-is_name}
use Rattle.variable_parts.proofs.keys.push_names.Goals as goal

pub loop-row-preserved : goal.loop-row-preserved
loop-row-preserved c =
    let d = c.args.source.now in
    let rel = c.args.rel in
    let names = names_of (rows_in d rel) c.args.attr.0 in
    let row = c.loop-row.row in
    let keys = c.loop-row.keys.items in
    let id : RowId = record { 0 = row } in
    let within : row < length (rows_in d rel) = omega (arith, c.loop-row-test.true, c.rows-row-end.ensures.value) in
    let whole = c.args.keys.now.items ++ map (row_key d rel) (firsts_of names) in
    let name = name_of (rows_in d rel) c.args.attr.0 id in
    let at = name_at (rows_in d rel) c.args.attr.0 id within in
    elim c.if-is_name.branch [
      | then-is_name+in_ok-push w ↦
          names_more d rel names row name true keys whole c.if-is_name.keys.items at (sym w.if-is_name.true ∙ c.is_name.ensures)
          c.loop-row.invariant
          (ap (λ (v : Vec ℕ Global). v.items) w.keys-is ∙ (w.in_ok-push.ensures.items
          ∙ ap (λ part. keys ++ part ∷ []) w.part.ensures))
      | else-is_name w ↦
          names_more d rel names row name false keys whole c.if-is_name.keys.items at (sym w.if-is_name.false ∙ c.is_name.ensures)
          c.loop-row.invariant
          (ap (λ (v : Vec ℕ Global). v.items) w.keys-is ∙ sym (append-nil keys))
    ]

pub returns : goal.returns
returns c =
    let d = c.args.source.now in
    let rel = c.args.rel in
    let rows = rows_in d rel in
    let names = names_of rows c.args.attr.0 in
    let row = c.loop-row.row in
    rest_none c.loop-row.keys.items (names_left d rel names row) (c.args.keys.now.items ++ map (row_key d rel) (firsts_of names))
    c.loop-row.invariant (names_end d rel names row (omega (
      arith,
      c.loop-row-test.false,
      c.rows-row-end.ensures.value,
      length-map (row_ids (length rows)) (name_of rows c.args.attr.0),
      length-map-range_with_len {X = RowId} (λ at. record { 0 = at }) 0 (length rows),
    )))
