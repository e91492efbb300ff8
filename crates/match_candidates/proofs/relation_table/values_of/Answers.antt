use Rattle.std.proofs.Common.{◌+◌, ◌∙◌, ◌∷◌, [], Bor, Vec, Global, List, get_or, map, subst, sym, take, ap}
use Rattle.std.proofs.lemmas.List.{map-append, take_more}
use Rattle.currency_base.specs.declared.ids.RowId.{RowId}
use Rattle.currency_base.specs.declared.value.Value.{Value}
use Rattle.match_candidates.specs.Tables.{AreOfRows}
use Rattle.match_candidates.proofs.Listed.{row_with, row_without}
use Rattle.match_candidates.proofs.relation_table.values_of.Goals as goal
use Rattle.match_candidates.proofs.relation_table.values_of.Goals.{in-Some+in_ok-push, in_default}

pub loop-row-preserved : goal.loop-row-preserved
loop-row-preserved c =
    let i = c.loop-row.row-index in
    let first : RowId = record { 0 = 0 } in
    let ms = c.args.members.now in
    let after = take_more ms i first c.loop-row-test.true in
    let values : List (Bor Value) → List Value = map (λ v. v.now) in
    elim c.match-value_at.branch [
      | in-Some+in_ok-push w ↦
          row_with c.args.rows.now (take i ms) (take (i + 1) ms) c.args.attr (values c.loop-row.list.items)
          (get_or ms i first) after
          c.loop-row.invariant w.in-Some.value.now (values c.match-value_at.list.items) (sym w.in-Some.ensures)
          (ap (λ (v : Vec (Bor Value) Global). values v.items) w.list-is ∙ ap values w.in_ok-push.ensures.items
          ∙ map-append (λ (v : Bor Value). v.now) c.loop-row.list.items (w.in-Some.value ∷ []))
      | in_default w ↦
          subst (AreOfRows c.args.rows.now (take (i + 1) ms) c.args.attr) (sym (ap (λ (v : Vec
          (Bor Value) Global). values v.items) w.list-is))
          (row_without c.args.rows.now (take i ms) (take (i + 1) ms) c.args.attr (values c.loop-row.list.items)
          (get_or ms i first) after
          c.loop-row.invariant (sym w.in_default.ensures))
    ]
