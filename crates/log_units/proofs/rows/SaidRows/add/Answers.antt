use Rattle.std.proofs.Common.{◌≡◌, ◌∷◌, ◌++◌, Some, [], ap, ◌∙◌, subst}
use Rattle.std.specs.Ordering.{is_eq}
use Rattle.log_units.specs.Said.{Adds, has_row, place_cmp, rows_at}
use Rattle.log_units.proofs.Changes.{adds_row, found_at, none_found, put_back, some_found}
use Rattle.log_units.proofs.rows.SaidRows.add.Goals as goal
use Rattle.log_units.proofs.rows.SaidRows.add.Goals.{in-Some, in-None}

pub returns : goal.returns
returns c =
    let old = c.self.inside.map.entries in
    let new = c.insert.new.self.entries in
    let taken : c.match-remove.rows ≡ rows_at old c.args.place =
    elim c.match-remove.branch [
      | in-Some w ↦ some_found old c.args.place c.remove.result c.match-remove.rows w.in-Some.rows
          c.remove.ensures.value w.in-Some.is w.rows-is
      | in-None w ↦ none_found old c.args.place c.remove.result c.match-remove.rows c.remove.ensures.value
          w.in-None.is (w.rows-is ∙ w.new-rows.ensures)
    ] in
    let rows : c.push.new.self ≡ rows_at old c.args.place ++ c.args.row ∷ [] =
    c.in_ok-push.ensures.ok ∙ ap (λ rows. rows ++ c.args.row ∷ []) taken in
    let adds = adds_row old new c.args.place c.args.row c.push.new.self rows
    (λ q. put_back (is_eq (place_cmp c.args.place q)) (found_at new q) (found_at old q)
    (found_at c.remove.new.self.entries q) c.push.new.self
    (c.in_ok-insert.ensures.updates.0 q) (c.remove.ensures.updates.0 q)) in
    subst (λ entries. Adds (has_row entries) (has_row new) (Some record { place = c.args.place; row = c.args.row }))
    c.self.view_is adds
