use Rattle.std.proofs.Common.{◌≡◌, ◌<◌, ◌≤◌, ⊎_elim, arith}
use Rattle.std.proofs.lemmas.Bool.{cases_lt}
use Rattle.completion_check.proofs.Places.{ranking_from_marks, not_ranking}
use Rattle.completion_check.proofs.marks.first_unranked.Goals as goal

pub returns-clause-ranked : goal.returns-clause-ranked
returns-clause-ranked c = λ ent below.
    ranking_from_marks c.args.rows.now ent _ _ (c.mark_lists-bad.ensures.marks ent (omega arith))
    (λ row e. c.first_unmarked.ensures.marked row ent e below)

pub returns-clause-refused : goal.returns-clause-refused
returns-clause-refused c = λ below.
    let bad = c.mark_lists-bad.result in
    let first = c.first_unmarked.result in
    ⊎_elim
    (λ (lower : first < bad).
    let found = c.first_unmarked.ensures.unmarked lower in
    not_ranking c.args.rows.now first found.0 _ _ (c.mark_lists-bad.ensures.marks first lower) found.1 found.2)
    (λ (not_lower : bad ≤ first).
    let is : bad ≡ first = omega arith in
    rw is at (c.mark_lists-bad.ensures.refused (omega arith)))
    (cases_lt first bad)
