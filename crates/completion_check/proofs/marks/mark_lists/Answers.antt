use Rattle.std.proofs.Common.{◌≡◌, [], ⊎_elim, arith}
use Rattle.std.proofs.lemmas.Bool.{cases_eq}
use Rattle.std.proofs.lemmas.List.{get_or_read}
use Rattle.completion_check.proofs.Places.{marks_kept, unmarked_kept}
use Rattle.completion_check.proofs.marks.mark_lists.Goals as goal

pub loop-ent-preserved : goal.loop-ent-preserved
loop-ent-preserved c =
    let same = c.mark_list.ensures.elsewhere in
    record {
      marks = λ ent below. ⊎_elim
          (λ (is : ent ≡ c.loop-ent.ent).
          let read = get_or_read c.args.lists.now c.loop-ent.ent c.index-lists-ent.result c.loop-ent-test.true
          c.index-lists-ent.is [] in
          rw is (rw (c.as_slice.ensures, read) at c.if-not-mark_list.ensures.marks))
          (λ (apart : ent ≡ c.loop-ent.ent → ⊥).
          marks_kept c.args.rows.now c.loop-ent.ent ent _ _ _ same apart (c.loop-ent.invariant.marks ent (omega arith)))
          (cases_eq ent c.loop-ent.ent);
      unmarked = λ ent above.
          unmarked_kept c.args.rows.now c.loop-ent.ent ent _ _ same (omega arith)
          (c.loop-ent.invariant.unmarked ent (omega arith));
    }
