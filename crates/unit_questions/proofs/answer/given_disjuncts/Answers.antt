use Rattle.std.proofs.Common.{◌≡◌, ◌∙◌, ◌+◌, [], ◌∷◌, ◌++◌, drop, length, refl, sym, ap}
use Rattle.std.proofs.lemmas.Option.{slice_get_read}
use Rattle.unit_questions.specs.Substituted.{fits_head, given_disjuncts, given_value}
use Rattle.unit_questions.proofs.Walks.{disjunct_put, disjunct_left}
use Rattle.unit_questions.proofs.answer.given_disjuncts.Goals as goal
use Rattle.unit_questions.proofs.answer.given_disjuncts.Goals.{then-fits_head+in_ok-given_disjunct+in_ok-push, else-fits_head}

pub loop-disjunct-preserved : goal.loop-disjunct-preserved
loop-disjunct-preserved c =
    let tuple = c.args.tuple.now in
    let ds = c.args.disjuncts.now in
    let d = c.disjunct-item.result in
    let at = c.loop-disjunct.disjunct-index in
    let done = c.loop-disjunct.list in
    let here = slice_get_read ds (length ds) at d refl c.loop-disjunct-test.true c.disjunct-item.is in
    let fits : c.fits_head.result ≡ fits_head (given_value d.head tuple) d.head tuple =
    c.fits_head.ensures ∙ ap (λ h. fits_head (given_value h tuple) h tuple) c.as_slice.ensures in
    elim c.if-fits_head.branch [
      | then-fits_head+in_ok-given_disjunct+in_ok-push w ↦
          ap (λ l. l ++ given_disjuncts tuple (drop (at + 1) ds))
          (w.list-is ∙ w.in_ok-push.ensures.ok ∙ ap (λ e. done ++ e ∷ []) w.in_ok-given_disjunct.ensures)
          ∙ disjunct_put tuple ds at d done _ here (sym fits ∙ w.if-fits_head.true) c.loop-disjunct.invariant
      | else-fits_head w ↦
          ap (λ l. l ++ given_disjuncts tuple (drop (at + 1) ds)) w.list-is
          ∙ disjunct_left tuple ds at d done _ here (sym fits ∙ w.if-fits_head.false) c.loop-disjunct.invariant
    ]
