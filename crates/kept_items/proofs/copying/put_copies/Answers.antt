use Rattle.std.proofs.Common.{◌∷◌, ◌++◌, [], sym, subst}
use Rattle.spec_model.specs.Facts.{AreCopies}
use Rattle.kept_items.specs.Steps.{marked_copies, marked_copy}
use Rattle.kept_items.proofs.Places.{read_item}
use Rattle.kept_items.proofs.Putting.{copy_fits}
use Rattle.kept_items.proofs.copying.put_copies.Goals as goal

pub put_copy-requires-clause-fits : goal.put_copy-requires-clause-fits
put_copy-requires-clause-fits c =
    let relations = c.args.whole.now.relations in
    let copies = c.args.whole.now.copies in
    let items = c.copies-copy-items in
    let copy = c.copy-item.result in
    let now = c.loop-copy.part in
    let here = read_item copies items.result.now c.loop-copy.copy-index copy items.ensures.value
    c.loop-copy-test.true c.copy-item.is in
    let fits = subst (λ rs. AreCopies rs (marked_copies relations c.args.marks.now c.args.at.now copies))
    (sym c.loop-copy.invariant.relations) c.requires.fits in
    subst (λ rs. AreCopies now.relations (now.copies ++ marked_copy rs c.args.marks.now c.loop-copy.at copy ∷ []))
    (sym c.relations.ensures.value)
    (copy_fits now.relations relations c.args.marks.now c.loop-copy.at copies c.loop-copy.copy-index copy now.copies _ fits here
    c.loop-copy.invariant.kept)
