use Rattle.std.proofs.Common.{◌+◌, length, sym, ap, subst, arith}
use Rattle.std.proofs.lemmas.Result.{on_ok_weaker}
use Rattle.spec_model.specs.Spec.{Spec}
use Rattle.spec_parts.specs.Steps.{AreCopiesSoFar}
use Rattle.spec_parts.proofs.CopyCuts.{copy_cut_of, copy_fits, copies_next}
use Rattle.spec_parts.proofs.Pairing.{read_item}
use Rattle.spec_parts.proofs.copies.put_copy.Goals as goal

pub copy_between-requires : goal.copy_between-requires
copy_between-requires c =
    let whole = c.args.whole.now in
    let same = ap length c.copies.ensures.value in
    let at = read_item whole.copies c.copies.result.now c.args.at c.index-copies-at.result c.copies.ensures.value
    (omega (arith, same, c.requires.within))
    c.index-copies-at.is in
    copy_cut_of whole.relations whole.copies c.args.places.now c.args.part.now.relations c.requires.cut c.requires.relations
    c.requires.facts c.requires.closed
    c.args.at c.index-copies-at.result at

pub add_copy-requires : goal.add_copy-requires
add_copy-requires c =
    let whole = c.args.whole.now in
    let same = ap length c.copies.ensures.value in
    let at = read_item whole.copies c.copies.result.now c.args.at c.index-copies-at.result c.copies.ensures.value
    (omega (arith, same, c.requires.within))
    c.index-copies-at.is in
    copy_fits whole.relations whole.copies c.args.places.now c.args.part.now.relations c.requires.cut
    c.requires.relations c.requires.facts
    c.args.at c.index-copies-at.result c.in_ok-copy.copy c.args.part.now.copies at c.requires.so_far c.in_ok-copy.ensures.part
    c.is_specification.ensures.copies c.in_ok-copy.ensures.copied

pub returns-clause-so_far : goal.returns-clause-so_far
returns-clause-so_far c =
    let whole = c.args.whole.now in
    let same = ap length c.copies.ensures.value in
    let at = read_item whole.copies c.copies.result.now c.args.at c.index-copies-at.result c.copies.ensures.value
    (omega (arith, same, c.requires.within))
    c.index-copies-at.is in
    let next = copies_next whole.relations whole.copies c.args.places.now c.args.part.now.relations c.requires.cut
    c.requires.relations
    c.requires.facts
    c.args.at c.index-copies-at.result c.in_ok-copy.copy c.args.part.now.copies at c.requires.so_far c.in_ok-copy.ensures.part in
    on_ok_weaker c.add_copy.result
    (λ e. subst (λ (s : Spec). AreCopiesSoFar c.args.places.now whole.copies (c.args.at + 1) s.copies) (sym e) next)
    c.add_copy.ensures.ok
