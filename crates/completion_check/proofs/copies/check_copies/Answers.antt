use Rattle.std.proofs.Common.{length, refl, arith}
use Rattle.std.proofs.lemmas.Option.{slice_get_within, slice_get_read}
use Rattle.copy_functions.specs.Copies.{CopyFunction}
use Rattle.completion_check.specs.CopyBreaks.{NoneBreaksCopy}
use Rattle.completion_check.proofs.Kept.{each_at_more}
use Rattle.completion_check.proofs.Places.{get_of_take}
use Rattle.completion_check.proofs.copies.check_copies.Goals as goal

pub returns-in-Some-clause-err : goal.returns-in-Some-clause-err
returns-in-Some-clause-err c =
    let copies = c.args.copies.now in
    let copy = c.index-copies-at.result in
    record {
      copy = copy;
      is_copy = slice_get_read copies (length copies) c.loop-at.at copy refl c.loop-at-test.true c.index-copies-at.is;
      breaks = c.in-Some.ensures.some;
      earlier = λ k q at. let found = get_of_take copies c.loop-at.at k q at in c.loop-at.invariant k q found.0 found.1;
    }

pub loop-at-preserved : goal.loop-at-preserved
loop-at-preserved c =
    let copies = c.args.copies.now in
    let copy = c.index-copies-at.result in
    let at = slice_get_read copies (length copies) c.loop-at.at copy refl c.loop-at-test.true c.index-copies-at.is in
    each_at_more (λ _ (q : CopyFunction). NoneBreaksCopy c.args.relations.now c.args.places.now q) copies
    c.loop-at.at copy at c.in_default.ensures.none c.loop-at.invariant

pub returns-clause-ok : goal.returns-clause-ok
returns-clause-ok c = λ k copy at. c.loop-at.invariant k copy (omega (arith, slice_get_within c.args.copies.now k copy at)) at
