use Rattle.std.proofs.Common.{◌+◌, length, refl, arith}
use Rattle.currency_base.specs.declared.ids.CopyId.{CopyId}
use Rattle.forced_closure.specs.Clauses.{OfCopy, OfCopies}
use Rattle.forced_closure.proofs.Adding.{adds_none, adds_then, adds_as, copies_cases}
use Rattle.forced_closure.proofs.copied.add_copies.Goals as goal

pub loop-copy-init : goal.loop-copy-init
loop-copy-init c = adds_none c.args.subject.now c.args.gathered.now (OfCopies c.args.subject.now 0)
    (λ o is. absurd (omega (arith, is.below)))

pub loop-copy-preserved : goal.loop-copy-preserved
loop-copy-preserved c =
    let k : CopyId = record { 0 = c.loop-copy.copy } in
    adds_then c.args.subject.now c.args.gathered.now c.loop-copy.gathered c.add_copy.new.gathered
    (OfCopies c.args.subject.now c.loop-copy.copy) (OfCopy c.args.subject.now k)
    (OfCopies c.args.subject.now (c.loop-copy.copy + 1)) c.loop-copy.invariant c.in_ok-add_copy.ensures
    (λ o is. copies_cases c.args.subject.now c.loop-copy.copy k o refl is)

pub returns : goal.returns
returns c =
    adds_as c.args.subject.now c.args.gathered.now c.loop-copy.gathered (OfCopies c.args.subject.now c.loop-copy.copy)
    (OfCopies c.args.subject.now (length c.args.subject.now.spec.copies)) c.loop-copy.invariant
    (λ o is. record { k = is.k; below = omega (arith, is.below); of = is.of })
