use Rattle.std.proofs.Common.{rules, ◌<◌, length, refl}
use Rattle.semi_joins.proofs.Keeping.{joined}
use Rattle.semi_joins.proofs.Marking.{read}
use Rattle.semi_joins.proofs.passes.join.Goals as goal

pub returns : goal.returns
returns c =
    let atoms = c.args.steps.now in
    let kept = c.args.kept.now.items in
    let inside_at : c.args.at < length kept = search rules in
    let inside_by : c.args.by < length kept = search rules in
    joined c.args.instance.now.relations atoms c.args.conditions.now.tests c.args.at c.args.by c.atom.result.now
    c.atom-2.result.now kept _ c.index.result.now c.index-2.result.now c.in_ok-next.next
    (read atoms c.args.at c.atom.result.now c.index-steps-at.result c.if-at-steps.false c.index-steps-at.is c.atom.ensures)
    (read atoms c.args.by c.atom-2.result.now c.index-steps-by.result c.if-by-steps.false c.index-steps-by.is c.atom-2.ensures)
    (read kept c.args.at c.index.result.now c.index.result.now inside_at c.index.ensures refl)
    (read kept c.args.by c.index-2.result.now c.index-2.result.now inside_by c.index-2.ensures refl)
    c.in_ok-next.ensures refl
