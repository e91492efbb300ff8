use Rattle.std.proofs.Common.{◌<◌, List, true, get_or, length, set, subst, sym, arith}
use Rattle.std.proofs.lemmas.List.{take_more}
use Rattle.currency_base.specs.declared.ids.RelId.{RelId}
use Rattle.value_candidates.specs.Steps.{AreMarks}
use Rattle.value_candidates.proofs.Marking.{marks_more}
use Rattle.value_candidates.proofs.asked.asked_marks.Goals as goal

pub loop-rel-preserved : goal.loop-rel-preserved
loop-rel-preserved c =
    let rels = c.args.rels.now in
    let i = c.loop-rel.rel-index in
    let below : i < length rels = omega arith in
    let none : RelId = record { 0 = 0 } in
    let rel = get_or rels i none in
    subst (λ (l : List RelId). AreMarks l c.args.count (set c.loop-rel.marks.items rel.0 true))
    (sym (take_more rels i none below))
    (marks_more _ c.args.count c.loop-rel.marks.items rel (c.requires i none below) c.loop-rel.invariant)
