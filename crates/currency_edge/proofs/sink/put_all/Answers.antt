use Rattle.std.proofs.Common.{arith}
use Rattle.std.proofs.lemmas.List.{take_rest, length-drop}
use Rattle.currency_edge.proofs.Written.{appended_more, appended_part}
use Rattle.currency_edge.proofs.sink.put_all.Goals as goal

pub loop-at-preserved : goal.loop-at-preserved
loop-at-preserved g c =
    let before = c.loop-at.invariant in
    let here = c.in-Ok.ensures in
    let bound = simp (take_rest, length-drop) at here.bound in
    record {
      within = omega arith;
      later = omega (arith, before.later, here.later);
      so_far = appended_more _ _ _ _ _ _ before.within before.so_far here.appends;
    }

pub returns-in-Err-clause-part : goal.returns-in-Err-clause-part
returns-in-Err-clause-part g c =
    appended_part _ _ _ _ _ c.loop-at.invariant.so_far c.in-Err.ensures.refused
