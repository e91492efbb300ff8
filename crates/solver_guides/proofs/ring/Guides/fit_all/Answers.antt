use Rattle.std.proofs.Common.{rules, length, refl, arith}
use Rattle.solver_guides.proofs.Asked.{all_asked, one_goes, one_stays, room_goes, room_stays}
use Rattle.solver_guides.proofs.ring.Guides.fit_all.Goals as goal

pub loop-place-preserved-then-is_fitted : goal.loop-place-preserved-then-is_fitted
loop-place-preserved-then-is_fitted g c = record {
  fewer = search rules;
  room = room_stays (λ guide. (goal.Guide-dyn g (guide.vtable, guide.value)).has_room guide.value) (length c.args.start.now)
      _ _ _ _ _ refl c.if-is_fitted.true c.is_fitted.ensures.room c.loop-place.invariant.room;
  left = one_stays _ _ _ _ _ _ _ _ _ (omega (arith, c.len.ensures, c.loop-place-test.true)) c.index_mut.ensures.value refl
      c.if-is_fitted.true c.is_fitted.ensures.told c.loop-place.invariant.left;
}

pub loop-place-preserved : goal.loop-place-preserved
loop-place-preserved g c = record {
  fewer = search rules;
  room = room_goes (λ guide. (goal.Guide-dyn g (guide.vtable, guide.value)).has_room guide.value) (length c.args.start.now)
      _ _ _ _ c.remove.ensures.items c.loop-place.invariant.room;
  left = one_goes _ _ _ _ _ _ _ _ _ (omega (arith, c.len.ensures, c.loop-place-test.true)) c.index_mut.ensures.value
      c.remove.ensures.items c.if-is_fitted.false c.is_fitted.ensures.told c.loop-place.invariant.left;
}

pub returns-clause-left : goal.returns-clause-left
returns-clause-left g c =
    all_asked _ _ _ _ _ (omega (arith, c.len.ensures, c.loop-place-test.false)) c.loop-place.invariant.left
