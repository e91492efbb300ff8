use Rattle.std.proofs.Common.{◌≤◌, ◌-◌, length, vec_len}
use Rattle.solver_guides.specs.Rings.{HaveRoom}
use Rattle.solver_guides.proofs.Asked.{AreSoFar}
use Rattle.solver_guides.proofs.ring.Guides.fit_all.Given as goal

abbrev pub invariant-loop-place : goal.invariant-loop-place
invariant-loop-place g l = record {
  fewer : vec_len l.self.guides ≤ vec_len l.initial.self.guides;
  room : HaveRoom (λ guide. (goal.Guide-dyn g (guide.vtable, guide.value)).has_room guide.value) (length l.start)
      l.self.guides.items l.place;
  left : AreSoFar (λ guide. (goal.Guide-dyn g (guide.vtable, guide.value)).may_fit guide.value) (length l.start)
      l.initial.self.guides.items l.self.guides.items l.place;
}

abbrev pub decreases-loop-place : goal.decreases-loop-place
decreases-loop-place g l = vec_len l.self.guides - l.place
