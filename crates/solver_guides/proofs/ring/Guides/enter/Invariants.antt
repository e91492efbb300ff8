use Rattle.std.proofs.Common.{◌≡◌, vec_len}
use Rattle.solver_guides.proofs.ring.Guides.enter.Given as goal

abbrev pub invariant-loop-place : goal.invariant-loop-place
invariant-loop-place g l = record {
  count : vec_len l.self.guides ≡ vec_len l.initial.self.guides;
  at : l.self.at ≡ l.initial.self.at;
}
