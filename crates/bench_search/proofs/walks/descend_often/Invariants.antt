use Rattle.std.proofs.Common.{◌≡◌, ◌*◌, length}
use Rattle.watch_propagate.specs.WatchRule.{KeepsWatch}
use Rattle.bench_search.proofs.walks.descend_often.Given as goal

abbrev pub invariant-loop : goal.invariant-loop
invariant-loop l = record {
  fits : length l.arena.watchers ≡ 2 * l.trail.vars;
  vars : l.trail.vars ≡ l.vars;
  rule : KeepsWatch l.arena l.trail;
}
