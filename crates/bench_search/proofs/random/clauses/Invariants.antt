use Rattle.std.proofs.Common.{◌≡◌, ◌*◌, length}
use Rattle.bench_search.proofs.random.clauses.Given as goal

abbrev pub invariant-loop : goal.invariant-loop
invariant-loop l = length l.arena.watchers ≡ 2 * l.vars
