use Rattle.std.proofs.Common.{◌≡◌, ◌-◌, ℕ, List, Option, length}
use Rattle.currency_base.specs.declared.lit.Lit.{Lit}
use Rattle.clause_arena.specs.Arenas.{IsWatched}
use Rattle.search_trail.specs.Trails.{Trail}
use Rattle.search_state.specs.Held.{AreHeld}
use Rattle.search_state.proofs.leaving.drop_supersets.Given as goal

abbrev pub invariant-loop-hint : goal.invariant-loop-hint
invariant-loop-hint l = record {
  part : IsWatched l.arena (l.count - 1);
  held : (clauses : List (List Lit)) (t : Trail) (refuted : Option ℕ) → AreHeld clauses l.initial.arena t refuted
      → AreHeld clauses l.arena t refuted;
  clauses : l.arena.clauses ≡ l.initial.arena.clauses;
  watchers : length l.arena.watchers ≡ length l.initial.arena.watchers;
}
