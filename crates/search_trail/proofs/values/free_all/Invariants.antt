use Rattle.std.proofs.Common.{◌≡◌, ◌≤◌, All, length, drop, take}
use Rattle.currency_base.specs.Literals.{var_of}
use Rattle.search_trail.specs.Kept.{freed}
use Rattle.search_trail.proofs.values.free_all.Given as goal

abbrev pub invariant-loop-lit : goal.invariant-loop-lit
invariant-loop-lit l = record {
  so_far : freed l.given.items (drop l.lit-index l.lits) ≡ freed l.initial.given.items l.lits;
  as_long : length l.given.items ≡ length l.initial.given.items;
  least : All (λ lit. l.least ≤ var_of lit) (take l.lit-index l.lits);
}
