use Rattle.std.proofs.Common.{arith}
use Rattle.search_trail.proofs.Fits.{levels_few, lits_few}
use Rattle.search_trail.proofs.trail.Trail.depth.Goals as goal

pub overflow_cast-result : goal.overflow_cast-result
overflow_cast-result c =
    let is = c.self.invariant in
    omega (arith, is.few, levels_few _ _ _ _ _ _ _ _ is, lits_few _ _ _ _ _ _ _ _ is)
