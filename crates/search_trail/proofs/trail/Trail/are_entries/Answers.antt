use Rattle.std.proofs.Common.{subst}
use Rattle.search_trail.specs.Trails.{AreEntries}
use Rattle.search_trail.proofs.Fits.{fits_entries}
use Rattle.search_trail.proofs.trail.Trail.are_entries.Goals as goal

pub returns : goal.returns
returns c = subst AreEntries c.self.view_is (fits_entries _ _ _ _ _ _ _ _ c.self.invariant _)
