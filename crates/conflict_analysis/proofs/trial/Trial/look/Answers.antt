use Rattle.std.proofs.Common.{arith}
use Rattle.std.proofs.lemmas.Option.{slice_get_within}
use Rattle.conflict_analysis.proofs.Literals.{assigned_given, assigned_within}
use Rattle.conflict_analysis.proofs.trial.Trial.look.Goals as goal

pub place_of-place-requires-clause-given : goal.place_of-place-requires-clause-given
place_of-place-requires-clause-given c = assigned_given c.args.trail.now c.args.lit c.requires.assigned

pub place_of-place-requires-clause-within : goal.place_of-place-requires-clause-within
place_of-place-requires-clause-within c = assigned_within c.args.trail.now c.args.lit c.are_entries.ensures c.requires.assigned

pub is_met-requires : goal.is_met-requires
is_met-requires c =
    let there = slice_get_within c.args.trail.now.entries c.place_of-place.result c.place_of-place.ensures.entry
    c.place_of-place.ensures.is_entry in
    omega (arith, there, c.requires.long)
