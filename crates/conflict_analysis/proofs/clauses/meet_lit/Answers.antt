use Rattle.std.proofs.Common.{◌≡◌, ◌<◌, length, arith}
use Rattle.std.proofs.lemmas.Option.{slice_get_within}
use Rattle.std.proofs.lemmas.Result.{on_ok_weaker}
use Rattle.conflict_analysis.proofs.Literals.{assigned_given, assigned_within, meets_more}
use Rattle.conflict_analysis.proofs.clauses.meet_lit.Goals as goal

pub place_of-place-requires-clause-given : goal.place_of-place-requires-clause-given
place_of-place-requires-clause-given c = assigned_given c.args.trail.now c.args.lit c.requires.assigned

pub place_of-place-requires-clause-within : goal.place_of-place-requires-clause-within
place_of-place-requires-clause-within c = assigned_within c.args.trail.now c.args.lit c.are_entries.ensures c.requires.assigned

pub meet-requires-clause-within : goal.meet-requires-clause-within
meet-requires-clause-within c =
    let there = slice_get_within c.args.trail.now.entries c.place_of-place.result c.place_of-place.ensures.entry
    c.place_of-place.ensures.is_entry in
    omega (arith, there, c.requires.long)

pub meet-requires-clause-there : goal.meet-requires-clause-there
meet-requires-clause-there c = slice_get_within c.args.trail.now.entries c.place_of-place.result
    c.place_of-place.ensures.entry c.place_of-place.ensures.is_entry

pub returns-clause-ok : goal.returns-clause-ok
returns-clause-ok c =
    let s = c.place_of-place.ensures in
    let there = slice_get_within c.args.trail.now.entries c.place_of-place.result s.entry s.is_entry in
    let within : c.place_of-place.result < length c.args.found.now.seen = omega (arith, there, c.requires.long) in
    on_ok_weaker c.meet.result
    (λ (is : c.meet.new.self ≡ _) front old m. rw is (meets_more c.args.trail.now.entries c.args.bounds.base
    c.args.bounds.level c.are_entries.ensures.once front c.args.lit old c.args.found.now m
    c.place_of-place.result s.entry s.is_entry s.is_of within))
    c.meet.ensures.ok
