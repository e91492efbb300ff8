use Rattle.std.proofs.Common.{◌+◌, ◌-◌, false, length, take}
use Rattle.match_candidates.specs.Found.{Adds}
use Rattle.match_candidates.specs.Meant.{next_left, steps_of}
use Rattle.match_candidates.proofs.Collecting.{ByOne}
use Rattle.match_candidates.proofs.Meanings.{Going, MeantAt, MeantOf}
use Rattle.match_candidates.proofs.search.+search.Given as goal

abbrev pub decreases-search : goal.decreases-search
decreases-search l = (length l.rest.now.terms - l.rest.now.at.place) + steps_of l.rest.now.atoms

abbrev pub invariant-loop-way : goal.invariant-loop-way
invariant-loop-way l =
    let g : Going = record {
      relations = l.source.tables.now;
      tests = l.source.tests.now;
      number = l.source.number;
      ents =
          l.ents;
    } in
    Adds (ByOne (MeantAt g (next_left l.rest)) (take l.way-index l.way-items)) l.initial.found l.found false

abbrev pub invariant-loop-entry : goal.invariant-loop-entry
invariant-loop-entry l =
    let g : Going = record {
      relations = l.source.tables.now;
      tests = l.source.tests.now;
      number = l.source.number;
      ents =
          l.ents;
    } in
    Adds (ByOne (MeantOf g l.atom l.atoms l.values) (take l.entry-index l.entry-items)) l.initial.found l.found false
