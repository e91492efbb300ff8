use Rattle.std.proofs.Common.{length, ◌+◌, ◌*◌}
use Rattle.ucq_answers.specs.Found.{AddsMatches, IsMatchFrom}
use Rattle.ucq_answers.specs.Kept.{atoms_of}
use Rattle.ucq_answers.proofs.match_search.+collect_matches.Given as goal

abbrev pub decreases-collect_matches : goal.decreases-collect_matches
decreases-collect_matches l = 2 * length l.steps.now

abbrev pub decreases-matches_at : goal.decreases-matches_at
decreases-matches_at l = 2 * length l.rest.now + 1

abbrev pub invariant-collect_matches-loop-ent : goal.invariant-collect_matches-loop-ent
invariant-collect_matches-loop-ent l =
    AddsMatches (IsMatchFrom l.sought.search.relations.now l.sought.search.conditions.now l.sought.atoms.now l.sought.number
    (atoms_of l.steps) l.values) l.initial.found l.found
