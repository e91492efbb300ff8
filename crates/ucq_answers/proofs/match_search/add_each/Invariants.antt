use Rattle.ucq_answers.specs.Found.{AddsMatches, IsMatchWith}
use Rattle.ucq_answers.proofs.match_search.add_each.Given as goal

abbrev pub invariant-loop-place : goal.invariant-loop-place
invariant-loop-place l =
    AddsMatches (IsMatchWith l.sought.search.relations.now l.sought.atoms.now l.sought.number l.values) l.initial.found l.found
