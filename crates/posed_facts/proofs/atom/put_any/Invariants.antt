-- So many places are put.
use Rattle.std.proofs.Common.{◌≡◌, ◌++◌}
use Rattle.posed_facts.specs.Questions.{any_places}
use Rattle.posed_facts.proofs.atom.put_any.Given as goal

abbrev pub invariant-loop : goal.invariant-loop
invariant-loop l = l.terms ≡ l.initial.terms ++ any_places l.counter
