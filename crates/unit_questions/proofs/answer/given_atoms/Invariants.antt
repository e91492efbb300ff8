-- The atoms so far, in front of the others, are the whole.
use Rattle.std.proofs.Common.{◌≡◌, ◌++◌, drop, map}
use Rattle.unit_questions.specs.Substituted.{given_atom, given_value}
use Rattle.unit_questions.proofs.answer.given_atoms.Given as goal

abbrev pub invariant-loop-atom : goal.invariant-loop-atom
invariant-loop-atom l =
    l.list ++ map (given_atom (given_value l.head l.tuple)) (drop l.atom-index l.atoms)
    ≡ map (given_atom (given_value l.head l.tuple)) l.atoms
