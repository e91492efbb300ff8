use Rattle.std.proofs.Common.{take}
use Rattle.std.specs.List.{All, Contains}
use Rattle.query_model.specs.declared.query.Term.TheVariants.{Var}
use Rattle.ucq_answers.proofs.fits.stands_in.Given as goal

abbrev pub invariant-loop-atom : goal.invariant-loop-atom
invariant-loop-atom l = All (λ atom. Contains atom.terms (Var l.var) → ⊥) (take l.atom-index l.atoms)
