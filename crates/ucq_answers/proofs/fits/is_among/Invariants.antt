use Rattle.std.proofs.Common.{◌≡◌, take}
use Rattle.std.specs.List.{All}
use Rattle.query_model.specs.declared.query.Term.TheVariants.{Var}
use Rattle.ucq_answers.proofs.fits.is_among.Given as goal

abbrev pub invariant-loop-term : goal.invariant-loop-term
invariant-loop-term l = All (λ term. term ≡ Var l.var → ⊥) (take l.term-index l.terms)
