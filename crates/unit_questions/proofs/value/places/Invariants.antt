-- The places so far, in front of the others, are the whole.
use Rattle.std.proofs.Common.{◌≡◌, ◌∷◌, ◌++◌, drop}
use Rattle.currency_base.specs.declared.value.Value.TheVariants.{Text}
use Rattle.query_model.specs.declared.query.Term.TheVariants as term
use Rattle.unit_questions.specs.Units.{value_places}
use Rattle.unit_questions.proofs.value.places.Given as goal

abbrev pub invariant-loop-place : goal.invariant-loop-place
invariant-loop-place l =
    l.terms ++ drop l.place (value_places l.attrs l.attr.0 l.value)
    ≡ term.Constant (Text l.name) ∷ value_places l.attrs l.attr.0 l.value
