use Rattle.std.proofs.Common.{ap, arith}
use Rattle.horn_closure.specs.Steps.{Derivation}
use Rattle.horn_closure.proofs.KnownFacts.{known_few}
use Rattle.horn_closure.proofs.known.Known.len.Goals as goal

pub overflow_cast-result : goal.overflow_cast-result
overflow_cast-result c = omega (
  arith,
  known_few _ _ c.self.invariant,
  c.self.invariant.few,
  c.len.ensures,
  c.self.inside.derived.ok.0,
)

pub returns-clause-within : goal.returns-clause-within
returns-clause-within c =
    omega (
      arith,
      known_few _ _ c.self.invariant,
      ap (λ (k : Derivation). k.cells) c.self.view_is,
      c.len.ensures,
      c.self.inside.derived.ok.0,
    )
