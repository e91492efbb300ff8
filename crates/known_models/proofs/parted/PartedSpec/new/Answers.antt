use Rattle.std.proofs.Common.{subst}
use Rattle.order_literals.specs.Numbers.{Numbers}
use Rattle.order_literals.specs.Statements.{statements_of}
use Rattle.variable_parts.specs.Parts.{AreVariableParts}
use Rattle.known_models.proofs.parted.PartedSpec.new.Goals as goal

pub invariant_of-result : goal.invariant_of-result
invariant_of-result c =
    let parts = c.args.parts.now in
    record {
      numbers = c.requires.numbering;
      ties = c.requires.ties;
      parts = subst (λ (n : Numbers). AreVariableParts c.args.spec.now (statements_of n) parts.ties parts.parts)
          c.requires.numbering c.requires.parts;
    }
