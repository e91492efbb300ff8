use Rattle.std.proofs.Common.{List, ap, subst}
use Rattle.horn_closure.specs.Steps.{AreOnce, Derivation}
use Rattle.horn_closure.specs.declared.derived.Derived.{Derived}
use Rattle.horn_closure.proofs.KnownFacts.{known_once}
use Rattle.horn_closure.proofs.known.Known.into_derived.Goals as goal

pub returns-clause-once : goal.returns-clause-once
returns-clause-once c = subst (λ (ds : List Derived). AreOnce ds) (ap (λ (k : Derivation). k.derived) c.self.view_is)
    (known_once _ _ c.self.invariant)
