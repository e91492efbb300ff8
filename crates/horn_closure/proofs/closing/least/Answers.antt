use Rattle.std.proofs.Common.{List, ap, subst}
use Rattle.horn_closure.specs.Steps.{AreGiven, Derivation}
use Rattle.horn_closure.specs.declared.derived.Derived.{Derived}
use Rattle.horn_closure.proofs.LeastFacts.{all_least}
use Rattle.horn_closure.proofs.closing.least.Goals as goal

pub returns : goal.returns
returns c =
    let given = subst (λ (ds : List Derived). AreGiven c.args.facts.now ds c.add_facts.new.known.derived)
    (ap (λ (k : Derivation). k.derived) c.in_ok-known.ensures)
    c.in_ok-add_facts.ensures.ok in
    rw c.into_derived.ensures.items
    (all_least _ _ _ _ _ _ _ given c.in_ok-look_at_all.ensures.ok c.in_ok-close.ensures c.into_derived.ensures.once)
