use Rattle.std.proofs.Common.{◌∙◌, ap, sym}
use Rattle.posed_facts.specs.declared.fact.Fact.TheVariants as fact
use Rattle.decided_facts.proofs.Placed.{only}
use Rattle.decided_facts.proofs.claims.denied.Goals as goal

pub returns-then-len-eq1 : goal.returns-then-len-eq1
returns-then-len-eq1 c =
    c.in-Lacks.is
    ∙ ap (λ list. fact.Lacks list)
    (only c.in-Lacks.claims c.get.result.now (sym c.len.ensures ∙ c.if-len-eq1.true) c.get.ensures)
