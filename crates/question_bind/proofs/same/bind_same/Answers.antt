-- The names are those of the relations.
use Rattle.std.proofs.Common.{◌∙◌, ap, map}
use Rattle.spec_model.specs.declared.relation.Relation.{Relation}
use Rattle.question_bind.proofs.Again.{same_asked, same_due}
use Rattle.question_bind.proofs.same.bind_same.Goals as goal

pub returns-clause-due : goal.returns-clause-due
returns-clause-due c =
    same_due c.args.spec.now.relations c.in_ok-names.names c.args.named.now c.same_among.result
    (c.in_ok-names.ensures ∙ ap (map (λ (r : Relation). r.name)) c.relations.ensures.value) c.same_among.ensures

pub returns-clause-fits : goal.returns-clause-fits
returns-clause-fits c = same_asked c.args.spec.now.relations c.args.named.now c.same_among.result (returns-clause-due c)
