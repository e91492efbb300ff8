use Rattle.std.proofs.Common.{◌∙◌, List, Some, ap, subst, sym}
use Rattle.std.proofs.lemmas.Option.{slice_get-get_or}
use Rattle.posed_facts.specs.Facts.{IsPosable}
use Rattle.spec_model.specs.declared.relation.Relation.{Relation}
use Rattle.possible_values.specs.Candidates.{IsDenialOf}
use Rattle.possible_values.specs.Steps.{HaveFewAttrs}
use Rattle.possible_values.proofs.Findings.{denials_more}
use Rattle.possible_values.proofs.Placing.{few_attrs}
use Rattle.possible_values.proofs.facts.denials.Goals as goal

pub denial-requires-clause-few : goal.denial-requires-clause-few
denial-requires-clause-few c =
    subst HaveFewAttrs (sym c.in_ok-looks.ensures) (few_attrs c.args.spec.now c.requires.within.parts)

pub loop-one-preserved : goal.loop-one-preserved
loop-one-preserved c =
    let list = c.args.candidates.now in
    let one = c.one-item.result in
    denials_more c.args.spec.now.relations c.args.question.now list c.loop-one.one-index c.loop-one.facts c.push.new.self one
    c.in_ok-denial.field-0 c.loop-one.invariant
    (slice_get-get_or list c.loop-one.one-index one c.loop-one-test.true ∙ ap Some (sym c.one-item.is))
    (subst (λ (r : List Relation). IsDenialOf r c.args.question.now one c.in_ok-denial.field-0) c.in_ok-looks.ensures
    c.in_ok-denial.ensures.denies)
    (subst (λ (r : List Relation). IsPosable r c.in_ok-denial.field-0) c.in_ok-looks.ensures c.in_ok-denial.ensures.posable)
    c.in_ok-push.ensures.ok
