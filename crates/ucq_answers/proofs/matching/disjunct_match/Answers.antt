use Rattle.std.proofs.Common.{List, ap, refl, subst, ◌∙◌}
use Rattle.std.specs.List.{AllZip}
use Rattle.query_model.specs.declared.query.Atom.{Atom}
use Rattle.query_model.specs.declared.query.Disjunct.{Disjunct}
use Rattle.ucq_answers.specs.Found.{AreEntities, FitsAt, HasUnfit, IsMetFound}
use Rattle.ucq_answers.proofs.Matches.{is_match, none_unfit}
use Rattle.ucq_answers.proofs.matching.disjunct_match.Goals as goal

pub returns-in_default : goal.returns-in_default
returns-in_default c = subst (IsMetFound c.args.relations.now c.args.prepared.now.disjunct c.args.tuple.now) c.in_default.is
    c.in_ok-values.ensures

pub returns-in_default-2 : goal.returns-in_default-2
returns-in_default-2 c = λ _.
    let instance = c.args.relations.now in
    let d = c.args.prepared.now.disjunct in
    let tuple = c.args.tuple.now in
    let met = subst (IsMetFound instance d tuple) c.in-Some.is c.in_ok-values.ensures in
    let told = subst (AreEntities instance c.in-Some.values c.atoms-atoms.result.now) c.in_default-2.is c.in_ok-entities.ensures in
    none_unfit instance d tuple c.in-Some.values met
    (subst (λ (l : List Atom). HasUnfit instance c.in-Some.values l)
    (c.atoms-atoms.ensures ∙ ap (λ (e : Disjunct). e.atoms) c.planned.ensures) told)

pub returns : goal.returns
returns c =
    let instance = c.args.relations.now in
    let d = c.args.prepared.now.disjunct in
    let tuple = c.args.tuple.now in
    let met = subst (IsMetFound instance d tuple) c.in-Some.is c.in_ok-values.ensures in
    let told = subst (AreEntities instance c.in-Some.values c.atoms-atoms.result.now) c.in-Some-2.is c.in_ok-entities.ensures in
    is_match instance d c.args.number tuple c.in-Some.values record {
      disjunct = c.args.number;
      entities =
          c.in-Some-2.entities;
      values = c.in_ok-values-2.values;
    } refl
    c.in_ok-values-2.ensures met (subst (λ (l : List Atom). AllZip (FitsAt instance c.in-Some.values) l
    c.in-Some-2.entities) (c.atoms-atoms.ensures ∙ ap (λ (e : Disjunct). e.atoms) c.planned.ensures) told)
