use Rattle.std.proofs.Common.{IfSome, refl, subst}
use Rattle.std.specs.List.{AllZip}
use Rattle.ucq_answers.specs.Found.{IsOneOf}
use Rattle.ucq_answers.proofs.Several.{choice_added}
use Rattle.ucq_answers.proofs.match_search.add_each.Goals as goal

pub returns-then-branch : goal.returns-then-branch
returns-then-branch c =
    let sought = c.args.sought.now in
    choice_added sought.search.relations.now sought.atoms.now sought.number c.args.values.now c.args.choices.now
    c.args.found.now c.loop-place.found c.add.new.self record {
      disjunct = sought.number;
      entities = c.in-Some.entities;
      values = c.in_ok-all.all;
    } c.requires
    (subst (λ o. IfSome o (AllZip IsOneOf c.args.choices.now)) c.in-Some.is c.in_ok-entities.ensures) refl c.in_ok-all.ensures
    c.loop-place.invariant c.in_ok-add.ensures

pub loop-place-preserved : goal.loop-place-preserved
loop-place-preserved c =
    let sought = c.args.sought.now in
    choice_added sought.search.relations.now sought.atoms.now sought.number c.args.values.now c.args.choices.now
    c.args.found.now c.loop-place.found c.add.new.self record {
      disjunct = sought.number;
      entities = c.in-Some.entities;
      values = c.in_ok-all.all;
    } c.requires
    (subst (λ o. IfSome o (AllZip IsOneOf c.args.choices.now)) c.in-Some.is c.in_ok-entities.ensures) refl c.in_ok-all.ensures
    c.loop-place.invariant c.in_ok-add.ensures
