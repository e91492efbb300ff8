use Rattle.std.proofs.Common.{◌∙◌, List, None, ap, length, replicate, subst, sym}
use Rattle.query_model.specs.declared.query.Disjunct.{Disjunct}
use Rattle.query_plan.specs.Plans.{AreSameAtoms}
use Rattle.ucq_answers.specs.Found.{IsAnswerBy}
use Rattle.ucq_answers.specs.Kept.{KeptAtom, atoms_of}
use Rattle.ucq_answers.specs.Partly.{spread}
use Rattle.ucq_answers.proofs.Collecting.{adds_none}
use Rattle.ucq_answers.proofs.Keeping.{starts_kept, unmatched_none}
use Rattle.ucq_answers.proofs.Matches.{adds_answers, contrary_none, many_begun}
use Rattle.ucq_answers.proofs.Meaning.{IsSearched}
use Rattle.ucq_answers.proofs.indexed.collect_disjunct.Goals as goal

pub returns-then-is_contrary : goal.returns-then-is_contrary
returns-then-is_contrary c =
    let d = c.args.prepared.now.disjunct in
    adds_none (IsAnswerBy c.args.relations.now d) c.args.answers.now
    (λ tuple is. contrary_none c.args.relations.now d c.conditions-conditions.result.now.tests tuple
    (c.conditions-conditions.ensures.tests ∙ ap (λ (e : Disjunct). e.tests) c.planned-planned.ensures)
    c.if-is_contrary.ensures is)

pub returns-then-is_unmatched : goal.returns-then-is_unmatched
returns-then-is_unmatched c =
    adds_none (IsAnswerBy c.args.relations.now c.args.prepared.now.disjunct) c.args.answers.now
    (λ tuple is. unmatched_none c.args.relations.now c.args.prepared.now tuple c.requires
    (sym c.is_unmatched.ensures ∙ c.if-is_unmatched.true) is)

pub collect-requires : goal.collect-requires
collect-requires c =
    let d = c.args.prepared.now.disjunct in
    let conditions = c.conditions-conditions.result.now in
    let searched : IsSearched d conditions (atoms_of c.atoms.result.now) = record {
      fits = c.atoms.ensures.fits;
      tests = c.conditions-conditions.ensures.tests ∙ ap (λ (e : Disjunct). e.tests) c.planned-planned.ensures;
      implied = c.conditions-conditions.ensures.implied;
      same = subst (λ (l : List KeptAtom). AreSameAtoms d.atoms (atoms_of l)) (sym c.atoms.ensures.atoms) c.atoms.ensures.same;
    } in
    let begun = c.spread.ensures ∙ ap (λ l. spread l c.in_ok-values.values) c.equalities.ensures.same
    ∙ ap (spread conditions.equalities) (c.in_ok-values.ensures ∙ ap (λ n. replicate n None) (c.vars.ensures
    ∙ ap (λ (e : Disjunct). e.vars) c.planned-planned.ensures)) in
    starts_kept c.args.relations.now c.args.prepared.now conditions c.atoms.result.now c.spread.new.self c.atoms.ensures.atoms searched
    (ap (λ l. length l) begun ∙ many_begun d conditions) c.requires

pub returns : goal.returns
returns c =
    let d = c.args.prepared.now.disjunct in
    let conditions = c.conditions-conditions.result.now in
    let searched : IsSearched d conditions (atoms_of c.atoms.result.now) = record {
      fits = c.atoms.ensures.fits;
      tests = c.conditions-conditions.ensures.tests ∙ ap (λ (e : Disjunct). e.tests) c.planned-planned.ensures;
      implied = c.conditions-conditions.ensures.implied;
      same = subst (λ (l : List KeptAtom). AreSameAtoms d.atoms (atoms_of l)) (sym c.atoms.ensures.atoms) c.atoms.ensures.same;
    } in
    adds_answers c.args.relations.now d conditions c.head.result.now (atoms_of c.atoms.result.now) c.spread.new.self
    c.args.answers.now c.collect.new.answers c.in_ok-full.full
    (c.head.ensures ∙ ap (λ (e : Disjunct). e.head) c.planned-planned.ensures)
    (c.spread.ensures ∙ ap (λ l. spread l c.in_ok-values.values) c.equalities.ensures.same
    ∙ ap (spread conditions.equalities) (c.in_ok-values.ensures ∙ ap (λ n. replicate n None) (c.vars.ensures
    ∙ ap (λ (e : Disjunct). e.vars) c.planned-planned.ensures))) searched c.in_ok-full.ensures
