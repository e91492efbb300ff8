use Rattle.std.proofs.Common.{List, None, Some, ap, option_map, replicate, subst, sym, ◌∙◌, ◌≡◌}
use Rattle.query_model.specs.declared.query.Disjunct.{Disjunct}
use Rattle.query_plan.specs.Plans.{AreSameAtoms}
use Rattle.ucq_answers.specs.Kept.{KeptAtom, atoms_of}
use Rattle.ucq_answers.specs.Partly.{bind_all, spread}
use Rattle.ucq_answers.proofs.Keeping.{starts_kept, unmatched_none}
use Rattle.ucq_answers.proofs.Matches.{contrary_none, many_bound, met_found, no_head}
use Rattle.ucq_answers.proofs.Meaning.{IsSearched}
use Rattle.ucq_answers.proofs.matching.met_values.Goals as goal

pub returns-then-is_contrary : goal.returns-then-is_contrary
returns-then-is_contrary c =
    contrary_none c.args.relations.now c.args.prepared.now.disjunct c.conditions-conditions.result.now.tests c.args.tuple.now
    (c.conditions-conditions.ensures.tests ∙ ap (λ (d : Disjunct). d.tests) c.planned-planned.ensures) c.if-is_contrary.ensures

pub returns-then-is_unmatched : goal.returns-then-is_unmatched
returns-then-is_unmatched c = unmatched_none c.args.relations.now c.args.prepared.now c.args.tuple.now c.requires
    (sym c.is_unmatched.ensures ∙ c.if-is_unmatched.true)

pub returns-in_default : goal.returns-in_default
returns-in_default c =
    let equalities = c.conditions-conditions.result.now.equalities in
    no_head c.args.relations.now c.args.prepared.now.disjunct equalities c.args.tuple.now
    (subst (λ (d : Disjunct). None ≡ option_map (spread equalities) (bind_all (replicate d.vars None) d.head c.args.tuple.now))
    c.planned-planned.ensures (sym c.in_default.is ∙ c.in_ok-values.ensures))

pub find-requires : goal.find-requires
find-requires c =
    let d = c.args.prepared.now.disjunct in
    let conditions = c.conditions-conditions.result.now in
    let searched : IsSearched d conditions (atoms_of c.atoms.result.now) = record {
      fits = c.atoms.ensures.fits;
      tests = c.conditions-conditions.ensures.tests ∙ ap (λ (e : Disjunct). e.tests) c.planned-planned.ensures;
      implied = c.conditions-conditions.ensures.implied;
      same = subst (λ (l : List KeptAtom). AreSameAtoms d.atoms (atoms_of l)) (sym c.atoms.ensures.atoms) c.atoms.ensures.same;
    } in
    starts_kept c.args.relations.now c.args.prepared.now conditions c.atoms.result.now c.in-Some.values c.atoms.ensures.atoms searched
    (many_bound d conditions c.in-Some.values c.args.tuple.now
    (subst (λ (e : Disjunct). option_map (spread conditions.equalities) (bind_all (replicate e.vars None) e.head c.args.tuple.now)
    ≡ Some c.in-Some.values) c.planned-planned.ensures (sym c.in_ok-values.ensures ∙ c.in-Some.is))) c.requires

pub returns : goal.returns
returns c =
    let d = c.args.prepared.now.disjunct in
    let conditions = c.conditions-conditions.result.now in
    let searched : IsSearched d conditions (atoms_of c.atoms.result.now) = record {
      fits = c.atoms.ensures.fits;
      tests = c.conditions-conditions.ensures.tests ∙ ap (λ (e : Disjunct). e.tests) c.planned-planned.ensures;
      implied = c.conditions-conditions.ensures.implied;
      same = subst (λ (l : List KeptAtom). AreSameAtoms d.atoms (atoms_of l)) (sym c.atoms.ensures.atoms) c.atoms.ensures.same;
    } in
    met_found c.args.relations.now d conditions (atoms_of c.atoms.result.now) c.in-Some.values c.args.tuple.now c.in_ok-found.found
    searched (subst (λ (e : Disjunct). option_map (spread conditions.equalities)
    (bind_all (replicate e.vars None) e.head c.args.tuple.now) ≡ Some c.in-Some.values) c.planned-planned.ensures
    (sym c.in_ok-values.ensures ∙ c.in-Some.is)) c.in_ok-found.ensures
