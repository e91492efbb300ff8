use Rattle.std.proofs.Common.{◌≡◌, List, None, Some, ap, option_map, replicate, subst, sym, ◌∙◌}
use Rattle.std.specs.List.{All}
use Rattle.query_model.specs.declared.query.Disjunct.{Disjunct}
use Rattle.query_plan.specs.Plans.{AreSameAtoms}
use Rattle.ucq_answers.specs.Found.{IsMatchBy, Wanted}
use Rattle.ucq_answers.specs.Kept.{KeptAtom, atoms_of}
use Rattle.ucq_answers.specs.Partly.{bind_all, spread}
use Rattle.ucq_answers.proofs.Meaning.{IsSearched}
use Rattle.ucq_answers.proofs.Several.{all_from_head}
use Rattle.ucq_answers.proofs.matching.disjunct_matches.Goals as goal

pub returns-clause-each : goal.returns-clause-each
returns-clause-each c =
    let d = c.args.prepared.now.disjunct in
    let conditions = c.conditions-conditions.result.now in
    let searched : IsSearched d conditions (atoms_of c.atoms-2.result.now) = record {
      fits = c.atoms-2.ensures.fits;
      tests = c.conditions-conditions.ensures.tests ∙ ap (λ (e : Disjunct). e.tests) c.planned-planned.ensures;
      implied = c.conditions-conditions.ensures.implied;
      same = subst (λ (l : List KeptAtom). AreSameAtoms d.atoms (atoms_of l)) (sym c.atoms-2.ensures.atoms) c.atoms-2.ensures.same;
    } in
    subst (All (IsMatchBy c.args.relations.now d c.args.number c.args.tuple.now)) (sym c.into_list.ensures.matches)
    (all_from_head c.args.relations.now d conditions (atoms_of c.atoms-2.result.now) c.atoms.result.now c.args.number
    c.in-Some.values c.args.tuple.now c.new-found.result c.collect_matches.new.found searched
    (c.atoms.ensures ∙ ap (λ (e : Disjunct). e.atoms) c.planned-planned.ensures)
    (subst (λ (e : Disjunct). option_map (spread conditions.equalities) (bind_all (replicate e.vars None) e.head c.args.tuple.now)
    ≡ Some c.in-Some.values) c.planned-planned.ensures (sym c.in_ok-values.ensures ∙ c.in-Some.is))
    (ap (λ (w : Wanted). w.matches) c.new-found.ensures) c.in_ok-collect_matches.ensures)
