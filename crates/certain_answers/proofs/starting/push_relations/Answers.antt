use Rattle.std.proofs.Common.{◌≤◌, length, arith}
use Rattle.query_model.specs.declared.query.Atom.{Atom}
use Rattle.certain_answers.proofs.Fronts.{map_more, map_taken}
use Rattle.certain_answers.proofs.starting.push_relations.Goals as goal

pub loop-place-preserved : goal.loop-place-preserved
loop-place-preserved c =
    map_more (λ (a : Atom). a.relation) c.args.atoms.now c.loop-place.place _ _ _ _ c.get.ensures
    c.loop-place.invariant c.in-Ok.ensures.ok

pub returns : goal.returns
returns c =
    let all : length c.args.atoms.now ≤ c.loop-place.place = omega arith in
    map_taken (λ (a : Atom). a.relation) c.args.atoms.now c.loop-place.place _ _ all c.loop-place.invariant
