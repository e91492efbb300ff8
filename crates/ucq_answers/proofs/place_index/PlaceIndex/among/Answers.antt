use Rattle.std.proofs.Common.{slice_range, subst}
use Rattle.ucq_answers.specs.Lookups.{Indexed, KeepsAmong}
use Rattle.ucq_answers.proofs.Narrowing.{among_kept}
use Rattle.ucq_answers.proofs.place_index.PlaceIndex.among.Goals as goal

pub returns-clause-kept : goal.returns-clause-kept
returns-clause-kept c =
    let ents = c.args.ents.now in
    let start = c.reach_of-start.result.0 in
    let end = c.reach_of-start.result.1 in
    subst (λ (i : Indexed). KeepsAmong i.tuples i.place c.args.cmp c.args.value.now ents (slice_range ents start end))
    c.self.view_is
    (among_kept c.self.inside.tuples.now c.self.inside.place c.args.cmp c.args.value.now ents start end
    c.reach_of-start.ensures.within c.reach_of-start.ensures.reach)
