use Rattle.std.proofs.Common.{◌≡◌, ◌∙◌, length, false, sym, ap, subst, arith}
use Rattle.std.proofs.lemmas.List.{length-replicate, length-map}
use Rattle.std.proofs.lemmas.Result.{on_ok_weaker}
use Rattle.search_trail.specs.Trails.{Entry}
use Rattle.conflict_analysis.specs.Steps.{AreMet, Completes, State, meeting}
use Rattle.conflict_analysis.proofs.Beginnings.{empty, explains_place, meets_its_reason, meets_place}
use Rattle.conflict_analysis.proofs.Literals.{few_entries}
use Rattle.conflict_analysis.proofs.conflicts.explain_place.Goals as goal
use Rattle.conflict_analysis.proofs.conflicts.explain_place.Goals.{After-assigned}

pub meet-requires-clause-within : goal.meet-requires-clause-within
meet-requires-clause-within c =
    let few = few_entries c.args.trail.now c.are_entries.ensures in
    let long = ap (λ (s : State). length s.seen) c.clear.ensures ∙ length-replicate (length c.args.found.now.seen) false in
    omega (arith, few, long, c.requires.long, c.requires.there)

pub meet_reason-requires-clause-long : goal.meet_reason-requires-clause-long
meet_reason-requires-clause-long c =
    let few = few_entries c.args.trail.now c.are_entries.ensures in
    let long = ap (λ (s : State). length s.seen) c.clear.ensures ∙ length-replicate (length c.args.found.now.seen) false in
    omega (arith, few, long, c.requires.long, c.meet.ensures.long)

pub overflow_cast-assigned : goal.overflow_cast-assigned
overflow_cast-assigned c =
    let t = c.args.trail.now in
    let few = few_entries t c.are_entries.ensures in
    let long : length c.assigned.result.now ≡ length t.entries = ap length c.assigned.ensures ∙ length-map t.entries
    (λ (e : Entry). e.lit) in
    omega (arith, few, long, c.are_entries.ensures.few)

pub complete-requires-clause-long : goal.complete-requires-clause-long
complete-requires-clause-long c =
    let few = few_entries c.args.trail.now c.are_entries.ensures in
    let long = ap (λ (s : State). length s.seen) c.clear.ensures ∙ length-replicate (length c.args.found.now.seen) false in
    omega (arith, few, long, c.requires.long, c.meet.ensures.long, c.meet_reason.ensures.long)

first_met : (c : After-assigned) → AreMet c.args.arena.now c.args.trail.now.entries c.args.place c.args.place
    (length c.args.trail.now.entries) c.meet.new.self
first_met c =
    let t = c.args.trail.now in
    let few = few_entries t c.are_entries.ensures in
    let n = length c.args.found.now.seen in
    let is : c.meet.new.self ≡ meeting t.entries c.args.place c.args.place c.args.place (empty n) =
    c.in_ok-meet.ensures.ok ∙ ap (meeting t.entries c.args.place c.args.place c.args.place) c.clear.ensures in
    subst (AreMet c.args.arena.now t.entries c.args.place c.args.place (length t.entries)) (sym is)
    (meets_place c.args.arena.now t.entries c.args.place n
    (omega (arith, c.are_entries.ensures.few, c.requires.long))
    (omega (arith, few, c.requires.there, c.requires.long)) c.requires.there)

pub complete-requires-clause-met : goal.complete-requires-clause-met
complete-requires-clause-met c =
    let t = c.args.trail.now in
    let long : length c.assigned.result.now ≡ length t.entries = ap length c.assigned.ensures ∙ length-map t.entries
    (λ (e : Entry). e.lit) in
    subst (λ n. AreMet c.args.arena.now t.entries c.args.place c.args.place n c.meet_reason.new.found) (sym long)
    (meets_its_reason c.args.arena.now t.entries c.args.place c.meet.new.self c.meet_reason.new.found
    c.requires.reasons (first_met c) c.in_ok-meet_reason.ensures.ok)

pub returns-clause-ok : goal.returns-clause-ok
returns-clause-ok c =
    let t = c.args.trail.now in
    let long : length c.assigned.result.now ≡ length t.entries = ap length c.assigned.ensures ∙ length-map t.entries
    (λ (e : Entry). e.lit) in
    on_ok_weaker c.complete.result
    (λ x clause is. explains_place c.args.arena.now t.entries c.args.place clause c.meet.new.self
    c.meet_reason.new.found c.complete.new.found c.are_entries.ensures.once c.requires.reasons (first_met c.before)
    c.in_ok-meet_reason.ensures.ok
    (subst (λ n. Completes c.args.arena.now t.entries c.args.place c.args.place n c.meet_reason.new.found
    c.complete.new.found) long x) is)
    c.complete.ensures.ok
