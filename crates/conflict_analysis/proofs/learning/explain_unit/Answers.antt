use Rattle.std.proofs.Common.{◌≡◌, ◌<◌, ◌∙◌, ◌++◌, ◌∷◌, [], All, List, ℕ, length, map, sym, ap, subst}
use Rattle.std.proofs.lemmas.Option.{slice_get_within}
use Rattle.std.proofs.lemmas.Result.{on_ok_weaker}
use Rattle.currency_base.specs.declared.lit.Lit.{Lit}
use Rattle.conflict_analysis.specs.Steps.{number_of}
use Rattle.conflict_analysis.proofs.Entries.{reason_here}
use Rattle.conflict_analysis.proofs.Learned.{all_below, explained_unit, resolved_inside, stands_true, true_assigned}
use Rattle.conflict_analysis.proofs.Literals.{assigned_given, assigned_within}
use Rattle.conflict_analysis.proofs.learning.explain_unit.Goals as goal

pub place_of-place-requires-clause-within : goal.place_of-place-requires-clause-within
place_of-place-requires-clause-within c = assigned_within c.args.trail.now c.args.lit c.are_entries.ensures
    (true_assigned c.args.trail.now c.args.lit c.requires.holds)

pub place_of-place-requires-clause-given : goal.place_of-place-requires-clause-given
place_of-place-requires-clause-given c = assigned_given c.args.trail.now c.args.lit
    (true_assigned c.args.trail.now c.args.lit c.requires.holds)

pub reason_at-requires : goal.reason_at-requires
reason_at-requires c = slice_get_within c.args.trail.now.entries c.place_of-place.result
    c.place_of-place.ensures.entry c.place_of-place.ensures.is_entry

pub explain_place-requires-clause-there : goal.explain_place-requires-clause-there
explain_place-requires-clause-there c = slice_get_within c.args.trail.now.entries c.place_of-place.result
    c.place_of-place.ensures.entry c.place_of-place.ensures.is_entry

pub write_hints-requires : goal.write_hints-requires
write_hints-requires c =
    let t = c.args.trail.now in
    let s = c.explain_place.new.found in
    subst (All (λ (q : ℕ). q < length t.entries)) (sym c.resolved.ensures)
    (all_below s.resolved (length t.entries)
    (resolved_inside c.args.arena.now t c.are_entries.ensures c.requires.reasons _ _ _ s
    (c.in_ok-explain_place.ensures.ok c.in-Some.clause.0 (sym c.in-Some.ensures)).ended))

pub returns-clause-derived : goal.returns-clause-derived
returns-clause-derived c =
    let t = c.args.trail.now in
    let p = c.place_of-place.ensures in
    on_ok_weaker c.push_lit.result
    (λ (is : c.push_lit.new.lits.items ≡ _). explained_unit c.args.arena.now t c.are_entries.ensures
    c.requires.reasons c.place_of-place.result c.in-Some.clause.0 c.explain_place.new.found
    (c.in_ok-explain_place.ensures.ok c.in-Some.clause.0 (sym c.in-Some.ensures)) c.requires.bottom c.args.lit p.entry p.is_entry
    (stands_true t c.args.lit c.place_of-place.result c.are_entries.ensures p c.requires.holds)
    (sym (reason_here t.entries c.place_of-place.result p.entry p.is_entry) ∙ sym c.in-Some.ensures)
    c.push_lit.new.lits.items c.write_hints.new.hints.items (is ∙ ap (λ (ls : List Lit). ls ++ c.args.lit ∷ [])
    c.clear.ensures.items)
    (c.in_ok-write_hints.ensures ∙ ap (λ (ps : List ℕ). map (number_of t.entries) ps ++ c.in-Some.clause.0 ∷ [])
    c.resolved.ensures))
    c.push_lit.ensures
