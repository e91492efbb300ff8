use Rattle.std.proofs.Common.{◌≡◌, ◌<◌, ◌∙◌, ◌++◌, ◌∷◌, [], All, List, ℕ, length, map, sym, ap, subst, arith}
use Rattle.std.proofs.lemmas.List.{length-map}
use Rattle.std.proofs.lemmas.Result.{on_ok_weaker}
use Rattle.currency_base.specs.declared.lit.Lit.{Lit}
use Rattle.search_trail.specs.Trails.{Entry}
use Rattle.conflict_analysis.specs.Steps.{negated, number_of, without}
use Rattle.conflict_analysis.proofs.Learned.{all_below, explained, leaf_inside, of_assumed, resolved_inside}
use Rattle.conflict_analysis.proofs.Literals.{few_entries}
use Rattle.conflict_analysis.proofs.learning.explain_clause.Goals as goal
use Rattle.conflict_analysis.proofs.learning.explain_clause.Goals.{After-assigned}

whole : (c : After-assigned) → length c.assigned.result.now ≡ length c.args.trail.now.entries
whole c = ap length c.assigned.ensures ∙ length-map c.args.trail.now.entries (λ (e : Entry). e.lit)

pub overflow_cast-end : goal.overflow_cast-end
overflow_cast-end c =
    let few = few_entries c.args.trail.now c.are_entries.ensures in
    omega (arith, few, whole c, c.are_entries.ensures.few)

pub write_hints-requires : goal.write_hints-requires
write_hints-requires c =
    let t = c.args.trail.now in
    let s = c.explain.new.found in
    subst (All (λ (q : ℕ). q < length t.entries)) (sym c.resolved.ensures)
    (all_below s.resolved (length t.entries) (resolved_inside c.args.arena.now t c.are_entries.ensures
    c.requires.reasons _ _ _ s c.in_ok-explain.ensures.ok.ended))

pub spell_all-requires : goal.spell_all-requires
spell_all-requires c =
    let t = c.args.trail.now in
    let s = c.explain.new.found in
    let long : length c.assigned.result.now ≡ length t.entries = ap length c.assigned.ensures ∙ length-map t.entries
    (λ (e : Entry). e.lit) in
    subst (All (λ (q : ℕ). q < length t.entries)) (sym c.leaves.ensures)
    (all_below s.leaves (length t.entries) (leaf_inside c.args.arena.now t c.are_entries.ensures c.requires.reasons _
    _ c.args.conflict.0 s c.in_ok-explain.ensures.ok c.requires.conflict long long))

pub returns-clause-derived : goal.returns-clause-derived
returns-clause-derived c =
    let t = c.args.trail.now in
    let s = c.explain.new.found in
    let long : length c.assigned.result.now ≡ length t.entries = ap length c.assigned.ensures ∙ length-map t.entries
    (λ (e : Entry). e.lit) in
    on_ok_weaker c.spell_all.result
    (λ (is : c.spell_all.new.lits.items ≡ _). explained c.args.arena.now t c.are_entries.ensures c.requires.reasons _
    _ c.args.conflict.0 s c.in_ok-explain.ensures.ok c.requires.conflict long long
    c.spell_all.new.lits.items c.write_hints.new.hints.items (length c.assigned.result.now) long
    (is ∙ ap (λ (ls : List Lit). ls ++ map (negated t.entries)
    (without (length c.assigned.result.now) c.leaves.result.now)) c.clear.ensures.items
    ∙ ap (λ (ps : List ℕ). map (negated t.entries) (without (length c.assigned.result.now) ps)) c.leaves.ensures)
    (c.in_ok-write_hints.ensures ∙ ap (λ (ps : List ℕ). map (number_of t.entries) ps ++ c.args.conflict.0 ∷ [])
    c.resolved.ensures))
    c.spell_all.ensures

pub returns-clause-assumed : goal.returns-clause-assumed
returns-clause-assumed c =
    let t = c.args.trail.now in
    let s = c.explain.new.found in
    let long : length c.assigned.result.now ≡ length t.entries = ap length c.assigned.ensures ∙ length-map t.entries
    (λ (e : Entry). e.lit) in
    on_ok_weaker c.spell_all.result
    (λ (is : c.spell_all.new.lits.items ≡ _). of_assumed c.args.arena.now t c.are_entries.ensures c.requires.reasons
    _ _ c.args.conflict.0 s c.in_ok-explain.ensures.ok c.requires.conflict long long
    c.spell_all.new.lits.items (length c.assigned.result.now)
    (is ∙ ap (λ (ls : List Lit). ls ++ map (negated t.entries)
    (without (length c.assigned.result.now) c.leaves.result.now)) c.clear.ensures.items
    ∙ ap (λ (ps : List ℕ). map (negated t.entries) (without (length c.assigned.result.now) ps)) c.leaves.ensures))
    c.spell_all.ensures
