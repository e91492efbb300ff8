use Rattle.std.proofs.Common.{◌<◌, ◌-◌, ◌∙◌, ◌++◌, ◌∷◌, [], All, List, ℕ, length, map, slice_get, sym, ap, subst}
use Rattle.std.proofs.lemmas.Result.{IfOk-weaker}
use Rattle.conflict_analysis.specs.Analyses.{IsLearned}
use Rattle.conflict_analysis.specs.Steps.{IsWritten, number_of}
use Rattle.conflict_analysis.proofs.Learned.{all_below, is_learned, leaves_inside, resolved_inside}
use Rattle.conflict_analysis.proofs.learning.learn_clause.Goals as goal

pub write_hints-requires : goal.write_hints-requires
write_hints-requires c =
    let t = c.args.trail.now in
    let s = c.lead.new.found in
    let l = c.in_ok-lead.ensures.ok in
    subst (All (λ (q : ℕ). q < length t.entries)) (sym c.resolved.ensures)
    (all_below s.resolved (length t.entries) (resolved_inside c.args.arena.now t c.are_entries.ensures
    c.requires.reasons c.start.result c.start-2.result _ s l.ended.ended))

pub write_learned-requires-clause-leaves : goal.write_learned-requires-clause-leaves
write_learned-requires-clause-leaves c =
    let t = c.args.trail.now in
    let s = c.lead.new.found in
    subst (All (λ (q : ℕ). q < length t.entries)) (sym c.leaves.ensures)
    (all_below s.leaves (length t.entries)
    (leaves_inside c.args.arena.now t c.are_entries.ensures c.requires.reasons c.start.result
    c.start-2.result c.args.conflict.0 s c.in_ok-lead.ensures.ok c.requires.conflict c.requires.deep
    (ap (λ n. slice_get t.starts (n - 1)) (sym c.depth.ensures) ∙ c.start-2.ensures)))

pub returns-clause-ok : goal.returns-clause-ok
returns-clause-ok c =
    let t = c.args.trail.now in
    let s = c.lead.new.found in
    IfOk-weaker c.write_learned.result (λ back. IsWritten t c.low.result c.leaves.result.now c.write_learned.new.lits.items back)
    (λ back. IsLearned c.args.arena.now t
    (record {
      vars = length s.seen;
      lits = c.write_learned.new.lits.items;
      hints = c.write_hints.new.hints.items;
      back = back;
      resolved = s.resolved;
    }))
    (λ back w. is_learned c.args.arena.now t c.are_entries.ensures c.requires.reasons c.start.result
    c.start-2.result c.args.conflict.0 s c.in_ok-lead.ensures.ok c.requires.conflict c.requires.deep
    (ap (λ n. slice_get t.starts (n - 1)) (sym c.depth.ensures) ∙ c.start-2.ensures) (length s.seen)
    c.write_learned.new.lits.items c.write_hints.new.hints.items back
    (subst (λ p. IsWritten t p s.leaves c.write_learned.new.lits.items back) c.low.ensures
    (subst (λ ps. IsWritten t c.low.result ps c.write_learned.new.lits.items back) c.leaves.ensures w))
    (c.in_ok-write_hints.ensures ∙ ap (λ (ps : List ℕ). map (number_of t.entries) ps ++ c.args.conflict.0 ∷ [])
    c.resolved.ensures))
    c.write_learned.ensures
