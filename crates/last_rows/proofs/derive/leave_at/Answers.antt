use Rattle.std.proofs.Common.{◌≡◌, ◌∙◌, ◌+◌, ◌++◌, ◌∷◌, [], ℕ, false, List, ap, length, set, sym}
use Rattle.std.proofs.lemmas.List.{length-map}
use Rattle.currency_base.specs.declared.lit.Lit.{Lit}
use Rattle.refutation_log.specs.Steps.{clause_of, clauses_of}
use Rattle.refutation_log.specs.declared.step.Step.TheVariants.{Learn}
use Rattle.last_rows.specs.Hints.{row_hints}
use Rattle.last_rows.specs.Rows.{clause_lits, literals_of}
use Rattle.last_rows.proofs.Growing.{later_more, on_ok_both}
use Rattle.last_rows.proofs.derive.leave_at.Goals as goal

pub returns : goal.returns
returns c =
    let l = c.args.list.now in
    let d = c.args.derivation.now in
    let own = c.args.own in
    let later = c.args.later in
    on_ok_both c.put_row.result
    (λ (steps : c.put_row.new.derivation.steps
    ≡ d.steps ++ Learn c.write_lits.new.lits.items c.write_hints.new.hints.items false ∷ [])
    (places : c.put_row.new.derivation.places.items ≡ set d.places.items own (length c.args.earlier.now + length d.steps)).
    later_more l (clauses_of c.args.earlier.now) d own later c.requires.apart c.requires.placed c.requires.later c.requires.own
    c.requires.underway _
    (steps
    ∙ ap (λ (ls : List Lit). d.steps ++ Learn ls c.write_hints.new.hints.items false ∷ []) c.in_ok-write_lits.ensures
    ∙ ap (λ (hs : List ℕ). d.steps ++ Learn (clause_lits (literals_of l) later own) hs false ∷ [])
    (c.in_ok-write_hints.ensures ∙ ap (λ (ps : List ℕ). row_hints l ps own later) c.as_slice.ensures.value))
    (places
    ∙ ap (λ (n : ℕ). set d.places.items own (n + length d.steps)) (sym (length-map c.args.earlier.now clause_of))))
    c.put_row.ensures.steps c.put_row.ensures.places
