use Rattle.std.proofs.Common.{◌≡◌, ◌∙◌, ◌<◌, ◌++◌, ◌∷◌, [], ℕ, false, List, ap, length, arith}
use Rattle.std.proofs.lemmas.Grind.{get_or_default_zero}
use Rattle.std.proofs.lemmas.Result.{on_ok_weaker}
use Rattle.refutation_log.specs.Steps.{clauses_of}
use Rattle.refutation_log.specs.declared.step.Step.TheVariants.{Learn}
use Rattle.last_rows.specs.Hints.{current_hints}
use Rattle.last_rows.proofs.Growing.{current_derived}
use Rattle.last_rows.proofs.derive.put_current.Goals as goal

pub returns-clause-each : goal.returns-clause-each
returns-clause-each c =
    let l = c.args.list.now in
    let d = c.args.derivation.now in
    let names = c.write_names.new.lits.items in
    let many = c.requires.underway.as_many in
    let some = c.requires.some in
    let within : 0 < length d.places.items = omega (arith, many, some) in
    let hints = c.in_ok-write_lasts.ensures
    ∙ ap (λ (n : ℕ). current_hints l (length l.tops.items) n)
    (c.index.ensures ∙ get_or_default_zero d.places.items 0 c.index.result.now within) in
    on_ok_weaker c.put_step.result
    (λ (is : c.put_step.new.derivation.steps ≡ d.steps ++ Learn names c.write_lasts.new.hints.items false ∷ []).
    current_derived l (clauses_of c.args.earlier.now) d names c.requires.apart c.requires.placed c.requires.some
    c.requires.underway c.in_ok-write_names.ensures c.put_step.new.derivation.steps
    (is ∙ ap (λ (hs : List ℕ). d.steps ++ Learn names hs false ∷ []) hints))
    c.put_step.ensures.steps
