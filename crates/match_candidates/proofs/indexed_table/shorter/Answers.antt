use Rattle.std.proofs.Common.{◌∙◌, ap, sym}
use Rattle.ucq_answers.specs.Partly.{asked_at}
use Rattle.match_candidates.proofs.Asked.{alike_for}
use Rattle.match_candidates.proofs.indexed_table.shorter.Goals as goal

pub returns-then-found-best : goal.returns-then-found-best
returns-then-found-best c =
    let terms = c.args.atom.now.terms in
    let asked = sym (c.in-Some.ensures ∙ ap (λ ts. asked_at c.args.values.now ts c.place.result) c.as_slice.ensures
    ∙ ap (asked_at c.args.values.now terms) c.place.ensures) in
    alike_for c.args.index.now.relation c.args.atom.now c.args.values.now c.args.index.now.place c.in-Some.value.now
    c.alike-found.result.now asked
    c.alike-found.ensures
