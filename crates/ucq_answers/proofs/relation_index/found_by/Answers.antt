use Rattle.std.proofs.Common.{ap, sym, ◌∙◌}
use Rattle.ucq_answers.specs.Partly.{asked_at}
use Rattle.ucq_answers.proofs.GoingOn.{asked_has}
use Rattle.ucq_answers.proofs.relation_index.found_by.Goals as goal

pub returns-in-Some : goal.returns-in-Some
returns-in-Some c at tuple next is_tuple fits passed =
    let asked = sym (c.in-Some.ensures ∙ ap (asked_at c.args.values.now c.args.terms.now) c.place.ensures) in
    c.alike.ensures at tuple is_tuple (asked_has c.args.values.now next c.args.terms.now tuple
    c.args.index.now.place c.in-Some.value.now asked fits)
