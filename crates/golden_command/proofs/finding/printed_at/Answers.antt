use Rattle.std.proofs.Common.{◌∙◌, ◌<◌, List, ap, get_or, length, refl, rules}
use Rattle.std.proofs.lemmas.Option.{slice_get_read}
use Rattle.spec_model.specs.declared.relation.Relation.{Relation}
use Rattle.golden_command.specs.Asked.{golden_said}
use Rattle.golden_command.proofs.Tellings.{golden_is_printed}
use Rattle.golden_command.proofs.finding.printed_at.Goals as goal

pub returns-in-Ok-golden-clause-job : goal.returns-in-Ok-golden-clause-job
returns-in-Ok-golden-clause-job g c =
    let s = c.args.read.now.spec in
    let below : c.args.place < length s.relations = search rules in
    let read = c.index-relations-place.is
    ∙ ap (λ (xs : List Relation). get_or xs c.args.place c.index-relations-place.result) c.relations.ensures.value in
    let at = slice_get_read s.relations (length s.relations) c.args.place c.index-relations-place.result refl below read in
    golden_is_printed c.args.read.now.tree s (golden_said c.args.asked) c.args.place c.index-relations-place.result
    c.in-Ok.column c.in-Ok-golden.found c.printed_golden.result c.requires.named at c.in-Ok-golden.ensures c.in-Ok.ensures
    c.printed_golden.ensures.printed c.printed_golden.ensures.memory
