use Rattle.std.proofs.Common.{◌∙◌, ap, slice_set}
use Rattle.std.proofs.lemmas.List.{length-set}
use Rattle.known_models.specs.Known.{KnownModel}
use Rattle.known_models.proofs.Beside.{known_as, known_beside, set_one}
use Rattle.known_models.proofs.known.KnownModel.set_beside.Goals as goal

pub returns-clause-known : goal.returns-clause-known
returns-clause-known c =
    let p = c.args.parted.now in
    let k = c.args.self.now in
    let truths = slice_set k.truths c.args.var c.args.truth in
    known_as p k truths c.set.new.self c.self.inside.completion c.self.inside.done.items
    (c.set.ensures ∙ ap (λ (m : KnownModel). slice_set m.truths c.args.var c.args.truth) c.self.view_is)
    (ap (λ (m : KnownModel). m.completion) c.self.view_is) (ap (λ (m : KnownModel). m.done) c.self.view_is)
    (known_beside p c.facts.ensures k c.requires.known truths (length-set k.truths c.args.var c.args.truth)
    (λ part var has. set_one p k.truths c.args.var c.args.truth c.requires.beside part var has))
