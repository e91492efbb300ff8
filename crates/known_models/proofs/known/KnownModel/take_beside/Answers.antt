use Rattle.std.proofs.Common.{Bool, List, ap, refl, subst}
use Rattle.known_models.specs.Changes.{Takes}
use Rattle.known_models.specs.Known.{KnownModel}
use Rattle.known_models.proofs.Beside.{known_as, known_beside, taken_beside}
use Rattle.known_models.proofs.known.KnownModel.take_beside.Goals as goal

pub returns-clause-known : goal.returns-clause-known
returns-clause-known c =
    let p = c.args.parted.now in
    let k = c.args.self.now in
    let given = c.args.values.now.given in
    let now = c.put_values.new.truths in
    let takes = subst (λ (old : List Bool). Takes c.args.vars.now given old now)
    (ap (λ (m : KnownModel). m.truths) c.self.view_is) c.put_values.ensures in
    known_as p k now now c.self.inside.completion c.self.inside.done.items refl
    (ap (λ (m : KnownModel). m.completion) c.self.view_is) (ap (λ (m : KnownModel). m.done) c.self.view_is)
    (known_beside p c.facts.ensures k c.requires.known now takes.many
    (λ part var has. taken_beside p given c.args.vars.now k.truths now c.requires.beside takes part var has))
