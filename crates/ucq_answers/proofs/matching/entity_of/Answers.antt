use Rattle.std.proofs.Common.{subst}
use Rattle.std.specs.List.{All}
use Rattle.std.proofs.lemmas.List.{take_all}
use Rattle.ucq_answers.proofs.Matches.{NoFit, fits_none}
use Rattle.ucq_answers.proofs.matching.entity_of.Goals as goal

pub returns : goal.returns
returns c = λ d is.
    let instance = c.args.relations.now in
    let atom = c.args.atom.now in
    let b = c.args.values.now in
    let ents = c.candidates-ent-items.result.now in
    let none = subst (All (NoFit instance atom b)) (take_all c.loop-ent.ent-index ents c.loop-ent-test.false)
    c.loop-ent.invariant in
    fits_none instance atom b ents c.candidates-ent-items.ensures none d is
