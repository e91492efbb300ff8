use Rattle.std.proofs.Common.{◌<◌, length, refl, arith}
use Rattle.std.proofs.lemmas.Option.{slice_get_read}
use Rattle.std.proofs.lemmas.Result.{on_ok_weaker}
use Rattle.horn_closure.proofs.LookFacts.{looked_one}
use Rattle.horn_closure.proofs.looks.look.Goals as goal

pub returns-clause-ok : goal.returns-clause-ok
returns-clause-ok c =
    let there : c.args.clause < length c.args.clauses.now.conclusions.items =
    omega (arith, c.requires.there, c.requires.clauses.one_each) in
    let concluded = slice_get_read c.args.clauses.now.conclusions.items _ c.args.clause _ refl there c.index.ensures in
    on_ok_weaker _
    (λ added. looked_one _ _ _ _ _ _ _ c.get.ensures concluded (c.if-not-are_known.ensures.all refl) added)
    c.add.ensures.ok
