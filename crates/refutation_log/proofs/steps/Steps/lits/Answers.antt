use Rattle.std.proofs.Common.{◌<◌, ◌∙◌, length, slice_get, ap, arith, sym}
use Rattle.refutation_log.specs.Steps.{clauses_of}
use Rattle.refutation_log.proofs.KeptSteps.{length-steps_from, clause_of_place}
use Rattle.refutation_log.proofs.steps.Steps.lits.Goals as goal

pub get-requires : goal.get-requires
get-requires c =
    let whole = ap length c.self.view_is in
    let steps = length-steps_from 0 c.self.inside.heads.items c.self.inside.lists in
    omega (arith, c.self.invariant.lits)

pub returns : goal.returns
returns c =
    let whole = ap length c.self.view_is in
    let steps = length-steps_from 0 c.self.inside.heads.items c.self.inside.lists in
    let within : c.args.place < length c.self.inside.heads.items = omega arith in
    ap (λ s. slice_get (clauses_of s) c.args.place) (sym c.self.view_is)
    ∙ clause_of_place c.self.inside.heads.items c.self.inside.lists c.args.place c.get.result.now within c.get.ensures
