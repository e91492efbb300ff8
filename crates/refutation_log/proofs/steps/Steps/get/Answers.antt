use Rattle.std.proofs.Common.{◌∙◌, Some, length, slice_get, ap, arith, sym, refl}
use Rattle.std.proofs.lemmas.Option.{slice_get_read}
use Rattle.refutation_log.proofs.KeptSteps.{length-steps_from, step_of_place}
use Rattle.refutation_log.proofs.steps.Steps.get.Goals as goal

pub index-requires : goal.index-requires
index-requires c =
    let whole = ap length c.self.view_is in
    let steps = length-steps_from 0 c.self.inside.heads.items c.self.inside.lists in
    omega (arith, c.self.inside.heads.ok.0)

pub step-requires : goal.step-requires
step-requires c =
    let whole = ap length c.self.view_is in
    let steps = length-steps_from 0 c.self.inside.heads.items c.self.inside.lists in
    let have = c.self.invariant in
    record {
      rows = omega (arith, have.rows);
      entities = omega (arith, have.entities);
      values = omega (arith, have.values);
      lits = omega (arith, have.lits);
      hints = omega (arith, have.hints);
    }

pub returns : goal.returns
returns c =
    let whole = ap length c.self.view_is in
    let steps = length-steps_from 0 c.self.inside.heads.items c.self.inside.lists in
    let heads = c.self.inside.heads.items in
    let head = slice_get_read heads (length heads) c.args.place c.index.result.now refl (omega arith) c.index.ensures in
    let at = step_of_place 0 heads c.self.inside.lists c.args.place c.args.place c.index.result.now head (omega arith) in
    ap (λ s. slice_get s c.args.place) (sym c.self.view_is) ∙ at ∙ ap Some (sym c.step.ensures)
