use Rattle.std.proofs.Common.{◌<◌, length, arith}
use Rattle.std.proofs.lemmas.Option.{slice_get-get_or}
use Rattle.horn_closure.proofs.CellFacts.{bases_rise, cell_found}
use Rattle.horn_closure.proofs.squares.cell_at.Goals as goal

pub last_up_to-square-requires-clause-ascend : goal.last_up_to-square-requires-clause-ascend
last_up_to-square-requires-clause-ascend c = bases_rise _ _ c.requires.bases

pub returns : goal.returns
returns c =
    let there : c.last_up_to-square.result < length c.args.sizes.now =
    omega (arith, c.last_up_to-square.ensures.within, c.requires.bases.one_each) in
    cell_found c.args.sizes.now c.last_up_to-square.result _ _ _ _
    (slice_get-get_or c.args.sizes.now c.last_up_to-square.result 0 there)
    (c.requires.bases.each c.last_up_to-square.result there) c.cell_in.ensures
