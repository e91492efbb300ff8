use Rattle.std.proofs.Common.{arith}
use Rattle.order_squares.proofs.Cells.{base_end}
use Rattle.order_squares.proofs.bases.bases_of.Goals as goal

pub returns-clause-few : goal.returns-clause-few
returns-clause-few c =
    omega (
      arith,
      c.loop-size.invariant.total,
      c.loop-size.invariant.few,
      base_end c.args.sizes.now
          c.loop-size.size-index c.loop-size-test.false,
    )
