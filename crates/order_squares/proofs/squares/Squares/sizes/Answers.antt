use Rattle.std.proofs.Common.{subst}
use Rattle.order_squares.specs.Squares.{IsLaidOut}
use Rattle.order_squares.proofs.Layouts.{layout_of}
use Rattle.order_squares.proofs.squares.Squares.sizes.Goals as goal

pub returns-clause-facts : goal.returns-clause-facts
returns-clause-facts c =
    let is = subst (λ l. IsLaidOut l c.self.inside.starts c.self.inside.bases.items) c.self.view_is c.self.invariant in
    layout_of c.args.self.now c.self.inside.starts c.self.inside.bases.items is
