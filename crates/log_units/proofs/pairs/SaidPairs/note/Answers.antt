use Rattle.std.proofs.Common.{Contains, Option, Some, sym, subst}
use Rattle.log_units.proofs.Changes.{adds_pair}
use Rattle.log_units.proofs.pairs.SaidPairs.note.Goals as goal
use Rattle.log_units.specs.Said.{Adds}
use Rattle.log_units.specs.declared.said.SaidPair.{SaidPair}

pub returns-in_ok-insert-in-Some : goal.returns-in_ok-insert-in-Some
returns-in_ok-insert-in-Some c =
    let new = c.insert.new.self.keys in
    let adds = adds_pair c.self.inside.set.keys new c.in-Some.pair c.in_ok-insert-in-Some.ensures.updates.0 in
    subst (λ (p : Option SaidPair). Adds (Contains c.args.self.now) (Contains new) p) (sym c.in-Some.is)
    (subst (λ pairs. Adds (Contains pairs) (Contains new) (Some c.in-Some.pair)) c.self.view_is adds)
