use Rattle.std.proofs.Common.{IfSome, Some, subst, sym}
use Rattle.std.proofs.lemmas.List.Elements.{All-set}
use Rattle.query_plan.specs.Implied.{Follows}
use Rattle.query_plan.proofs.standings.Standings.keep.Goals as goal

pub invariant_of-self : goal.invariant_of-self
invariant_of-self c =
    All-set (λ o. IfSome o (Follows c.self.inside.tests.now)) c.self.inside.cells.items c.place_of-place.result
    (Some c.args.standing) (subst (λ l. Follows l c.args.standing) (sym c.self.view_is) c.requires) c.self.invariant
