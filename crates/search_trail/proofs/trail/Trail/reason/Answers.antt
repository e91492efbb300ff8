use Rattle.std.proofs.Common.{◌∙◌, ap}
use Rattle.search_trail.specs.Trails.{Trail, reason_in}
use Rattle.search_trail.proofs.Asked.{reason_free, reason_held}
use Rattle.search_trail.proofs.trail.Trail.reason.Goals as goal

pub returns-then-is_none : goal.returns-then-is_none
returns-then-is_none c =
    reason_free _ _ _ _ _ _ _ _ c.self.invariant c.args.var _ _ c.value.ensures c.is_none.ensures c.if-is_none.true
    ∙ ap (λ (t : Trail). reason_in t.entries c.args.var) c.self.view_is

pub returns : goal.returns
returns c =
    c.reason_at.ensures
    ∙ reason_held _ _ _ _ _ _ _ _ c.self.invariant c.args.var _ _ _ c.value.ensures c.is_none.ensures
    c.if-is_none.false c.index.ensures
    ∙ ap (λ (t : Trail). reason_in t.entries c.args.var) c.self.view_is
