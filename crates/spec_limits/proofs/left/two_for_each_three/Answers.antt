use Rattle.std.proofs.Common.{◌-◌, ◌*◌, ◌^◌, ◌∙◌, min, ap}
use Rattle.spec_limits.proofs.Capped.{three_capped}
use Rattle.spec_limits.proofs.left.two_for_each_three.Goals as goal

pub returns : goal.returns
returns c =
    three_capped c.args.rows c.saturating_mul-pairs.result c.saturating_mul.result
    (c.saturating_mul-pairs.ensures ∙ ap (λ k. min (c.args.rows * k) (2 ^ 64 - 1)) c.saturating_sub.ensures)
    (c.saturating_mul.ensures ∙ ap (λ k. min (c.saturating_mul-pairs.result * k) (2 ^ 64 - 1)) c.saturating_sub-2.ensures)
