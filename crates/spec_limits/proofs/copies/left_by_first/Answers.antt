use Rattle.std.proofs.Common.{◌<◌, ◌*◌, ◌^◌, ◌∙◌, length, ap, arith, inl, refl}
use Rattle.spec_limits.specs.Left.{left_of}
use Rattle.spec_limits.proofs.Capped.{left_after_capped, multiple}
use Rattle.spec_limits.proofs.copies.left_by_first.Goals as goal

pub returns : goal.returns
returns c =
    let few : c.args.left < 2 ^ 32 = omega arith in
    let partners = c.copy_partners-partners.result in
    let capped = multiple partners partners c.len-places.result c.saturating_mul.result (inl refl) c.saturating_mul.ensures in
    left_after_capped c.args.left (c.len-places.result * partners) c.saturating_mul.result c.left_after.result few
    capped c.left_after.ensures
    ∙ ap (λ k. left_of c.args.left (k * partners)) (c.len-places.ensures ∙ ap length c.places.ensures.value)
    ∙ ap (λ n. left_of c.args.left (length c.args.copy.now.places * n)) c.copy_partners-partners.ensures
