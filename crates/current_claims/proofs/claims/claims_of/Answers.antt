use Rattle.std.proofs.Common.{◌≤◌, length, ap, arith}
use Rattle.current_claims.proofs.Places.{listed_all}
use Rattle.current_claims.proofs.claims.claims_of.Goals as goal

pub returns : goal.returns
returns c =
    let whole : length c.args.spec.now.relations ≤ c.loop-rel.rel = omega (arith, ap length c.relations-rel-end.ensures.value) in
    listed_all c.args.spec.now.relations c.args.rels.now c.args.completion.now c.loop-rel.rel c.loop-rel.claims whole
    c.loop-rel.invariant
