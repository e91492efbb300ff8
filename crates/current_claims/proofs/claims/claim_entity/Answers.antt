use Rattle.std.proofs.lemmas.Result.{on_ok_weaker}
use Rattle.current_claims.proofs.OfEntity.{adds_entity}
use Rattle.current_claims.proofs.claims.claim_entity.Goals as goal

pub returns : goal.returns
returns c =
    on_ok_weaker c.push.result
    (adds_entity c.args.spec.now.relations c.args.completion.now c.args.rel c.args.ent c.args.claims.now
    c.in_ok-values.values c.push.new.self
    c.push_last_rows.new.rows c.requires.entity c.in_ok-values.ensures.few c.in_ok-values.ensures.values
    c.in_ok-push_last_rows.ensures)
    c.push.ensures.ok
