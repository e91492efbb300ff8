use Rattle.std.proofs.Common.{◌+◌, ◌∙◌, length, ap}
use Rattle.std.proofs.lemmas.List.{length_push}
use Rattle.entity_ground.proofs.Looked.{lookups_more}
use Rattle.entity_ground.proofs.search.lookups_of.Goals as goal

pub loop-var-preserved : goal.loop-var-preserved
loop-var-preserved c =
    let all = c.loop-var.all.items in
    let kept = c.in-Ok-push.ensures.items in
    record {
      count = ap (λ l. length l) kept ∙ length_push all c.in-Ok.lookup ∙ ap (λ n. n + 1) c.loop-var.invariant.count;
      are = lookups_more c.args.rule.now c.args.table.now c.args.members.now all c.push.new.self.items c.in-Ok.lookup
          c.loop-var.var c.loop-var.invariant.count
          c.loop-var.invariant.are c.in-Ok.ensures kept;
    }
