use Rattle.std.proofs.Common.{◌∙◌, ◌+◌, ap}
use Rattle.std.proofs.lemmas.List.{length_push}
use Rattle.golden_values.specs.Golden.{IsField}
use Rattle.golden_values.proofs.Lists.{each_pushed}
use Rattle.golden_values.proofs.records.record_of.Goals as goal

pub loop-attr-preserved : goal.loop-attr-preserved
loop-attr-preserved c =
    rw c.in_ok-push.ensures.ok
    (record {
      count = length_push c.loop-attr.list c.field_at.result ∙ ap (λ n. n + 1) c.loop-attr.invariant.count;
      each = λ r at.
          each_pushed (IsField c.args.fields.now.spec.now c.args.fields.now.rel.0 r c.args.ent) c.loop-attr.list c.loop-attr.attr
          c.field_at.result c.loop-attr.invariant.count (c.field_at.ensures r at) (c.loop-attr.invariant.each r at);
    })
