use Rattle.std.proofs.Common.{◌∙◌, ◌+◌, ap, arith}
use Rattle.std.proofs.lemmas.List.{length_push}
use Rattle.golden_values.specs.Golden.{AreFields}
use Rattle.golden_values.proofs.Lists.{each_pushed}
use Rattle.golden_values.proofs.records.table_of.Goals as goal

pub loop-ent-preserved : goal.loop-ent-preserved
loop-ent-preserved c =
    rw c.in_ok-push.ensures.ok
    (record {
      count = length_push c.loop-ent.table c.in_ok-record.record ∙ ap (λ n. n + 1) c.loop-ent.invariant.count;
      each = λ r at.
          each_pushed (AreFields c.args.fields.now.spec.now c.args.fields.now.rel.0 r) c.loop-ent.table c.loop-ent.ent
          c.in_ok-record.record c.loop-ent.invariant.count (c.in_ok-record.ensures r at) (c.loop-ent.invariant.each r at);
    })

pub returns : goal.returns
returns c =
    let r = c.relation_at-relation.result.now in
    let at = c.relation_at-relation.ensures.is in
    record {
      satisfiable = (c.requires.shown.completion, c.requires.shown.consistent);
      relation = r;
      is_relation = at;
      per_entity = omega (
        arith,
        c.loop-ent.invariant.count,
        c.loop-ent-test.false,
        c.loop-ent.auto.ent-end,
        c.len-ent-end.ensures,
      );
      each = c.loop-ent.invariant.each r at;
    }
