-- A mapping is added, or refused, as what is left of the mappings says.
use Rattle.std.specs.Prelude.{option_map}
use Rattle.copy_bind.proofs.Mapped.{keeps_more, mapping_added, mapping_refused}
use Rattle.copy_bind.proofs.map.with_mappings.Goals as goal

pub returns-in-Err-clause-due : goal.returns-in-Err-clause-due
returns-in-Err-clause-due c =
    mapping_refused (option_map (λ n. n.now) c.args.document) c.args.target.now.relation.rows
    c.args.source.now.relation.rows c.args.copy
    c.loop-mapping.copy c.args.mappings.now c.loop-mapping.mapping-index _ c.in-Err.fault c.loop-mapping-test.true
    c.loop-mapping.invariant.rest
    c.in-Err.ensures.due

pub loop-mapping-preserved : goal.loop-mapping-preserved
loop-mapping-preserved c = record {
  rest = mapping_added (option_map (λ n. n.now) c.args.document) c.args.target.now.relation.rows
      c.args.source.now.relation.rows c.args.copy
      c.loop-mapping.copy c.add.new.copy c.args.mappings.now c.loop-mapping.mapping-index _ _
      c.loop-mapping-test.true c.loop-mapping.invariant.rest
      c.in-Ok.ensures.due c.in-Ok.ensures.ok;
  keeps = keeps_more c.args.copy c.loop-mapping.copy c.add.new.copy _ c.loop-mapping.invariant.keeps c.in-Ok.ensures.ok;
  copied = c.in-Ok.ensures.copied c.loop-mapping.invariant.copied;
}
