use Rattle.std.proofs.Common.{◌∙◌, rules}
use Rattle.search_trail.proofs.Marks.{freed_more, least_all, least_more}
use Rattle.search_trail.proofs.values.free_all.Goals as goal

pub loop-lit-preserved : goal.loop-lit-preserved
loop-lit-preserved c = record {
  so_far = freed_more c.loop-lit.given.items c.args.lits.now c.loop-lit.lit-index c.var.result (record { 0 = 0 })
      (search rules) (search rules) ∙ c.loop-lit.invariant.so_far;
  as_long = search rules;
  least = least_more c.args.lits.now c.loop-lit.lit-index c.loop-lit.least c.min-least.result c.var-in-loop-lit.result
      (record { 0 = 0 }) (search rules) c.loop-lit.invariant.least c.min-least.ensures (search rules);
}

pub returns-clause-least : goal.returns-clause-least
returns-clause-least c = least_all c.args.lits.now c.loop-lit.lit-index c.loop-lit.least (search rules) c.loop-lit.invariant.least
