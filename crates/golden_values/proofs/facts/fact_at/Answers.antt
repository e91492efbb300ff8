use Rattle.golden_values.proofs.Made.{claim_made}
use Rattle.golden_values.proofs.facts.fact_at.Goals as goal

pub returns : goal.returns
returns c =
    claim_made c.args.spec.now.relations c.relations.ensures.facts c.args.completion.now
    (record { rel = c.args.rel; attr = c.args.attr; row = c.last_row-row.result }) c.args.ent.0 c.requires.place
    c.last_row-row.ensures.last c.last_row-row.ensures.of_entity
