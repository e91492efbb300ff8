-- What is bound fits, and what is due is no read fault.
use Rattle.std.proofs.Common.{map, refl}
use Rattle.query_bind.proofs.Plain.{query_reads}
use Rattle.query_bind.proofs.Whole.{query_fits}
use Rattle.query_bind.proofs.bind.bind_query.Goals as goal

pub returns-in-Ok-clause-fits : goal.returns-in-Ok-clause-fits
returns-in-Ok-clause-fits c =
    query_fits (map (λ r. r.name) c.args.spec.now.relations) c.args.spec.now.relations c.args.tree.now c.in-Ok.query
    refl c.in-Ok.ensures

pub returns-in-Err-clause-reads : goal.returns-in-Err-clause-reads
returns-in-Err-clause-reads c =
    query_reads (map (λ r. r.name) c.args.spec.now.relations) c.args.spec.now.relations c.args.tree.now
    c.in-Err.fault c.in-Err.ensures
