use Rattle.std.proofs.Common.{subst, sym}
use Rattle.std.proofs.lemmas.Result.{on_ok_weaker}
use Rattle.refutation_log.specs.Steps.{label_of}
use Rattle.order_clauses.specs.Added.{AreDistinctOf}
use Rattle.order_clauses.proofs.Saying.{adds_clause}
use Rattle.order_clauses.proofs.pushing.push_axiom.Goals as goal

pub returns : goal.returns
returns c =
    let of : AreDistinctOf c.args.lits.now c.as_slice.result.now =
    subst (AreDistinctOf c.args.lits.now) (sym c.as_slice.ensures.value) c.in_ok-keep_distinct.ensures in
    on_ok_weaker c.push.result
    (adds_clause c.args.sayings.now (label_of c.args.label) c.args.lits.now c.as_slice.result.now c.args.steps.now
    c.push.new.self c.requires of)
    c.push.ensures.ok
