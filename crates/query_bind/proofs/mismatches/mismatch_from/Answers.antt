-- Each disjunct in turn is the next one, and its kinds are noted.
use Rattle.std.proofs.Common.{◌∙◌, sym}
use Rattle.std.specs.Prelude.{is_some}
use Rattle.spec_names.specs.Names.{place_of}
use Rattle.query_bind.proofs.Kept.{from_fault, from_more}
use Rattle.query_bind.proofs.mismatches.mismatch_from.Goals as goal

pub returns-in-Some : goal.returns-in-Some
returns-in-Some c =
    from_fault c.args.names.now c.args.relations.now (λ name. is_some (place_of c.args.head.now name))
    c.loop-disjunct.before c.args.disjuncts.now
    c.loop-disjunct.disjunct-index c.disjunct-item.result c.in-Some.fault _ c.loop-disjunct-test.true c.disjunct-item.is
    (sym c.in-Some.is ∙ c.in_ok-fault.ensures.fault) c.loop-disjunct.invariant

pub loop-disjunct-preserved : goal.loop-disjunct-preserved
loop-disjunct-preserved c =
    from_more c.args.names.now c.args.relations.now (λ name. is_some (place_of c.args.head.now name))
    c.loop-disjunct.before c.mismatch_then.new.before c.args.disjuncts.now
    c.loop-disjunct.disjunct-index c.disjunct-item.result _ c.loop-disjunct-test.true c.disjunct-item.is
    (sym c.in-None.is ∙ c.in_ok-fault.ensures.fault) (c.in_ok-fault.ensures.noted c.in-None.is) c.loop-disjunct.invariant
