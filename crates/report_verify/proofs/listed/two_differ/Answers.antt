use Rattle.std.proofs.Common.{sym, subst}
use Rattle.current_tuples.specs.Places.{IsPlaceOf}
use Rattle.report_verify.proofs.Differing.{no_place}
use Rattle.report_verify.proofs.listed.two_differ.Goals as goal

pub returns-then-not-is_place-clause-same : goal.returns-then-not-is_place-clause-same
returns-then-not-is_place-clause-same c = λ e two.
    no_place c.args.spec.now.relations c.args.rel c.args.attr c.args.ent c.args.completions.now c.requires
    (λ place. c.is_place.ensures.none c.if-not-is_place.true
    (subst (λ rs. IsPlaceOf rs c.args.rel.0 c.args.attr.0 c.args.ent.0) (sym c.relations.ensures.value) place)) two
