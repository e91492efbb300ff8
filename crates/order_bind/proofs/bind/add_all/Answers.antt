-- Each pair added in turn leaves the relations with the pairs so far, and the names as they were.
use Rattle.std.proofs.Common.{arith, ap, ◌∙◌, take, refl}
use Rattle.spec_names.specs.Names.{all_names_of}
use Rattle.order_bind.proofs.OrderLemmas.{adds_none, adds_more, adds_names, adds_length, next_fits}
use Rattle.order_bind.proofs.bind.add_all.Goals as goal

pub loop-pair-init : goal.loop-pair-init
loop-pair-init c = record {
  added = adds_none c.args.spec.now.relations c.args.rel.0 c.args.pairs.now;
  rules =
      refl;
  copies = refl;
}

pub add_given-requires-clause-fits : goal.add_given-requires-clause-fits
add_given-requires-clause-fits c =
    next_fits c.args.spec.now.relations c.loop-pair.spec.relations c.args.rel.0 c.args.pairs.now
    c.loop-pair.pair-index _ c.loop-pair.invariant.added c.requires.within c.requires.given (omega arith)

pub add_given-requires-clause-within : goal.add_given-requires-clause-within
add_given-requires-clause-within c =
    let same = adds_length c.args.spec.now.relations c.loop-pair.spec.relations c.args.rel.0
    (take c.loop-pair.pair-index c.args.pairs.now) c.loop-pair.invariant.added c.requires.within in
    omega (arith, same)

pub returns-in_err-add_given-clause-names : goal.returns-in_err-add_given-clause-names
returns-in_err-add_given-clause-names c =
    ap all_names_of c.in_err-add_given.ensures.err
    ∙ adds_names c.args.spec.now c.loop-pair.spec c.args.rel.0 (take c.loop-pair.pair-index c.args.pairs.now)
    c.loop-pair.invariant.added c.loop-pair.invariant.rules c.loop-pair.invariant.copies c.requires.within

pub loop-pair-preserved : goal.loop-pair-preserved
loop-pair-preserved c =
    record {
      added = adds_more c.args.spec.now.relations c.loop-pair.spec.relations c.add_given.new.self.relations
          c.args.rel.0 c.args.pairs.now c.loop-pair.pair-index _ c.loop-pair.invariant.added
          c.in_ok-add_given.ensures.ok (omega arith);
      rules = c.in_ok-add_given.ensures.rules ∙ c.loop-pair.invariant.rules;
      copies = c.in_ok-add_given.ensures.copies ∙ c.loop-pair.invariant.copies;
    }

pub returns-clause-names : goal.returns-clause-names
returns-clause-names c =
    adds_names c.args.spec.now c.loop-pair.spec c.args.rel.0 (take c.loop-pair.pair-index c.args.pairs.now)
    c.loop-pair.invariant.added c.loop-pair.invariant.rules c.loop-pair.invariant.copies c.requires.within
