use Rattle.std.proofs.Common.{rules, arith}
use Rattle.std.proofs.lemmas.Option.{slice_get_within}
use Rattle.forced_closure.proofs.Adding.{given_none, facts_next}
use Rattle.forced_closure.proofs.given.facts_of.Goals as goal

pub loop-rel-init : goal.loop-rel-init
loop-rel-init c = record {
  each = given_none c.args.subject.now c.new-facts.result.items (search rules);
  all = λ k p below g. absurd (omega (arith, below));
}

pub loop-rel-preserved : goal.loop-rel-preserved
loop-rel-preserved c = record {
  each = c.in_ok-add_given.ensures.each;
  all = facts_next c.args.subject.now c.loop-rel.facts.items c.add_given.new.facts.items c.loop-rel.rel
      c.in_ok-add_given.ensures.grows c.loop-rel.invariant.all
      c.in_ok-add_given.ensures.all;
}

pub returns : goal.returns
returns c = record {
  each = c.loop-rel.invariant.each;
  all = λ rel p g.
      let below = slice_get_within c.args.subject.now.spec.relations rel g.relation g.is_relation in
      c.loop-rel.invariant.all rel p (omega (arith, below)) g;
}
