use Rattle.std.proofs.Common.{◌∙◌, List, Contains, map, sym, subst}
use Rattle.std.specs.Map.Iter.{deref}
use Rattle.std.proofs.lemmas.List.{map_push}
use Rattle.std.proofs.lemmas.Map.Iter.{iter_turn, iter_end}
use Rattle.std.proofs.lemmas.Option.{same_Some}
use Rattle.currency_base.specs.declared.pair.Pair.{Pair}
use Rattle.spec_model.specs.declared.relation.Relation.{Relation}
use Rattle.forced_closure.proofs.Adding.{contains_at, not_in, given_next}
use Rattle.forced_closure.proofs.given.add_given.Goals as goal

pub loop-pair-init : goal.loop-pair-init
loop-pair-init c = record {
  each = c.requires.each;
  grows = λ slot old. old;
  all = λ p is_in. absurd (not_in p is_in);
}

pub push_given-requires-clause-given : goal.push_given-requires-clause-given
push_given-requires-clause-given c =
    let given = c.relation.result.now.given in
    let turn = iter_turn deref given c.loop-pair.yielded c.into_iter-pair-iterator.result c.loop-pair.pair-iterator
    c.next.new.self c.next.result (c.into_iter-pair-iterator.ensures.into_iter_gives
    ∙ c.iter-pair-items.ensures.all) c.loop-pair.yielded_by
    c.in-Some.pair c.in-Some.is c.next.ensures.steps in
    record {
      relation = c.relation.result.now;
      is_relation = c.relation.ensures;
      is_in = contains_at given _
          c.in-Some.pair.now turn.1;
    }

pub loop-pair-preserved : goal.loop-pair-preserved
loop-pair-preserved c =
    rw (map_push deref c.loop-pair.yielded c.in-Some.pair) (record {
      each = c.in_ok-push_given.ensures.each;
      grows = λ slot old. c.in_ok-push_given.ensures.grows slot (c.loop-pair.invariant.grows slot old);
      all = given_next c.args.subject.now c.loop-pair.facts.items c.push_given.new.facts.items c.args.rel.0
          (map deref c.loop-pair.yielded) c.in-Some.pair.now
          c.in_ok-push_given.ensures.grows c.loop-pair.invariant.all c.in_ok-push_given.ensures.is_in;
    })

pub returns-clause-all : goal.returns-clause-all
returns-clause-all c p g =
    let given = c.relation.result.now.given in
    let end = iter_end deref given c.loop-pair.yielded c.into_iter-pair-iterator.result c.loop-pair.pair-iterator
    c.next.new.self c.next.result (c.into_iter-pair-iterator.ensures.into_iter_gives
    ∙ c.iter-pair-items.ensures.all) c.loop-pair.yielded_by
    c.in-None.is c.next.ensures.steps in
    let same = same_Some g.relation c.relation.result.now (sym g.is_relation ∙ c.relation.ensures) in
    let here = subst (λ (r : Relation). Contains r.given p) same g.is_in in
    c.loop-pair.invariant.all p (subst (λ (ps : List Pair). Contains ps p) (sym end.0) here)
