use Rattle.std.proofs.Common.{arith, ◌≡◌, ◌∙◌, sym, ap, inr, length, [], ◌∷◌, ◌++◌, append_assoc}
use Rattle.std.proofs.lemmas.Result.{err_from_is_err_and}
use Rattle.table_rows.proofs.SoFar.{begun, grown, few, refused, ended, finished, facts}
use Rattle.table_rows.proofs.build.table_rows.Goals as goal

pub loop-tuple-init : goal.loop-tuple-init
loop-tuple-init c = record {
  all = c.into_iter-tuple-iterator.ensures.into_iter_gives.0 ∙ c.into_items-tuple-items.ensures;
  few = omega arith;
  so_far = begun c.args.named _ c.new.ensures c.new-2.ensures c.new-3.ensures;
}

pub add_row-requires-clause-few_rows : goal.add_row-requires-clause-few_rows
add_row-requires-clause-few_rows c =
    let all = ap (λ rest. c.loop-tuple.yielded ++ rest) (sym c.in-Some.ensures.steps.0) ∙ c.loop-tuple.invariant.all in
    (few c.args.named c.loop-tuple.yielded c.in-Some.tuple _ c.loop-tuple.table c.args.tuples all
    c.loop-tuple.invariant.few c.loop-tuple.invariant.so_far).0

pub add_row-requires-clause-few_entities : goal.add_row-requires-clause-few_entities
add_row-requires-clause-few_entities c =
    let all = ap (λ rest. c.loop-tuple.yielded ++ rest) (sym c.in-Some.ensures.steps.0) ∙ c.loop-tuple.invariant.all in
    (few c.args.named c.loop-tuple.yielded c.in-Some.tuple _ c.loop-tuple.table c.args.tuples all
    c.loop-tuple.invariant.few c.loop-tuple.invariant.so_far).1

pub loop-tuple-preserved : goal.loop-tuple-preserved
loop-tuple-preserved c = record {
  all = append_assoc c.loop-tuple.yielded (c.in-Some.tuple ∷ []) c.next.new.self.rest.items
      ∙ ap (λ rest. c.loop-tuple.yielded ++ rest) (sym c.in-Some.ensures.steps.0) ∙ c.loop-tuple.invariant.all;
  few = c.loop-tuple.invariant.few;
  so_far = grown c.args.named c.loop-tuple.yielded c.loop-tuple.table c.add_row.new.table c.in-Some.tuple
      c.loop-tuple.invariant.so_far c.in_ok-add_row.ensures.ok;
}

pub returns-in_err-add_row-clause-exact : goal.returns-in_err-add_row-clause-exact
returns-in_err-add_row-clause-exact c =
    let p = err_from_is_err_and c.from_residual.result c.from_residual.ensures.1 in
    let all = ap (λ rest. c.loop-tuple.yielded ++ rest) (sym c.in-Some.ensures.steps.0) ∙ c.loop-tuple.invariant.all in
    rw (p.1, p.2)
    (refused c.args.named c.loop-tuple.yielded c.in-Some.tuple _ c.loop-tuple.table _ c.args.tuples all
    c.loop-tuple.invariant.few c.loop-tuple.invariant.so_far c.in_err-add_row.ensures.err)

pub returns-clause-exact : goal.returns-clause-exact
returns-clause-exact c =
    let none : length c.loop-tuple.tuple-iterator.rest.items ≡ 0 = sym c.loop-tuple.tuple-iterator.rest.ok.0
    ∙ c.in-None.ensures.steps.0 in
    inr (finished c.args.named _ _ (ended c.args.named _ _ c.args.tuples c.loop-tuple.table
    c.loop-tuple.invariant.all none c.loop-tuple.invariant.so_far))

pub returns-clause-facts : goal.returns-clause-facts
returns-clause-facts c =
    let none : length c.loop-tuple.tuple-iterator.rest.items ≡ 0 = sym c.loop-tuple.tuple-iterator.rest.ok.0
    ∙ c.in-None.ensures.steps.0 in
    facts c.args.named _ _ c.loop-tuple.invariant.few (ended c.args.named _ _ c.args.tuples c.loop-tuple.table
    c.loop-tuple.invariant.all none c.loop-tuple.invariant.so_far)
