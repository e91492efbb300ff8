use Rattle.std.proofs.Common.{◌∙◌, [], ◌∷◌, ◌++◌, append_assoc, ap, sym}
use Rattle.std.specs.List.{enumerate_from}
use Rattle.bind_faults.specs.Faults.{all_of}
use Rattle.bind_faults.proofs.Outcomes.{due_through}
use Rattle.order_bind.specs.TableOrders.{record_in}
use Rattle.order_bind.proofs.Answered.{answered_err, answered_more}
use Rattle.order_bind.proofs.tables.records.records_of.Goals as goal

pub loop-tuple-preserved : goal.loop-tuple-preserved
loop-tuple-preserved c = record {
  all = append_assoc c.loop-tuple.yielded (c.in-Some.tuple ∷ []) c.next.new.self.rest.items
      ∙ ap (λ rest. c.loop-tuple.yielded ++ rest) (sym c.in-Some.ensures.steps.0) ∙ c.loop-tuple.invariant.all;
  so_far = rw c.in-Ok-push.ensures.ok (answered_more (record_in c.args.table.now c.args.attrs.now)
      c.loop-tuple.yielded c.in-Some.tuple c.loop-tuple.records
      c.len.result c.in-Ok.record c.loop-tuple.invariant.so_far c.len.ensures c.in-Ok.ensures);
}

pub returns-in-Err : goal.returns-in-Err
returns-in-Err c =
    let f = record_in c.args.table.now c.args.attrs.now in
    let all = ap (λ rest. c.loop-tuple.yielded ++ rest) (sym c.in-Some.ensures.steps.0) ∙ c.loop-tuple.invariant.all in
    due_through (f (c.len.result, c.in-Some.tuple)) (all_of f (enumerate_from 0 c.args.tuples)) c.in-Err.fault c.in-Err.ensures
    (λ is. ap (λ ts. all_of f (enumerate_from 0 ts)) (sym all)
    ∙ answered_err f c.loop-tuple.yielded c.in-Some.tuple _ c.loop-tuple.records c.len.result c.in-Err.fault
    c.loop-tuple.invariant.so_far c.len.ensures is)
