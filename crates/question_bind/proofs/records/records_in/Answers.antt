-- Each table in turn is that of the next part, and its records are those that are due.
use Rattle.std.proofs.Common.{◌∙◌, ◌+◌, [], ◌∷◌, ◌++◌, append_assoc, ap, get_or, length, sym}
use Rattle.std.proofs.lemmas.List.{length_push}
use Rattle.bind_faults.specs.Faults.{all_of}
use Rattle.bind_faults.proofs.Outcomes.{due_through}
use Rattle.question_bind.specs.Steps.{parts_with, records_named}
use Rattle.question_bind.proofs.Parts.{next_all, next_err, next_more}
use Rattle.question_bind.proofs.records.records_in.Goals as goal

pub loop-tuples-preserved : goal.loop-tuples-preserved
loop-tuples-preserved c =
    let rest = c.next.new.self.rest.items in
    let whole = ap (λ rs. c.loop-tuples.yielded ++ rs) (sym c.in-Some.ensures.steps.0) ∙ c.loop-tuples.invariant.all in
    record {
      all = append_assoc c.loop-tuples.yielded (c.in-Some.tuples ∷ []) rest ∙ whole;
      count = length_push c.loop-tuples.yielded c.in-Some.tuples ∙ ap (λ n. n + 1) c.loop-tuples.invariant.count
          ∙ sym (length_push c.loop-tuples.lists c.in-Ok.records) ∙ ap length (sym c.in-Ok-push.ensures.ok);
      so_far = rw c.in-Ok-push.ensures.ok (next_more (records_named c.args.names.now) c.args.heads.now
          c.args.trees.now c.args.tables c.loop-tuples.yielded c.loop-tuples.lists _
          c.index-trees-place.result c.in-Some.tuples c.in-Ok.records c.len-place.result
          (record { trees_many = c.requires.trees; xs_many = c.requires.tables })
          (record { rest = rest; whole = whole; place_is = c.len-place.ensures ∙ sym c.loop-tuples.invariant.count })
          c.index-trees-place.is c.loop-tuples.invariant.so_far c.in-Ok.ensures);
    }

pub returns-in-Err : goal.returns-in-Err
returns-in-Err c =
    let f = records_named c.args.names.now in
    let heads = c.args.heads.now in
    let trees = c.args.trees.now in
    let rest = c.next.new.self.rest.items in
    let whole = ap (λ rs. c.loop-tuples.yielded ++ rs) (sym c.in-Some.ensures.steps.0) ∙ c.loop-tuples.invariant.all in
    due_through (f (get_or heads c.len-place.result _, c.index-trees-place.result, c.in-Some.tuples))
    (all_of f (parts_with heads trees c.args.tables)) c.in-Err.fault c.in-Err.ensures
    (λ is. next_err f heads trees c.args.tables c.loop-tuples.yielded c.loop-tuples.lists _
    c.index-trees-place.result c.in-Some.tuples c.in-Err.fault c.len-place.result
    (record { trees_many = c.requires.trees; xs_many = c.requires.tables })
    (record { rest = rest; whole = whole; place_is = c.len-place.ensures ∙ sym c.loop-tuples.invariant.count })
    c.index-trees-place.is c.loop-tuples.invariant.so_far is)

pub returns : goal.returns
returns c =
    next_all (records_named c.args.names.now) c.args.heads.now c.args.trees.now c.args.tables c.loop-tuples.yielded
    c.loop-tuples.tuples-iterator.rest.items c.loop-tuples.lists
    (record { trees_many = c.requires.trees; xs_many = c.requires.tables }) c.loop-tuples.invariant.all
    (sym c.loop-tuples.tuples-iterator.rest.ok.0 ∙ c.in-None.ensures.steps.0) c.loop-tuples.invariant.so_far
