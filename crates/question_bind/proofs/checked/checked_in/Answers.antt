-- Each list in turn is that of the next part, and its pairs are those that are due.
use Rattle.std.proofs.Common.{◌∙◌, ◌+◌, None, [], ◌∷◌, ◌++◌, append_assoc, ap, get_or, length, sym}
use Rattle.std.proofs.lemmas.List.{length_push}
use Rattle.bind_faults.specs.Faults.{all_of}
use Rattle.bind_faults.proofs.Outcomes.{due_through}
use Rattle.question_bind.specs.declared.heads.Head.{Head}
use Rattle.question_bind.specs.Steps.{checked_named, parts_with, HasAsManyPairs}
use Rattle.question_bind.proofs.Parts.{next_all, next_err, next_holds, next_more}
use Rattle.question_bind.proofs.checked.checked_in.Goals as goal

pub loop-pairs-preserved : goal.loop-pairs-preserved
loop-pairs-preserved c =
    let rest = c.next.new.self.rest.items in
    let whole = ap (λ rs. c.loop-pairs.yielded ++ rs) (sym c.in-Some.ensures.steps.0) ∙ c.loop-pairs.invariant.all in
    record {
      all = append_assoc c.loop-pairs.yielded (c.in-Some.pairs ∷ []) rest ∙ whole;
      count = length_push c.loop-pairs.yielded c.in-Some.pairs ∙ ap (λ n. n + 1) c.loop-pairs.invariant.count
          ∙ sym (length_push c.loop-pairs.checked c.in-Ok.pairs) ∙ ap length (sym c.in-Ok-push.ensures.ok);
      so_far = rw c.in-Ok-push.ensures.ok (next_more (checked_named c.args.spec.now.relations) c.args.heads.now
          c.args.trees.now c.args.lists c.loop-pairs.yielded c.loop-pairs.checked _
          c.index-trees-place.result c.in-Some.pairs c.in-Ok.pairs c.len-place.result
          (record { trees_many = c.requires.trees; xs_many = c.requires.lists })
          (record { rest = rest; whole = whole; place_is = c.len-place.ensures ∙ sym c.loop-pairs.invariant.count })
          c.index-trees-place.is c.loop-pairs.invariant.so_far c.in-Ok.ensures);
    }

pub returns-in-Err : goal.returns-in-Err
returns-in-Err c =
    let f = checked_named c.args.spec.now.relations in
    let heads = c.args.heads.now in
    let trees = c.args.trees.now in
    let rest = c.next.new.self.rest.items in
    let whole = ap (λ rs. c.loop-pairs.yielded ++ rs) (sym c.in-Some.ensures.steps.0) ∙ c.loop-pairs.invariant.all in
    due_through (f (get_or heads c.len-place.result _, c.index-trees-place.result, c.in-Some.pairs))
    (all_of f (parts_with heads trees c.args.lists)) c.in-Err.fault c.in-Err.ensures
    (λ is. next_err f heads trees c.args.lists c.loop-pairs.yielded c.loop-pairs.checked _ c.index-trees-place.result
    c.in-Some.pairs c.in-Err.fault c.len-place.result
    (record { trees_many = c.requires.trees; xs_many = c.requires.lists })
    (record { rest = rest; whole = whole; place_is = c.len-place.ensures ∙ sym c.loop-pairs.invariant.count })
    c.index-trees-place.is c.loop-pairs.invariant.so_far is)

pub returns : goal.returns
returns c =
    next_all (checked_named c.args.spec.now.relations) c.args.heads.now c.args.trees.now c.args.lists
    c.loop-pairs.yielded c.loop-pairs.pairs-iterator.rest.items c.loop-pairs.checked
    (record { trees_many = c.requires.trees; xs_many = c.requires.lists }) c.loop-pairs.invariant.all
    (sym c.loop-pairs.pairs-iterator.rest.ok.0 ∙ c.in-None.ensures.steps.0) c.loop-pairs.invariant.so_far

pub checked_part-requires-clause-counts : goal.checked_part-requires-clause-counts
checked_part-requires-clause-counts c =
    let rest = c.next.new.self.rest.items in
    let whole = ap (λ rs. c.loop-pairs.yielded ++ rs) (sym c.in-Some.ensures.steps.0) ∙ c.loop-pairs.invariant.all in
    let d : Head = record { rel = 0; attr = None } in
    next_holds HasAsManyPairs c.args.heads.now c.args.trees.now c.args.lists c.loop-pairs.yielded d
    c.index-trees-place.result c.in-Some.pairs c.len-place.result
    (record { trees_many = c.requires.trees; xs_many = c.requires.lists })
    (record { rest = rest; whole = whole; place_is = c.len-place.ensures ∙ sym c.loop-pairs.invariant.count })
    c.index-trees-place.is c.requires.counts
