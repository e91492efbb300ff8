use Rattle.std.proofs.Common.{rules, ◌≡◌, [], ◌∷◌, ◌++◌, slice_index_or}
use Rattle.std.proofs.lemmas.Option.{slice_get-get_or}
use Rattle.common_answers.proofs.Places.{still_found, still_skip}
use Rattle.common_answers.proofs.candidates.still_answers.Goals as goal
use Rattle.common_answers.proofs.candidates.still_answers.Goals.{then-branch+in_ok-push, else-branch}
use Rattle.query_model.specs.Answers.{IsAnswer}

pub loop-place-preserved : goal.loop-place-preserved
loop-place-preserved c =
    elim c.if-branch.branch [
      | then-branch+in_ok-push w ↦
          let pushed : c.if-branch.kept.items ≡ c.loop-place.kept.items ++ slice_index_or c.args.places.now
          c.loop-place.place-index 0 ∷ [] = search rules in
          still_found (IsAnswer c.args.indexed.now.query c.args.indexed.now.instance) c.args.tuples.now c.args.places.now
          c.loop-place.place-index (slice_index_or c.args.places.now c.loop-place.place-index 0) c.get.result.now
          c.loop-place.kept.items
          c.if-branch.kept.items (slice_get-get_or c.args.places.now c.loop-place.place-index 0 c.loop-place-test.true)
          c.get.ensures (c.in_ok-is_answer.ensures.is w.if-branch.true) pushed c.loop-place.invariant
      | else-branch w ↦
          let same : c.if-branch.kept.items ≡ c.loop-place.kept.items = search rules in
          rw same
          (still_skip (IsAnswer c.args.indexed.now.query c.args.indexed.now.instance) c.args.tuples.now c.args.places.now
          c.loop-place.place-index (slice_index_or c.args.places.now c.loop-place.place-index 0) c.get.result.now
          c.loop-place.kept.items
          (slice_get-get_or c.args.places.now c.loop-place.place-index 0 c.loop-place-test.true)
          c.get.ensures (c.in_ok-is_answer.ensures.none w.if-branch.false) c.loop-place.invariant)
    ]
