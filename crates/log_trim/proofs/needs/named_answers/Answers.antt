use Rattle.std.proofs.Common.{◌≡◌, ◌∙◌, ℕ, Bool, false, List, length, replicate, sym, ap, subst, rules}
use Rattle.log_trim.specs.Marked.{answers_of, answers_at, gathered, IsMarkedWhere, IsOfMarked}
use Rattle.log_trim.proofs.Closure.{gathered_marked}
use Rattle.log_trim.proofs.Marking.{at_is, gathered_step, in_range}
use Rattle.log_trim.proofs.needs.named_answers.Goals as goal

pub mark_answer-requires : goal.mark_answer-requires
mark_answer-requires c =
    let statements = c.args.log.now.statements in
    let place = c.loop-place.place in
    let answers_are : answers_at statements place ≡ answers_of c.get.result.now =
    at_is answers_of statements place c.get.result.now c.get.ensures in
    in_range (λ (tuple : ℕ). tuple) _ _ _ _ answers_are c.loop-place.invariant.count (c.requires.tuples place)

pub loop-place-preserved : goal.loop-place-preserved
loop-place-preserved c =
    let statements = c.args.log.now.statements in
    let place = c.loop-place.place in
    let answers_are : answers_at statements place ≡ answers_of c.get.result.now =
    at_is answers_of statements place c.get.result.now c.get.ensures in
    record {
      count = c.mark_answer.ensures.count ∙ c.loop-place.invariant.count;
      all =
          gathered_step c.args.kept.now (answers_at statements) place _ c.loop-place.marks _ c.is_marked.result
          (answers_of c.get.result.now)
          c.is_marked.ensures (sym answers_are) c.loop-place.invariant.all c.mark_answer.ensures.value;
    }

pub returns-clause-marked : goal.returns-clause-marked
returns-clause-marked c =
    let statements = c.args.log.now.statements in
    let count = length c.args.log.now.answers in
    let all_statements : c.loop-place.place ≡ length statements = search rules in
    let same : c.loop-place.marks ≡ gathered c.args.kept.now (answers_at statements) (length statements)
    (replicate count false) =
    c.loop-place.invariant.all ∙ ap (λ (n : ℕ). gathered c.args.kept.now (answers_at statements) n (replicate count false))
    all_statements in
    subst (λ (marks : List Bool). IsMarkedWhere marks (IsOfMarked c.args.kept.now (answers_at statements) (length statements)))
    (sym same)
    (gathered_marked c.args.kept.now (answers_at statements) (length statements) count c.requires.tuples)
