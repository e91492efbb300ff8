use Rattle.std.proofs.Common.{◌≡◌, ℕ, refl}
use Rattle.log_trim.specs.Trimmed.{renumbered_statement}
use Rattle.log_trim.specs.Marked.{is_marked, answers_of, answers_at}
use Rattle.log_trim.proofs.Marking.{at_is, in_range}
use Rattle.log_trim.proofs.Ranks.{changed_more}
use Rattle.log_trim.proofs.copies.kept_statements.Goals as goal

pub push_statement-requires : goal.push_statement-requires
push_statement-requires c =
    let statements = c.args.statements.now in
    let place = c.loop-place.place in
    let answers_are : answers_at statements place ≡ answers_of c.get.result.now =
    at_is answers_of statements place c.get.result.now c.get.ensures in
    in_range (λ (tuple : ℕ). tuple) _ _ _ _ answers_are refl (c.requires.tuples place)

pub loop-place-preserved : goal.loop-place-preserved
loop-place-preserved c =
    changed_more (renumbered_statement (is_marked c.args.answers.now))
    (is_marked c.args.kept.now) c.args.statements.now c.loop-place.place
    c.get.result.now c.is_kept.result c.loop-place.list _
    c.get.ensures c.is_kept.ensures c.loop-place.invariant c.in_ok-push_statement.ensures
