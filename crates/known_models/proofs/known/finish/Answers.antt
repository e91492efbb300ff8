use Rattle.std.proofs.Common.{◌∙◌, Some, refl, ap, arith}
use Rattle.std.proofs.lemmas.Option.{slice_get_read}
use Rattle.known_models.proofs.Counting.{left_step}
use Rattle.known_models.proofs.known.finish.Goals as goal

pub overflow_sub-left : goal.overflow_sub-left
overflow_sub-left c =
    let done = c.args.done.now.items in
    let read = slice_get_read done _ c.args.part c.index.result.now refl c.requires.part c.index.ensures in
    let step = left_step done c.args.part (read ∙ ap Some c.if-not-index.true) in
    omega (arith, step, c.requires.left)

pub returns-then-not-index-clause-left : goal.returns-then-not-index-clause-left
returns-then-not-index-clause-left c =
    let done = c.args.done.now.items in
    let read = slice_get_read done _ c.args.part c.index.result.now refl c.requires.part c.index.ensures in
    let step = left_step done c.args.part (read ∙ ap Some c.if-not-index.true) in
    omega (arith, step, c.requires.left)
