use Rattle.std.proofs.Common.{◌<◌, ℕ, length, All, subst}
use Rattle.log_trim.specs.Place.{AreStepsInPlace, AreStatementsInPlace}
use Rattle.log_trim.proofs.InPlace.{are_in_place}
use Rattle.log_trim.proofs.place.is_in_place.Goals as goal

pub returns : goal.returns
returns c told =
    let log = c.args.log.now in
    are_in_place log c.args.goals.now
    (subst (λ (n : ℕ). All (λ goal. goal < n) c.args.goals.now) c.len.ensures (c.are_below.ensures c.if-not-are_below.false))
    (subst (λ (n : ℕ). AreStepsInPlace n (length log.steps) log.steps) c.len-2.ensures
    (c.are_steps_in_place.ensures c.if-not-are_steps_in_place.false))
    (subst (λ (n : ℕ). AreStatementsInPlace n (length log.statements) log.statements) c.len-3.ensures
    (c.are_statements_in_place.ensures told))
    (c.are_few.ensures.steps c.if-not-are_few.false) (c.are_few.ensures.statements c.if-not-are_few.false)
    (c.are_few.ensures.answers c.if-not-are_few.false)
