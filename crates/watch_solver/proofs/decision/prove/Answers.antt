use Rattle.std.proofs.Common.{ℕ, arith, refl}
use Rattle.watch_solver.proofs.Grown.{grown_concluded, grown_none}
use Rattle.watch_solver.proofs.Shown.{answer_derived}
use Rattle.watch_solver.proofs.decision.prove.Goals as goal

pub returns-in-Some-clause-grown : goal.returns-in-Some-clause-grown
returns-in-Some-clause-grown c = grown_none _ _ _ refl

pub returns-clause-grown : goal.returns-clause-grown
returns-clause-grown c = grown_concluded c.args.state.now c.derive.new.self _ c.in_ok-place.ensures.ok (omega arith)

pub returns-clause-found : goal.returns-clause-found
returns-clause-found c = λ (left : ℕ).
    answer_derived c.args.state.now c.derive.new.self c.args.goal c.args.lit c.in_ok-place.place left c.in_ok-place.ensures.ok
    c.in_ok-place.ensures.place c.requires.holds.is_goal

pub returns-in_err-place-clause-grown : goal.returns-in_err-place-clause-grown
returns-in_err-place-clause-grown c = grown_none _ _ _ c.in_err-place.ensures.err
