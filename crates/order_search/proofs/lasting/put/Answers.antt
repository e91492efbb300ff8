use Rattle.std.proofs.Common.{◌≡◌, ◌++◌, ◌∷◌, [], rules}
use Rattle.refutation_log.specs.Steps.{step_of}
use Rattle.order_search.proofs.Lasts.{put_keeps, put_tied, same_keeps}
use Rattle.order_search.proofs.lasting.put.Goals as goal

pub returns-in-Ok-clause-keeps : goal.returns-in-Ok-clause-keeps
returns-in-Ok-clause-keeps g c =
    let steps : c.add_derived.new.self.steps ≡ c.args.solver.now.steps ++ step_of c.args.step ∷ [] = search rules in
    put_keeps c.args.solver.now c.add_derived.new.self (step_of c.args.step) c.requires c.add_derived.ensures.frame steps

pub returns-in-Ok-clause-tied : goal.returns-in-Ok-clause-tied
returns-in-Ok-clause-tied g c =
    put_tied c.args.solver.now c.add_derived.new.self c.in-Learn.lits.now c.in-Learn.hints.now c.in-Ok.ensures.ok

pub returns-in-Err-clause-keeps : goal.returns-in-Err-clause-keeps
returns-in-Err-clause-keeps g c =
    same_keeps c.args.solver.now c.add_derived.new.self (step_of c.args.step ∷ []) c.add_derived.ensures.frame
    c.in-Err.ensures.err
