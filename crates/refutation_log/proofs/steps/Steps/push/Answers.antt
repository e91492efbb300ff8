use Rattle.std.proofs.Common.{◌≡◌, ◌∷◌, ◌++◌, ◌∙◌, [], ap, refl, rules}
use Rattle.refutation_log.specs.Steps.{step_of}
use Rattle.refutation_log.specs.Kept.{step_at}
use Rattle.refutation_log.proofs.KeptSteps.{steps_kept, steps_pushed}
use Rattle.refutation_log.proofs.steps.Steps.push.Goals as goal

pub returns-in_default-put-clause-err : goal.returns-in_default-put-clause-err
returns-in_default-put-clause-err c =
    let count = c.len.ensures ∙ c.self.inside.heads.ok.0 in
    steps_kept c.self.inside.heads.items c.self.inside.heads.items c.self.inside.lists c.put.new.self c.len.result count
    c.put.ensures.kept refl
    ∙ c.self.view_is

pub returns-in_default-push-clause-err : goal.returns-in_default-push-clause-err
returns-in_default-push-clause-err c =
    let count = c.len.ensures ∙ c.self.inside.heads.ok.0 in
    let heads : c.push.new.self.items ≡ c.self.inside.heads.items = search rules in
    steps_kept c.self.inside.heads.items c.push.new.self.items c.self.inside.lists c.put.new.self c.len.result count
    c.put.ensures.kept heads
    ∙ c.self.view_is

pub returns-clause-ok : goal.returns-clause-ok
returns-clause-ok c =
    let count = c.len.ensures ∙ c.self.inside.heads.ok.0 in
    let heads : c.push.new.self.items ≡ c.self.inside.heads.items ++ c.of-parts.result.head ∷ [] = search rules in
    let step : step_at c.of-parts.result.head c.put.new.self c.len.result ≡ step_of c.args.step = search rules in
    steps_pushed c.self.inside.heads.items c.push.new.self.items c.self.inside.lists c.put.new.self c.len.result count
    c.put.ensures.kept c.of-parts.result.head (step_of c.args.step) heads step
    ∙ ap (λ steps. steps ++ step_of c.args.step ∷ []) c.self.view_is
