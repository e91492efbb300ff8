use Rattle.std.proofs.Common.{List, None, Option, Some, ap, option_map, replicate, sym, ◌∙◌}
use Rattle.currency_base.specs.declared.value.Value.{Value}
use Rattle.ucq_answers.specs.Partly.{bind_all, spread}
use Rattle.ucq_answers.proofs.matching.head_values.Goals as goal

pub returns-in_default : goal.returns-in_default
returns-in_default c =
    let equalities = c.args.conditions.now.equalities in
    ap (option_map (spread equalities)) (sym c.in_default.is ∙ c.bound.ensures
    ∙ ap (λ (b : List (Option Value)). bind_all b c.head.result.now c.as_slice.result.now)
    (c.in_ok-none.ensures ∙ ap (λ n. replicate n None) c.vars.ensures)
    ∙ ap (λ l. bind_all (replicate c.args.planned.now.vars None) l c.as_slice.result.now) c.head.ensures
    ∙ ap (λ l. bind_all (replicate c.args.planned.now.vars None) c.args.planned.now.head l) c.as_slice.ensures)

pub returns : goal.returns
returns c =
    let equalities = c.args.conditions.now.equalities in
    ap (λ b. Some b) (c.spread.ensures ∙ ap (λ l. spread l c.in-Some.values) c.equalities.ensures.same)
    ∙ ap (option_map (spread equalities)) (sym c.in-Some.is ∙ c.bound.ensures
    ∙ ap (λ (b : List (Option Value)). bind_all b c.head.result.now c.as_slice.result.now)
    (c.in_ok-none.ensures ∙ ap (λ n. replicate n None) c.vars.ensures)
    ∙ ap (λ l. bind_all (replicate c.args.planned.now.vars None) l c.as_slice.result.now) c.head.ensures
    ∙ ap (λ l. bind_all (replicate c.args.planned.now.vars None) c.args.planned.now.head l) c.as_slice.ensures)
