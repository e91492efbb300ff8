use Rattle.std.proofs.Common.{Some, ap, option_map, sym, ◌∙◌}
use Rattle.ucq_answers.specs.Partly.{spread}
use Rattle.ucq_answers.proofs.Spreading.{joined_of}
use Rattle.ucq_answers.proofs.search.join_atom.Goals as goal

pub returns-in_default : goal.returns-in_default
returns-in_default c =
    let equalities = c.args.search.now.conditions.now.equalities in
    ap (option_map (spread equalities)) (sym c.in_default.is ∙ c.in_ok-next.ensures)
    ∙ joined_of equalities c.args.search.now.relations.now c.args.atom.now c.args.values.now c.args.ent

pub returns : goal.returns
returns c =
    let equalities = c.args.search.now.conditions.now.equalities in
    ap (λ b. Some b) (c.spread.ensures ∙ ap (λ l. spread l c.in-Some.next) c.equalities.ensures.same)
    ∙ ap (option_map (spread equalities)) (sym c.in-Some.is ∙ c.in_ok-next.ensures)
    ∙ joined_of equalities c.args.search.now.relations.now c.args.atom.now c.args.values.now c.args.ent
