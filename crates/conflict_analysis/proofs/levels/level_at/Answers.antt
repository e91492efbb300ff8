use Rattle.std.proofs.Common.{◌≡◌, ◌∙◌, List, get_or, sym, ap, subst}
use Rattle.currency_base.specs.Literals.{var_of}
use Rattle.currency_base.specs.declared.lit.Lit.{Lit}
use Rattle.search_trail.specs.Trails.{StandsAt, lits_of}
use Rattle.conflict_analysis.proofs.Literals.{stands_there, var_free, var_inside}
use Rattle.conflict_analysis.proofs.levels.level_at.Goals as goal
use Rattle.conflict_analysis.proofs.levels.level_at.Goals.{After-var}

stands : (c : After-var) → StandsAt c.args.trail.now c.var.result c.args.place
stands c =
    let read : c.var.result ≡ var_of (get_or (lits_of c.args.trail.now) c.args.place (record { 0 = 0 })) =
    c.var.ensures.value ∙ ap (λ (ls : List Lit). var_of (get_or ls c.args.place (record { 0 = 0 }))) c.assigned.ensures in
    subst (λ v. StandsAt c.args.trail.now v c.args.place) (sym read) (stands_there c.args.trail.now c.args.place
    (record { 0 = 0 }) c.requires)

pub level-requires-clause-within : goal.level-requires-clause-within
level-requires-clause-within c = var_inside c.args.trail.now c.var.result c.args.place c.are_entries.ensures (stands c)

pub level-requires-clause-given : goal.level-requires-clause-given
level-requires-clause-given c = var_free c.args.trail.now c.var.result c.args.place (stands c)

pub returns : goal.returns
returns c = c.level.ensures c.args.place (stands (c.before))
