use Rattle.std.proofs.Common.{◌∙◌, ◌++◌, ◌∷◌, [], ℕ, List, sym, ap}
use Rattle.search_trail.proofs.Scopes.{whole_push}
use Rattle.order_search.proofs.rounds.all_vars.Goals as goal

pub loop-var-preserved : goal.loop-var-preserved
loop-var-preserved c =
    c.in-Ok.ensures.items ∙ ap (λ (ns : List ℕ). ns ++ c.loop-var.var ∷ []) c.loop-var.invariant
    ∙ sym (whole_push c.loop-var.var)
