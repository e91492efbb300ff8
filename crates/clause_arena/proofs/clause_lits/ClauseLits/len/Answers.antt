use Rattle.std.proofs.Common.{◌∙◌, length, sym, ap}
use Rattle.clause_arena.specs.Slots.{Clauses}
use Rattle.flat_lists.proofs.Cuts.{length-cut_from}
use Rattle.clause_arena.proofs.clause_lits.ClauseLits.len.Goals as goal

pub returns : goal.returns
returns c =
    c.len.ensures ∙ c.self.inside.ends.ok.0
    ∙ sym (length-cut_from 0 c.self.inside.ends.items c.self.inside.lits.items)
    ∙ ap (λ (v : Clauses). length v.lists) c.self.view_is
