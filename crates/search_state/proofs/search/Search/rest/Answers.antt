use Rattle.std.proofs.Common.{◌≡◌, ◌∙◌, List, Some, length, refl, ap, rules}
use Rattle.currency_base.specs.declared.lit.Lit.{Lit}
use Rattle.search_trail.specs.Trails.{lits_of}
use Rattle.search_state.proofs.Holding.{held_as, held_rebased}
use Rattle.search_state.proofs.Units.{one_true}
use Rattle.search_state.proofs.search.Search.rest.Goals as goal

pub returns-clause-held : goal.returns-clause-held
returns-clause-held c =
    let s = c.args.self.now in
    let alone : length s.lits.items ≡ 1 = search rules in
    let one = one_true (lits_of s.trail) s.lits.items _ _ alone c.index.ensures c.requires.first in
    λ clauses held. held_as clauses s.arena _ c.rebase.new.self s.refuted s.refuted c.rebase.ensures refl
    (held_rebased clauses s.arena s.trail s.refuted _ c.args.number.0 c.are_entries.ensures one.0
    (c.requires.there ∙ ap (λ (ls : List Lit). Some ls) one.1) held)
