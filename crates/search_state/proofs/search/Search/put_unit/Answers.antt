use Rattle.std.proofs.Common.{◌≡◌, ◌∙◌, ◌-◌, List, Some, length, slice_get, refl, sym, ap, subst, arith}
use Rattle.std.proofs.lemmas.List.{length_push}
use Rattle.currency_base.specs.declared.lit.Lit.{Lit}
use Rattle.clause_arena.specs.Arenas.{IsWatched}
use Rattle.search_trail.specs.Trails.{IsFree, implied}
use Rattle.currency_base.specs.Literals.{var_of}
use Rattle.search_state.proofs.Holding.{held_as, held_implied}
use Rattle.search_state.proofs.Units.{first_read, free_of_open, reason_read, within_by_vars}
use Rattle.watch_propagate.proofs.KeptLists.{get_end, same_get}
use Rattle.watch_propagate.proofs.KeptWatchers.{added_is_watched}
use Rattle.watch_propagate.proofs.SameFacts.{same_itself}
use Rattle.search_state.proofs.search.Search.put_unit.Goals as goal

pub imply-requires-clause-free : goal.imply-requires-clause-free
imply-requires-clause-free c =
    let t = c.args.self.now.trail in
    let first = first_read _ _ c.requires.unit _ _ refl in
    subst (λ (l : Lit). IsFree t (var_of l)) first (free_of_open t c.requires.unit.first c.requires.unit.unit.is_open)

pub imply-requires-clause-reason : goal.imply-requires-clause-reason
imply-requires-clause-reason c =
    reason_read _ _ _ _ c.requires.unit _ _ (first_read _ _ c.requires.unit _ _ refl) c.enter-number.ensures.added
    c.enter-number.ensures.number

pub drop_supersets-requires : goal.drop_supersets-requires
drop_supersets-requires c = λ lits first second rest is two.
    let old = c.args.self.now.arena in
    let new = c.enter-number.new.arena in
    let put = c.args.lits.now in
    let added = c.enter-number.ensures.added in
    let last : length new.clauses - 1 ≡ length old.clauses = omega (arith, ap length added.clauses, length_push old.clauses put) in
    let there : slice_get new.clauses (length old.clauses) ≡ Some put =
    ap (λ (cs : List (List Lit)). slice_get cs (length old.clauses)) added.clauses ∙ get_end old.clauses put in
    let same : put ≡ lits = same_get new.clauses (length old.clauses) put lits there (ap (slice_get new.clauses) (sym last) ∙ is) in
    subst (IsWatched new) (sym last)
    (added_is_watched old new put first second rest added (same ∙ two)
    (within_by_vars old c.args.self.now.trail.vars put c.requires.vars c.requires.fit.within))

pub returns-clause-held : goal.returns-clause-held
returns-clause-held c =
    let t = c.args.self.now.trail in
    let unit = c.requires.unit in
    let lits = c.args.lits.now in
    let after : c.imply.new.self ≡ implied t unit.first (length c.args.self.now.arena.clauses) =
    c.imply.ensures ∙ ap (λ (l : Lit). implied t l c.enter-number.result.0) (sym (first_read _ _ unit _ _ refl))
    ∙ ap (implied t unit.first) c.enter-number.ensures.number in
    λ clauses held. c.drop_supersets.ensures.held _ _ _ (held_as _ c.enter-number.new.arena _ c.imply.new.self _ c.args.self.now.refuted after c.requires.open
    (held_implied clauses _ c.enter-number.new.arena lits lits unit.first t c.are_entries.ensures (same_itself lits)
    c.enter-number.ensures.added
    (within_by_vars c.args.self.now.arena t.vars lits c.requires.vars c.requires.fit.within) unit.is_first unit.unit
    c.requires.due (c.requires.alone unit.first) held))
