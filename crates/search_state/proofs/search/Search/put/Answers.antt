use Rattle.std.proofs.Common.{◌≡◌, ◌<◌, ◌∙◌, ℕ, None, Some, length, refl, sym, ap, subst}
use Rattle.std.proofs.lemmas.List.Elements.{All-contains}
use Rattle.currency_base.specs.Literals.{var_of}
use Rattle.currency_base.specs.declared.lit.Lit.{Lit}
use Rattle.clause_arena.specs.Arenas.{AreWithin}
use Rattle.search_trail.specs.Trails.{IsFree, implied}
use Rattle.watch_propagate.specs.WatchRule.{HasAdded}
use Rattle.search_state.proofs.Holding.{due_on_ground, held_as, held_fails, held_found, held_implied, held_rests, none_found}
use Rattle.search_state.proofs.Units.{all_same, first_read, free_of_open, put_there, reason_read, within_by_vars}
use Rattle.search_state.proofs.search.Search.put.Goals as goal

pub enter-number-requires-clause-within : goal.enter-number-requires-clause-within
enter-number-requires-clause-within c =
    let within = all_same (λ lit. var_of lit < c.args.self.now.trail.vars) _ _ c.arrange-standing.ensures.same
    c.requires.fit.within in
    subst (AreWithin c.args.self.now.arena) (sym c.deref.ensures.value)
    (within_by_vars c.args.self.now.arena _ _ c.requires.vars within)

pub imply-requires-clause-within : goal.imply-requires-clause-within
imply-requires-clause-within c =
    let begins = c.arrange-standing.ensures.implies c.in-Implies.is in
    let within = all_same (λ lit. var_of lit < c.args.self.now.trail.vars) _ _ c.arrange-standing.ensures.same
    c.requires.fit.within in
    subst (λ (l : Lit). var_of l < c.args.self.now.trail.vars) (first_read _ _ begins _ _ c.index.ensures)
    (All-contains (λ lit. var_of lit < c.args.self.now.trail.vars) _ begins.first within begins.unit.is_in)

pub imply-requires-clause-free : goal.imply-requires-clause-free
imply-requires-clause-free c =
    let t = c.args.self.now.trail in
    let begins = c.arrange-standing.ensures.implies c.in-Implies.is in
    subst (λ (l : Lit). IsFree t (var_of l)) (first_read _ _ begins _ _ c.index.ensures)
    (free_of_open t begins.first begins.unit.is_open)

pub imply-requires-clause-reason : goal.imply-requires-clause-reason
imply-requires-clause-reason c =
    let begins = c.arrange-standing.ensures.implies c.in-Implies.is in
    let added = subst (HasAdded c.args.self.now.arena c.enter-number.new.arena) c.deref.ensures.value
    c.enter-number.ensures.added in
    reason_read _ _ _ _ begins _ _ (first_read _ _ begins _ _ c.index.ensures) added c.enter-number.ensures.number

pub returns-then-is_some-clause-held : goal.returns-then-is_some-clause-held
returns-then-is_some-clause-held c =
    let added = subst (HasAdded c.args.self.now.arena c.enter-number.new.arena) c.deref.ensures.value
    c.enter-number.ensures.added in
    λ clauses held. held_found clauses _ _ _ _ _ _ (sym c.is_some.ensures ∙ c.if-is_some.true)
    c.arrange-standing.ensures.same added held

pub rest-requires-clause-first : goal.rest-requires-clause-first
rest-requires-clause-first c = c.arrange-standing.ensures.rests c.in-Rests.is

pub rest-requires-clause-within : goal.rest-requires-clause-within
rest-requires-clause-within c =
    all_same (λ lit. var_of lit < c.args.self.now.trail.vars) _ _ c.arrange-standing.ensures.same c.requires.fit.within

pub rest-requires-clause-there : goal.rest-requires-clause-there
rest-requires-clause-there c =
    let added = subst (HasAdded c.args.self.now.arena c.enter-number.new.arena) c.deref.ensures.value
    c.enter-number.ensures.added in
    put_there _ _ _ _ added c.enter-number.ensures.number

pub returns-in-Rests-clause-held : goal.returns-in-Rests-clause-held
returns-in-Rests-clause-held c =
    let t = c.args.self.now.trail in
    let added = subst (HasAdded c.args.self.now.arena c.enter-number.new.arena) c.deref.ensures.value
    c.enter-number.ensures.added in
    let within = all_same (λ lit. var_of lit < t.vars) _ _ c.arrange-standing.ensures.same c.requires.fit.within in
    let none = none_found c.args.self.now.refuted (sym c.is_some.ensures ∙ c.if-is_some.false) in
    λ clauses held. c.rest.ensures.held _ (held_as _ c.enter-number.new.arena t t None c.args.self.now.refuted refl none
    (held_rests clauses c.args.self.now.arena _ _ _ t c.are_entries.ensures c.requires.ground
    c.arrange-standing.ensures.same added
    (within_by_vars c.args.self.now.arena t.vars _ c.requires.vars within) (c.arrange-standing.ensures.rests c.in-Rests.is)
    (held_as clauses c.args.self.now.arena t t c.args.self.now.refuted None refl (sym none) held)))

pub returns-in-Implies-clause-held : goal.returns-in-Implies-clause-held
returns-in-Implies-clause-held c =
    let t = c.args.self.now.trail in
    let begins = c.arrange-standing.ensures.implies c.in-Implies.is in
    let added = subst (HasAdded c.args.self.now.arena c.enter-number.new.arena) c.deref.ensures.value
    c.enter-number.ensures.added in
    let within = all_same (λ lit. var_of lit < t.vars) _ _ c.arrange-standing.ensures.same c.requires.fit.within in
    let none = none_found c.args.self.now.refuted (sym c.is_some.ensures ∙ c.if-is_some.false) in
    let after : c.imply.new.self ≡ implied t begins.first (length c.args.self.now.arena.clauses) =
    c.imply.ensures ∙ ap (λ (l : Lit). implied t l c.enter-number.result.0) (sym (first_read _ _ begins _ _ c.index.ensures))
    ∙ ap (implied t begins.first) c.enter-number.ensures.number in
    λ clauses held. held_as _ c.enter-number.new.arena _ c.imply.new.self None c.args.self.now.refuted after none
    (held_implied clauses c.args.self.now.arena _ _ _ begins.first t c.are_entries.ensures c.arrange-standing.ensures.same added
    (within_by_vars c.args.self.now.arena t.vars _ c.requires.vars within) begins.is_first begins.unit
    (due_on_ground t _ begins c.requires.ground) (λ e. c.requires.ground)
    (held_as clauses c.args.self.now.arena t t c.args.self.now.refuted None refl (sym none) held))

pub returns-in-Fails-clause-held : goal.returns-in-Fails-clause-held
returns-in-Fails-clause-held c =
    let t = c.args.self.now.trail in
    let added = subst (HasAdded c.args.self.now.arena c.enter-number.new.arena) c.deref.ensures.value
    c.enter-number.ensures.added in
    let none = none_found c.args.self.now.refuted (sym c.is_some.ensures ∙ c.if-is_some.false) in
    λ clauses held. held_as _ c.enter-number.new.arena t t (Some (length c.args.self.now.arena.clauses))
    (Some c.enter-number.result.0) refl
    (ap (λ (n : ℕ). Some n) c.enter-number.ensures.number)
    (held_fails clauses c.args.self.now.arena _ _ _ t c.requires.ground c.arrange-standing.ensures.same added
    (c.arrange-standing.ensures.fails c.in-Fails.is)
    (held_as clauses c.args.self.now.arena t t c.args.self.now.refuted None refl (sym none) held))
