use Rattle.std.proofs.Common.{◌≡◌, ◌∙◌, ◌-◌, ℕ, length, get_or, slice_get, refl, sym, ap, subst, arith}
use Rattle.std.proofs.lemmas.Option.{slice_get-get_or}
use Rattle.currency_base.specs.declared.lit.Lit.{Lit}
use Rattle.clause_arena.specs.Arenas.{IsWatched}
use Rattle.watch_propagate.proofs.KeptWatchers.{two_at}
use Rattle.search_state.proofs.leaving.drop_supersets.Goals as goal

pub loop-hint-init : goal.loop-hint-init
loop-hint-init c =
    let lits = c.lits.result.now in
    let some : Lit = record { 0 = 0 } in
    let first = slice_get-get_or lits 0 some (omega (arith, c.if-lits-le1.false)) in
    let second = slice_get-get_or lits 1 some (omega (arith, c.if-lits-le1.false)) in
    let two = two_at lits (get_or lits 0 some) (get_or lits 1 some) first second in
    let last : c.count-count.result - 1 ≡ length c.args.arena.now.clauses - 1 = ap (λ (n : ℕ). n - 1) c.count-count.ensures in
    record {
      part = subst (IsWatched c.args.arena.now) (sym last)
          (c.requires lits (get_or lits 0 some) (get_or lits 1 some) two.rest
          (ap (slice_get c.args.arena.now.clauses) (sym last) ∙ c.lits.ensures) two.is);
      held = λ clauses t refuted held. held;
      clauses = refl;
      watchers = refl;
    }

pub drop_superset-requires : goal.drop_superset-requires
drop_superset-requires c = c.loop-hint.invariant.part

pub loop-hint-preserved : goal.loop-hint-preserved
loop-hint-preserved c =
    let was = c.loop-hint.invariant in
    record {
      part = c.drop_superset.ensures.watched;
      held = λ clauses t refuted held. c.drop_superset.ensures.held clauses t refuted (was.held clauses t refuted held);
      clauses = c.drop_superset.ensures.clauses ∙ was.clauses;
      watchers = c.drop_superset.ensures.watchers ∙ was.watchers;
    }

pub returns-clause-held : goal.returns-clause-held
returns-clause-held c = c.loop-hint.invariant.held

pub returns-clause-clauses : goal.returns-clause-clauses
returns-clause-clauses c = c.loop-hint.invariant.clauses

pub returns-clause-watchers : goal.returns-clause-watchers
returns-clause-watchers c = c.loop-hint.invariant.watchers
