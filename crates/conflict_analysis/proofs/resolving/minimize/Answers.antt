use Rattle.std.proofs.Common.{◌∙◌, ◌<◌, Some, ℕ, length, refl, ap, subst}
use Rattle.std.proofs.lemmas.List.Elements.{All-pop}
use Rattle.conflict_analysis.specs.Steps.{Minimizes, State}
use Rattle.conflict_analysis.proofs.Minimizing.{minimizes_end, minimizes_more, minimizes_none}
use Rattle.conflict_analysis.proofs.resolving.minimize.Goals as goal

pub loop-place-init : goal.loop-place-init
loop-place-init c = record {
  long = refl;
  kept = rw c.begin_trial.ensures c.requires.kept;
  minimizes = minimizes_none c.args.arena.now c.args.trail.now.entries c.args.bounds.base c.args.bounds.level
      c.begin_trial.new.self;
}

pub loop-place-preserved : goal.loop-place-preserved
loop-place-preserved c =
    let i = c.loop-place.invariant in
    let t = c.args.trail.now in
    let p = c.in-Some.ensures in
    record {
      long = c.minimize_at.ensures.long ∙ ap length p.seen ∙ i.long;
      kept = rw c.in_ok-minimize_at.ensures.kept (All-pop (λ (place : ℕ). place < length t.entries) c.loop-place.found.kept
          c.pop_kept.new.self.kept (Some c.in-Some.place) p.kept i.kept).0;
      minimizes = minimizes_more c.args.arena.now t.entries c.args.bounds.base c.args.bounds.level c.begin_trial.new.self
          c.loop-place.found c.minimize_at.new.found i.minimizes (c.in_ok-minimize_at.ensures.ok c.loop-place.found p);
    }

pub returns-clause-ok : goal.returns-clause-ok
returns-clause-ok c =
    let t = c.args.trail.now in
    subst (λ (s : State). Minimizes c.args.arena.now t.entries c.args.bounds.base c.args.bounds.level s c.pop_kept.new.self)
    c.begin_trial.ensures
    (minimizes_more c.args.arena.now t.entries c.args.bounds.base c.args.bounds.level c.begin_trial.new.self
    c.loop-place.found c.pop_kept.new.self c.loop-place.invariant.minimizes
    (minimizes_end c.args.arena.now t.entries c.args.bounds.base c.args.bounds.level c.loop-place.found
    c.pop_kept.new.self c.in_default.ensures))
