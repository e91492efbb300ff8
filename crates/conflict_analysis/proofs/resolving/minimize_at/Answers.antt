use Rattle.std.proofs.Common.{◌≡◌, ◌∙◌, ap}
use Rattle.std.proofs.lemmas.Result.{on_ok_weaker}
use Rattle.conflict_analysis.specs.Steps.{State, leaving, resolving}
use Rattle.conflict_analysis.proofs.Minimizing.{minimizes_as_leaf, minimizes_by_reason}
use Rattle.conflict_analysis.proofs.resolving.minimize_at.Goals as goal

pub returns-then-is_implied-clause-ok : goal.returns-then-is_implied-clause-ok
returns-then-is_implied-clause-ok c =
    on_ok_weaker c.resolve.result
    (λ (is : c.resolve.new.self ≡ resolving c.is_implied.new.self c.args.place) before p.
    rw (is ∙ ap (λ (s : State). resolving s c.args.place) c.is_implied.ensures.same)
    (minimizes_by_reason c.args.arena.now c.args.trail.now.entries
    c.args.bounds.base c.args.bounds.level c.args.place before c.args.found.now c.are_entries.ensures.once
    c.requires.reasons p (c.is_implied.ensures.reason c.if-is_implied.true)))
    c.resolve.ensures.ok

pub returns-else-is_implied-clause-ok : goal.returns-else-is_implied-clause-ok
returns-else-is_implied-clause-ok c =
    on_ok_weaker c.leave.result
    (λ (is : c.leave.new.self ≡ leaving c.is_implied.new.self c.args.place) before p.
    rw (is ∙ ap (λ (s : State). leaving s c.args.place) c.is_implied.ensures.same)
    (minimizes_as_leaf c.args.arena.now c.args.trail.now.entries
    c.args.bounds.base c.args.bounds.level c.args.place before c.args.found.now p))
    c.leave.ensures.ok
