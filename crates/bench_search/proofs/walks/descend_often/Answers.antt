use Rattle.std.proofs.Common.{◌*◌, ◌∙◌, sym, ap, subst}
use Rattle.search_trail.specs.Trails.{Trail}
use Rattle.watch_propagate.specs.WatchRule.{KeepsWatch}
use Rattle.bench_search.proofs.walks.descend_often.Goals as goal

pub loop-preserved : goal.loop-preserved
loop-preserved c =
    let same = ap (λ (t : Trail). t.vars) c.undo_to.ensures in
    record {
      fits = c.descend.ensures.fits ∙ ap (λ n. 2 * n) (sym same);
      vars = same ∙ c.descend.ensures.vars ∙ c.loop.invariant.vars;
      rule = subst (λ t. KeepsWatch c.descend.new.arena t) (sym c.undo_to.ensures)
          (c.watch_rule_is_kept.ensures.undone c.descend.new.arena c.descend.new.trail 0 c.are_entries.ensures
          c.descend.ensures.rule);
    }
