use Rattle.std.proofs.Common.{sym, subst}
use Rattle.currency_base.specs.declared.ids.RelId.{RelId}
use Rattle.spec_edits.specs.Edits.{IsPairAt}
use Rattle.edit_checks.proofs.MoreMapped.{sources_at, targets_at}
use Rattle.edit_checks.proofs.mapped.keeps_order.Goals as goal

pub stands_before-requires-clause-pair : goal.stands_before-requires-clause-pair
stands_before-requires-clause-pair c =
    subst
    (λ (rel : RelId).
    IsPairAt c.args.spec.now.relations rel.0
    (record { attr = c.args.place.source; earlier = c.args.first.source; later = c.args.second.source }))
    (sym c.source.ensures)
    (sources_at c.args.spec.now.relations c.args.map.now c.args.place c.args.first c.args.second c.requires.copy
    c.requires.place c.requires.first c.requires.second)

pub stands_before-requires-2-clause-pair : goal.stands_before-requires-2-clause-pair
stands_before-requires-2-clause-pair c =
    subst
    (λ (rel : RelId).
    IsPairAt c.args.spec.now.relations rel.0
    (record { attr = c.args.place.target; earlier = c.args.first.target; later = c.args.second.target }))
    (sym c.target.ensures)
    (targets_at c.args.spec.now.relations c.args.map.now c.args.place c.args.first c.args.second c.requires.copy
    c.requires.place c.requires.first c.requires.second)
