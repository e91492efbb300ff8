use Rattle.std.proofs.Common.{◌≡◌, true, List}
use Rattle.currency_base.specs.declared.ids.RelId.{RelId}
use Rattle.report_verify.proofs.items.after_relation.Given as goal
use Rattle.report_verify.specs.Shaped.{AreMet, is_asked}

abbrev pub invariant-loop-ent : goal.invariant-loop-ent
invariant-loop-ent l = (rels : List RelId) → is_asked rels l.rel ≡ true
    → AreMet l.fn.relations rels l.items l.rel 0 l.fn.from → AreMet l.fn.relations rels l.items l.rel l.ent l.at
