use Rattle.std.proofs.Common.{List, Option, sym, ap, subst, ◌∙◌}
use Rattle.currency_base.specs.declared.ids.RowId.{RowId}
use Rattle.copy_functions.specs.Copies.{CopyFunction, source_in, source_at, IsCopied}
use Rattle.copy_functions.specs.contracts.copy_map.CopyMap.{the_view}
use Rattle.copy_functions.proofs.TakenSources.{is_unmapped, others_mapped, copied_less}
use Rattle.copy_functions.proofs.copy_map.CopyMap.remove.Goals as goal

pub returns-clause-unmapped : goal.returns-clause-unmapped
returns-clause-unmapped c =
    ap (λ (sources : List (Option RowId)). source_in sources c.args.target) c.take_out.ensures.value
    ∙ is_unmapped (the_view c.self.inside) c.args.target

pub returns-clause-others : goal.returns-clause-others
returns-clause-others c = λ row apart.
    ap (λ (sources : List (Option RowId)). source_in sources row) c.take_out.ensures.value
    ∙ (others_mapped (the_view c.self.inside) c.args.target row apart
    ∙ ap (λ (copy : CopyFunction). source_at copy row) c.self.view_is)

pub returns-clause-copied : goal.returns-clause-copied
returns-clause-copied c = λ target_rows source_rows were.
    subst (λ (sources : List (Option RowId)). IsCopied (record (the_view c.self.inside) { sources = sources })
    target_rows source_rows) (sym c.take_out.ensures.value)
    (copied_less (the_view c.self.inside) c.args.target target_rows source_rows
    (subst (λ (copy : CopyFunction). IsCopied copy target_rows source_rows) (sym c.self.view_is) were))
