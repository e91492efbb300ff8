use Rattle.std.proofs.Common.{◌==◌, ap, subst}
use Rattle.currency_base.specs.declared.ids.RowId.{RowId}
use Rattle.variable_parts.specs.Told.{IsDivided}
use Rattle.variable_parts.proofs.SourceRows.{name_of_wanted, row_of_wanted}
use Rattle.variable_parts.proofs.source.Source.is_name.Goals as goal

pub name-requires : goal.name-requires
name-requires c =
    row_of_wanted c.args.self.now c.self.inside.numbering.now (subst (IsDivided c.self.inside.numbering.now) c.self.view_is
    c.self.invariant.divided) c.args.rel c.args.attr c.args.row c.requires

pub returns : goal.returns
returns c =
    ap (λ (name : RowId). name.0 == c.args.row.0)
    (name_of_wanted c.args.self.now c.self.inside.numbering.now (subst (IsDivided c.self.inside.numbering.now) c.self.view_is
    c.self.invariant.divided) c.args.rel c.args.attr c.args.row c.name.result c.requires c.name.ensures)
