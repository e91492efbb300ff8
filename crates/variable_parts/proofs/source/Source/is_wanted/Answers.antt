use Rattle.std.proofs.Common.{subst}
use Rattle.variable_parts.specs.Told.{IsDivided}
use Rattle.variable_parts.proofs.SourceRows.{table_in, wanted_is}
use Rattle.variable_parts.proofs.source.Source.is_wanted.Goals as goal

pub is_wanted-requires : goal.is_wanted-requires
is_wanted-requires c =
    table_in c.args.self.now c.self.inside.numbering.now (subst
    (IsDivided c.self.inside.numbering.now) c.self.view_is c.self.invariant.divided)
    c.args.rel c.requires

pub returns : goal.returns
returns c =
    wanted_is c.args.self.now c.self.inside.numbering.now (subst (IsDivided c.self.inside.numbering.now) c.self.view_is
    c.self.invariant.divided) c.args.rel c.is_wanted.result c.requires c.is_wanted.ensures
