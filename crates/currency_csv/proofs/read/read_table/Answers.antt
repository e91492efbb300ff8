use Rattle.std.proofs.Common.{map}
use Rattle.csv.specs.Records.{fields_of}
use Rattle.currency_csv.proofs.OfKinds.{table_kinds}
use Rattle.currency_csv.proofs.read.read_table.Goals as goal

pub returns-in-Ok-clause-kinds : goal.returns-in-Ok-clause-kinds
returns-in-Ok-clause-kinds c = table_kinds c.args.columns.now (map fields_of c.as_slice.result.now)
    c.table_below.result c.table_below.ensures
