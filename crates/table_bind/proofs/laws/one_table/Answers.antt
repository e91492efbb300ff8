use Rattle.table_bind.proofs.OneTable.{one_outcome}
use Rattle.table_bind.proofs.laws.one_table.Goals as goal

pub returns : goal.returns
returns c = one_outcome c.one_list_of_records.ensures
