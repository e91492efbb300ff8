use Rattle.currency_csv.proofs.OneList.{one_list_of_bytes}
use Rattle.currency_csv.proofs.read.one_list_of_records.Goals as goal

pub returns : goal.returns
returns c = one_list_of_bytes
