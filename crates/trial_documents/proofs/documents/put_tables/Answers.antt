use Rattle.std.proofs.lemmas.Result.{on_ok_weaker}
use Rattle.trial_documents.specs.Documents.{tables}
use Rattle.trial_documents.proofs.Puts.{five_more}
use Rattle.trial_documents.proofs.documents.put_tables.Goals as goal

pub returns : goal.returns
unfolding tables
returns c =
    on_ok_weaker c.put_table-5.result
    (λ put. five_more _ _ _ _ _ _ _ _ _ _ _ c.in_ok-put_table.ensures c.in_ok-put_table-2.ensures
    c.in_ok-put_table-3.ensures c.in_ok-put_table-4.ensures put)
    c.put_table-5.ensures
