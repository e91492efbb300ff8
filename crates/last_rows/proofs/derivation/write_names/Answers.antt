use Rattle.last_rows.proofs.derivation.write_names.Goals as goal

pub loop-row-preserved : goal.loop-row-preserved
loop-row-preserved c = c.in_ok-put_name.ensures c.loop-row.invariant
