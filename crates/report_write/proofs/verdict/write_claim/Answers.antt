use Rattle.report_write.proofs.verdict.write_claim.Goals as goal

pub returns-in-Inconsistent : goal.returns-in-Inconsistent
returns-in-Inconsistent c = rw c.in-Inconsistent.is c.write_word.ensures
