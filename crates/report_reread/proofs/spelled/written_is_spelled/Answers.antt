use Rattle.report_reread.proofs.Reports.{spelled}
use Rattle.report_reread.proofs.spelled.written_is_spelled.Goals as goal

pub returns : goal.returns
returns c = spelled c.laws_of_literals.ensures.parts
