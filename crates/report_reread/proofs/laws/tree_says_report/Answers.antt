use Rattle.report_reread.proofs.Saying.{says}
use Rattle.report_reread.proofs.laws.tree_says_report.Goals as goal

pub returns : goal.returns
returns c = says
