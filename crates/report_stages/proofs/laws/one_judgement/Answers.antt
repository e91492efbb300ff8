use Rattle.report_stages.proofs.OneJudgement.{judged_one, report_read_one}
use Rattle.report_stages.proofs.laws.one_judgement.Goals as goal

pub returns-clause-reports : goal.returns-clause-reports
returns-clause-reports c = report_read_one record {
  report_tree = c.one_report.ensures.one_tree;
  report_refusal = c.one_report.ensures.one_refusal;
  report_not_both = c.one_report.ensures.not_both;
}

pub returns-clause-judged : goal.returns-clause-judged
returns-clause-judged c = judged_one record {
  unshown = c.first_unshown_is_one.ensures;
  not_shown = c.first_unshown_is_not_shown.ensures;
}
