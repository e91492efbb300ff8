use Rattle.verify_command.proofs.OneVerdict.{verdict_one}
use Rattle.verify_command.proofs.laws.one_verdict.Goals as goal

pub returns : goal.returns
returns c = verdict_one record {
  specs = c.one_read.ensures.specs;
  questions = c.one_read.ensures.questions;
  reports = c.one_judgement.ensures.reports;
  judged = c.one_judgement.ensures.judged;
}
