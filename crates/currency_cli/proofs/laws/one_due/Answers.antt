use Rattle.currency_cli.proofs.OneDue.{one_due}
use Rattle.currency_cli.proofs.laws.one_due.Goals as goal

pub returns : goal.returns
returns c = one_due record {
  specs = c.one_read.ensures.specs;
  questions = c.one_read.ensures.questions;
  trees = c.one_read.ensures.trees;
  sessions = c.one_session.ensures.due;
  verdicts = c.one_verdict.ensures;
}
