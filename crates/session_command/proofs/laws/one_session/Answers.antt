use Rattle.session_command.proofs.Leaving.{entry_leaves, entry_told}
use Rattle.session_command.proofs.Sessions.{session_like}
use Rattle.session_command.proofs.laws.one_session.Goals as goal

pub returns-clause-specs : goal.returns-clause-specs
returns-clause-specs c = λ told a s t e x y. entry_leaves e.tree told a s t e x y

pub returns-clause-edits : goal.returns-clause-edits
returns-clause-edits c = λ told a s t e x y. entry_told e.tree told a s t e x y

pub returns-clause-due : goal.returns-clause-due
returns-clause-due c = session_like c.one_read.ensures.specs record {
  tree = c.one_script.ensures.one_tree;
  refusal = c.one_script.ensures.one_refusal;
  not_both = c.one_script.ensures.not_both;
}
