-- How long the lists of a report that was read are: there are numbers of 32 bits for their items, and one to spare.
use Rattle.std.specs.Prelude.{◌≡◌, ◌≤◌, length}
use Rattle.report_syntax.specs.declared.tree.ClaimTree.{ClaimTree}
use Rattle.report_syntax.specs.declared.tree.ClaimTree.TheVariants.{Inconsistent, Consistent, Certain, NotCertain, Same, NotSame, Answers, Undecided}
use Rattle.report_syntax.specs.declared.tree.ReportTree.{ReportTree}

-- the items of a claim are few
abbrev pub HasFewItems : ClaimTree → Type 0
HasFewItems Inconsistent = Unit {0}
HasFewItems Consistent = Unit {0}
HasFewItems Certain = Unit {0}
HasFewItems (NotCertain relation attr earlier later) = Unit {0}
HasFewItems (Same items) = length items ≤ 4294967294
HasFewItems (NotSame relation attr entity) = Unit {0}
HasFewItems (Answers items) = length items ≤ 4294967294
HasFewItems (Undecided counted) = Unit {0}

-- the lists of a report are short, and each statement and each step of its log has a line
pub record HasShortLists (t : ReportTree) : Type 0 where
  pub few_items : HasFewItems t.verdict.claim
  pub few_completions : length t.completions ≤ 4294967294
  pub few_statements : length t.log.log.statements ≤ 4294967294
  pub few_steps : length t.log.log.steps ≤ 4294967294
  pub statement_lines : length t.log.statements ≡ length t.log.log.statements
  pub step_lines : length t.log.steps ≡ length t.log.log.steps
