use Rattle.text_grammar.proofs.TextLaws.{none_refused, one_refusal, one_tree}
use Rattle.report_syntax.specs.Spells.{SpellsReport}
use Rattle.report_syntax.proofs.Rules.{reads_report}
use Rattle.report_syntax.proofs.laws.one_report.Goals as goal

pub returns-clause-one_tree : goal.returns-clause-one_tree
returns-clause-one_tree c = one_tree reads_report

pub returns-clause-one_refusal : goal.returns-clause-one_refusal
returns-clause-one_refusal c = one_refusal SpellsReport

pub returns-clause-not_both : goal.returns-clause-not_both
returns-clause-not_both c = none_refused SpellsReport
