-- Which report a text spells, and where a text is refused.
use Rattle.std.specs.Prelude.{ℕ, List}
use Rattle.text_tokens.specs.declared.token.TextFault.{TextFault}
use Rattle.text_grammar.specs.Texts.{ReadsText, RefusesText}
use Rattle.report_syntax.specs.Spells.{SpellsReport}
use Rattle.report_syntax.specs.declared.tree.ReportTree.{ReportTree}

-- a text spells a report
abbrev pub ReadsReportText : List ℕ → ReportTree → Type 0
ReadsReportText = ReadsText SpellsReport

-- a text is refused as a report with this fault
abbrev pub RefusesReportText : List ℕ → TextFault → Type 0
RefusesReportText = RefusesText SpellsReport
