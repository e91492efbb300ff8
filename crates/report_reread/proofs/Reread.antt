-- A text that spells what says a report is read as the report.
use Rattle.std.proofs.Common.{◌≡◌, ℕ, List, Ok}
use Rattle.currency_report.specs.Reads.{ReadsReport, said}
use Rattle.currency_report.specs.declared.report.Lines.{Lines}
use Rattle.report_model.specs.declared.report.Report.{Report}
use Rattle.report_syntax.specs.Reads.{ReadsReportText}
use Rattle.report_syntax.specs.declared.tree.ReportTree.{ReportTree}
use Rattle.spec_model.specs.declared.relation.Relation.{Relation}

pub reads : (relations : List Relation) (r : Report) (source : List ℕ) (t : ReportTree) → ReadsReportText source t
    → (lines : Lines) × (said relations t ≡ Ok (record { report = r; lines = lines }))
    → (lines : Lines) × ReadsReport relations source (record { report = r; lines = lines })
reads relations r source t spelled (lines, says) = (lines, record { tree = t; spelled = spelled; says = says })
