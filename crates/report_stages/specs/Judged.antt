-- The stage of a report: it is read, and judged.
use Rattle.std.specs.Prelude.{◌≡◌, ◌⊎◌, ℕ, List, Result, Ok, Err}
use Rattle.command_stages.specs.declared.trouble.Check.{Check}
use Rattle.command_stages.specs.declared.trouble.Check.TheVariants.{V1, V2, V3}
use Rattle.command_stages.specs.declared.trouble.Trouble.{Trouble}
use Rattle.command_stages.specs.declared.trouble.Trouble.TheVariants as trouble
use Rattle.currency_edge.specs.Shelf.{document}
use Rattle.currency_report.specs.Lines.{line_of}
use Rattle.currency_report.specs.Reads.{ReadsReport, RefusesReport}
use Rattle.currency_report.specs.declared.report.ReadReport.{ReadReport}
use Rattle.currency_report.specs.declared.report.ReportFault.{ReportFault}
use Rattle.currency_report.specs.declared.report.ReportFault.TheVariants as report
use Rattle.report_model.specs.Verdicts.{kind_of}
use Rattle.report_model.specs.declared.report.Part.{Part}
use Rattle.report_model.specs.declared.verdict.VerdictKind.{VerdictKind}
use Rattle.report_verify.specs.Shown.{ShowsVerdict, IsFirstUnshown}
use Rattle.report_verify.specs.declared.fault.Unshown.{Unshown}
use Rattle.report_verify.specs.declared.fault.Unshown.TheVariants.{BadCompletion, BadLog, NotShown}
use Rattle.spec_model.specs.Spec.{Spec}
use Rattle.spec_model.specs.declared.question.Question.{Question}
use Rattle.spec_model.specs.declared.relation.Relation.{Relation}

-- ---- troubles

-- the trouble that a report's fault is
abbrev pub report_trouble : List ℕ → ReportFault → Trouble
report_trouble name (report.Refused code line) = trouble.Refused code name line
report_trouble name report.NoMemory = trouble.NoMemory

-- which check a report fails
abbrev pub check_of : Unshown → Check
check_of (BadCompletion flaw) = V1
check_of (BadLog fault) = V2
check_of (NotShown missing) = V3

-- ---- stages

-- the report that a text says of a specification
abbrev pub IsReportSaid : List Relation → List ℕ → List ℕ → Result ReadReport Trouble → Type 0
IsReportSaid relations name bytes outcome =
    ((r : ReadReport) × ReadsReport relations bytes r × (outcome ≡ Ok r))
    ⊎ ((fault : ReportFault) × RefusesReport relations bytes fault × (outcome ≡ Err (report_trouble name fault)))

-- the report
abbrev pub IsReportRead : List (List ℕ × List ℕ) → List Relation → List ℕ → Result ReadReport Trouble → Type 0
IsReportRead told relations name = IsReportSaid relations name (document told name)

-- the job: the report shows its verdict, whose kind is told, or the first check that it fails, with the line of the part
abbrev pub IsJudged : Spec → Question → List ℕ → ReadReport → Result VerdictKind Trouble → Type 0
IsJudged s question name r outcome =
    (ShowsVerdict s question r.report × (outcome ≡ Ok (kind_of r.report.verdict)))
    ⊎ ((part : Part) × (why : Unshown) × IsFirstUnshown s question r.report part why
    × (outcome ≡ Err (trouble.Unshown (check_of why) name (line_of r.lines part))))
