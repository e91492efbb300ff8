-- What a report says beside its log.
use Rattle.std.specs.Prelude.{ℕ, List, map, Result, Ok}
use Rattle.log_syntax.specs.declared.trees.ReadLog.{ReadLog}
use Rattle.report_model.specs.declared.verdict.Verdict.{Verdict}
use Rattle.report_syntax.specs.declared.tree.ReportTree.{ReportTree}
use Rattle.spec_model.specs.Completion.{Rankings}
use Rattle.spec_model.specs.declared.relation.Relation.{Relation}
use Rattle.currency_report.specs.Claimed.{claim_said, item_lines}
use Rattle.currency_report.specs.Completed.{all_completed}
use Rattle.currency_report.specs.Outcomes.{and_then}
use Rattle.currency_report.specs.Reads.{log_said}
use Rattle.currency_report.specs.declared.report.ReadReport.{ReadReport}
use Rattle.currency_report.specs.declared.report.ReportFault.{ReportFault}
use Rattle.currency_report.specs.declared.said.Parts.{Parts}

-- a verdict and completions, with the lines of a tree
abbrev pub parts_of : ReportTree → Verdict → List Rankings → Parts
parts_of t verdict completions = record {
  verdict = verdict;
  items = item_lines t.verdict.claim;
  completions = completions;
  begins = map (λ c. c.line) t.completions;
}

-- the parts that a tree says of a specification, or the first refusal: of the verdict, of the completions, of the log
abbrev pub parts_said : List Relation → ReportTree → Result Parts ReportFault
parts_said relations t =
    and_then (claim_said relations t.verdict.line t.verdict.claim)
    (λ verdict. and_then (all_completed t.version relations t.completions)
    (λ completions. and_then (log_said relations t.log)
    (λ log. Ok (parts_of t verdict completions))))

-- the report of these parts with the verdict's line and a log
abbrev pub report_with : Parts → ℕ → ReadLog → ReadReport
report_with parts line read = record {
  report = record { verdict = parts.verdict; completions = parts.completions; log = read.log };
  lines = record { verdict = line; items = parts.items; completions = parts.begins; steps = read.steps };
}
