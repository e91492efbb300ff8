-- Which report a text says.
use Rattle.std.specs.Prelude.{◌≡◌, ◌⊎◌, ℕ, List, map, Option, Some, None, Result, Ok, Err, slice_index_or}
use Rattle.currency_base.specs.declared.error_code.ErrorCode.TheVariants as code
use Rattle.log_form.specs.Form.{first_fault}
use Rattle.log_form.specs.declared.form.FormFault.{FormFault}
use Rattle.log_form.specs.declared.form.FormFault.TheVariants as form
use Rattle.log_syntax.specs.declared.trees.ReadLog.{ReadLog}
use Rattle.refutation_log.specs.declared.log.Log.{Log}
use Rattle.spec_model.specs.Completion.{Rankings}
use Rattle.spec_model.specs.declared.relation.Relation.{Relation}
use Rattle.report_model.specs.declared.verdict.Verdict.{Verdict}
use Rattle.report_syntax.specs.Reads.{RefusesReportText}
use Rattle.report_syntax.specs.Spells.{SpellsReport}
use Rattle.report_syntax.specs.declared.tree.ReportTree.{ReportTree}
use Rattle.text_grammar.specs.Texts.{ReadsText}
use Rattle.text_tokens.specs.declared.token.TextFault.{TextFault}
use Rattle.text_tokens.specs.declared.token.TextFault.TheVariants as text
use Rattle.currency_report.specs.Claimed.{claim_said, item_lines}
use Rattle.currency_report.specs.Completed.{all_completed}
use Rattle.currency_report.specs.Outcomes.{and_then}
use Rattle.currency_report.specs.declared.report.ReadReport.{ReadReport}
use Rattle.currency_report.specs.declared.report.ReportFault.{ReportFault}
use Rattle.currency_report.specs.declared.report.ReportFault.TheVariants.{Refused, NoMemory}

-- the refusal of a log that is not well formed, at the line of the statement or the step at fault
abbrev pub log_fault_of : ReadLog → FormFault → ReportFault
log_fault_of r (form.Statement place code) = Refused code (slice_index_or r.statements place 0)
log_fault_of r (form.Step place) = Refused code.UnknownName (slice_index_or r.steps place 0)

-- a log, or the refusal of what is at fault first in it
abbrev pub log_or_fault : ReadLog → Option FormFault → Result Log ReportFault
log_or_fault r None = Ok r.log
log_or_fault r (Some fault) = Err (log_fault_of r fault)

-- the log that a report has, or its first refusal
abbrev pub log_said : List Relation → ReadLog → Result Log ReportFault
log_said relations r = log_or_fault r (first_fault relations r.log)

-- a report with its lines
abbrev pub report_of : ReportTree → Verdict → List Rankings → Log → ReadReport
report_of t verdict completions log = record {
  report = record { verdict = verdict; completions = completions; log = log };
  lines = record {
    verdict = t.verdict.line;
    items = item_lines t.verdict.claim;
    completions = map (λ c. c.line) t.completions;
    steps = t.log.steps;
  };
}

-- the report that a tree says of a specification, or the first refusal: of the verdict and its items, of the completions, of
-- the log
unfoldable pub said : List Relation → ReportTree → Result ReadReport ReportFault
said relations t =
    and_then (claim_said relations t.verdict.line t.verdict.claim)
    (λ verdict. and_then (all_completed t.version relations t.completions)
    (λ completions. and_then (log_said relations t.log)
    (λ log. Ok (report_of t verdict completions log))))

-- a text says a report on a specification
pub record ReadsReport (relations : List Relation) (source : List ℕ) (r : ReadReport) : Type 0 where
  pub tree : ReportTree
  pub spelled : ReadsText SpellsReport source tree
  pub says : said relations tree ≡ Ok r

-- the refusal of a text that spells no report
abbrev pub fault_of : TextFault → ReportFault
fault_of (text.NotUtf8 line) = Refused code.NotUtf8 line
fault_of (text.Syntax line) = Refused code.Syntax line
fault_of text.NoMemory = NoMemory

-- a text spells a report that says nothing of a specification, and this is the first refusal
pub record SaysNothing (relations : List Relation) (source : List ℕ) (fault : ReportFault) : Type 0 where
  pub tree : ReportTree
  pub spelled : ReadsText SpellsReport source tree
  pub refuses : said relations tree ≡ Err fault

-- a text is refused as a report on a specification: it spells none, or what it spells says nothing of the specification
abbrev pub RefusesReport : List Relation → List ℕ → ReportFault → Type 0
RefusesReport relations source fault =
    ((t : TextFault) × RefusesReportText source t × (fault ≡ fault_of t)) ⊎ SaysNothing relations source fault
