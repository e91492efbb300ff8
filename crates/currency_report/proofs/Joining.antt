-- The parts of a report, joined with its log.
use Rattle.std.proofs.Common.{◌≡◌, List, Option, Some, None, Result, Ok, Err, refl}
use Rattle.log_form.specs.Form.{first_fault}
use Rattle.log_form.specs.declared.form.FormFault.{FormFault}
use Rattle.report_model.specs.declared.verdict.Verdict.{Verdict}
use Rattle.report_syntax.specs.declared.tree.ReportTree.{ReportTree}
use Rattle.spec_model.specs.Completion.{Rankings}
use Rattle.spec_model.specs.declared.relation.Relation.{Relation}
use Rattle.currency_report.specs.Claimed.{claim_said}
use Rattle.currency_report.specs.Completed.{all_completed}
use Rattle.currency_report.specs.Outcomes.{and_then, IsDue}
use Rattle.currency_report.specs.Parts.{parts_of, parts_said, report_with}
use Rattle.currency_report.specs.Reads.{log_or_fault, report_of, said}
use Rattle.currency_report.specs.declared.report.ReadReport.{ReadReport}
use Rattle.currency_report.specs.declared.report.ReportFault.{ReportFault}
use Rattle.currency_report.specs.declared.report.ReportFault.TheVariants.{Refused, NoMemory}
use Rattle.currency_report.specs.declared.said.Parts.{Parts}

module _ (t : ReportTree) where
  -- a report by the outcomes of its verdict, its completions and its log
  report_by : Result Verdict ReportFault → Result (List Rankings) ReportFault → Option FormFault → Result ReadReport ReportFault
  report_by v cs fault = and_then v
      (λ v. and_then cs (λ cs. and_then (log_or_fault t.log fault) (λ log. Ok (report_of t v cs log))))

  -- its parts by the same
  parts_by : Result Verdict ReportFault → Result (List Rankings) ReportFault → Option FormFault → Result Parts ReportFault
  parts_by v cs fault = and_then v (λ v. and_then cs (λ cs. and_then (log_or_fault t.log fault) (λ log. Ok (parts_of t v cs))))

  joined_by : (v : Result Verdict ReportFault) (cs : Result (List Rankings) ReportFault) (fault : Option FormFault)
      → report_by v cs fault ≡ and_then (parts_by v cs fault) (λ parts. Ok (report_with parts t.verdict.line t.log))
  unfolding report_by parts_by
  joined_by (Err e) cs fault = refl
  joined_by (Ok v) (Err e) fault = refl
  joined_by (Ok v) (Ok cs) (Some fault) = refl
  joined_by (Ok v) (Ok cs) None = refl

-- the report that a tree says is that of the parts that it says, with its log
pub joined : (relations : List Relation) (t : ReportTree)
    → said relations t ≡ and_then (parts_said relations t) (λ parts. Ok (report_with parts t.verdict.line t.log))
unfolding said report_by parts_by
joined relations t =
    joined_by t (claim_said relations t.verdict.line t.verdict.claim)
    (all_completed t.version relations t.completions) (first_fault relations t.log.log)

pub says : (relations : List Relation) (t : ReportTree) (parts : Parts) → parts_said relations t ≡ Ok parts
    → said relations t ≡ Ok (report_with parts t.verdict.line t.log)
says relations t parts due = rw (joined relations t, due) refl

pub refuses : (relations : List Relation) (t : ReportTree) (fault : ReportFault) → IsDue (parts_said relations t) (Err fault)
    → IsDue (said relations t) (Err fault)
refuses relations t (Refused code line) due = rw (joined relations t, due) refl
refuses relations t NoMemory due = tt
