-- The tree of a report that can be written says the report, on whatever lines.
use Rattle.std.proofs.Common.{◌≡◌, List, None, Ok, refl, sym, ap, subst}
use Rattle.currency_report.specs.Claimed.{claim_said}
use Rattle.currency_report.specs.Completed.{all_completed}
use Rattle.currency_report.specs.Reads.{said, log_said, report_of}
use Rattle.currency_report.specs.declared.report.Lines.{Lines}
use Rattle.log_form.specs.Form.{first_fault}
use Rattle.log_syntax.specs.declared.trees.ReadLog.{ReadLog}
use Rattle.refutation_log.specs.declared.log.Log.{Log}
use Rattle.report_model.specs.declared.report.Report.{Report}
use Rattle.report_reread.specs.Trees.{unlined_report, tree_of}
use Rattle.report_syntax.specs.declared.tree.ClaimTree.{ClaimTree}
use Rattle.report_syntax.specs.declared.tree.CompletionTree.{CompletionTree}
use Rattle.report_syntax.specs.declared.tree.ReportTree.{ReportTree}
use Rattle.report_syntax.specs.declared.tree.Version.{Version}
use Rattle.report_syntax.specs.declared.tree.Version.TheVariants.{Second}
use Rattle.report_write.specs.Writable.{IsWritableReport}
use Rattle.spec_model.specs.Facts.{AreRelations}
use Rattle.spec_model.specs.declared.relation.Relation.{Relation}
use Rattle.report_reread.proofs.ClaimTrees.{claim_of}
use Rattle.report_reread.proofs.Later.{completions_of}
use Rattle.report_reread.proofs.Unlined.{claim_too, completions_too}

-- a log that is well formed is what a report has
log_of : (relations : List Relation) (t : ReadLog) (log : Log) → t.log ≡ log → first_fault relations log ≡ None
    → log_said relations t ≡ Ok log
log_of relations t log is well_formed = rw (is, well_formed) refl

-- what the parts of a tree say is what the tree says
says_parts : (relations : List Relation) (t : ReportTree) (r : Report) → claim_said relations t.verdict.line
    t.verdict.claim ≡ Ok r.verdict
    → all_completed t.version relations t.completions ≡ Ok r.completions → log_said relations t.log ≡ Ok r.log
    → said relations t ≡ Ok (report_of t r.verdict r.completions r.log)
unfolding said
says_parts relations t r claim completions log = rw (claim, completions, log) refl

pub says : (relations : List Relation) (r : Report) → AreRelations relations → IsWritableReport relations r → (t : ReportTree)
    → unlined_report t ≡ tree_of relations r → (lines : Lines) × (said relations t ≡ Ok (record { report = r; lines = lines }))
says relations r are of t is =
    let version : t.version ≡ Second = ap (λ (q : ReportTree). q.version) is in
    let log : t.log.log ≡ r.log = ap (λ (q : ReportTree). q.log.log) is in
    let claim = claim_too relations 0 t.verdict.line t.verdict.claim r.verdict
    (subst (λ (c : ClaimTree). claim_said relations 0 c ≡ Ok r.verdict)
    (sym (ap (λ (q : ReportTree). q.verdict.claim) is)) (claim_of relations 0 r.verdict are of.verdict)) in
    let second = completions_too relations t.completions r.completions
    (subst (λ (cs : List CompletionTree). all_completed Second relations cs ≡ Ok r.completions)
    (sym (ap (λ (q : ReportTree). q.completions) is))
    (completions_of relations r.completions are of.completions.each of.cover)) in
    let completions = subst (λ (v : Version). all_completed v relations t.completions ≡ Ok r.completions) (sym version) second in (
      (report_of t r.verdict r.completions r.log).lines,
      says_parts relations t r claim completions
          (log_of relations t.log r.log log of.well_formed),
    )
