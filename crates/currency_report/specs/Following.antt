-- A report's completions one by one: each is what its rankings say after those before it.
use Rattle.std.specs.Prelude.{List, [], ◌∷◌, ◌++◌, Result, Ok}
use Rattle.spec_model.specs.Completion.{Rankings}
use Rattle.spec_model.specs.declared.relation.Relation.{Relation}
use Rattle.report_syntax.specs.declared.tree.CompletionTree.{CompletionTree}
use Rattle.report_syntax.specs.declared.tree.Version.{Version}
use Rattle.currency_report.specs.Completed.{completed, later_completed, later_ones, all_completed}
use Rattle.currency_report.specs.Outcomes.{and_then}
use Rattle.currency_report.specs.declared.report.ReportFault.{ReportFault}

-- the completion that comes after these
abbrev pub next_completed : Version → List Relation → List Rankings → CompletionTree → Result Rankings ReportFault
next_completed version relations [] t = completed relations t
next_completed version relations (first ∷ more) t = later_completed version relations first t

-- these completions and those that come after them
abbrev pub going_on : Version → List Relation → List Rankings → List CompletionTree → Result (List Rankings) ReportFault
going_on version relations [] ts = all_completed version relations ts
going_on version relations (first ∷ more) ts =
    and_then (later_ones version relations first ts) (λ cs. Ok ((first ∷ more) ++ cs))
