-- The lines of a report's parts.
use Rattle.std.specs.Prelude.{◌≡◌, ◌<◌, ℕ, length}
use Rattle.std.specs.List.{slice_index_or}
use Rattle.report_model.specs.Verdicts.{item_count}
use Rattle.report_model.specs.declared.report.Part.{Part}
use Rattle.report_model.specs.declared.report.Part.TheVariants.{Verdict, Item, Completion, Step}
use Rattle.report_model.specs.declared.report.Report.{Report}
use Rattle.currency_report.specs.declared.report.Lines.{Lines}

-- the lines have the part
abbrev pub HasPart : Lines → Part → Type 0
HasPart lines Verdict = Unit {0}
HasPart lines (Item place) = place < length lines.items
HasPart lines (Completion place) = place < length lines.completions
HasPart lines (Step place) = place < length lines.steps

-- the line of a part's first word
abbrev pub line_of : Lines → Part → ℕ
line_of lines Verdict = lines.verdict
line_of lines (Item place) = slice_index_or lines.items place 0
line_of lines (Completion place) = slice_index_or lines.completions place 0
line_of lines (Step place) = slice_index_or lines.steps place 0

-- there is a line for each item, completion and step of a report
pub record AreLinesOf (report : Report) (lines : Lines) : Type 0 where
  pub items : length lines.items ≡ item_count report.verdict
  pub completions : length lines.completions ≡ length report.completions
  pub steps : length lines.steps ≡ length report.log.steps
