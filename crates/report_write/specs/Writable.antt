-- Which reports can be written, and are read as the same.
use Rattle.std.specs.Prelude.{◌≡◌, List, All, None, map, IsUtf8}
use Rattle.log_form.specs.Form.{first_fault}
use Rattle.refutation_log.specs.Writable.{AreFew, IsWritable}
use Rattle.spec_model.specs.declared.relation.Relation.{Relation}
use Rattle.report_model.specs.declared.report.Report.{Report}
use Rattle.report_model.specs.Writable.{IsWritableVerdict, IsWritableCompletion, AllCover}

-- a report that can be written, and is read as the same: its log can and is well formed, and no later completion has an empty
-- list where the first has another
pub record IsWritableReport (relations : List Relation) (r : Report) : Type 0 where
  pub verdict : IsWritableVerdict relations r.verdict
  pub completions : AreFew (IsWritableCompletion relations) r.completions
  pub cover : AllCover r.completions
  pub log : IsWritable r.log
  pub well_formed : first_fault relations r.log ≡ None

-- the names of a relation, of its attributes, its entities and its rows are text
pub record HasTextNames (r : Relation) : Type 0 where
  pub relation : IsUtf8 r.name
  pub attrs : All IsUtf8 (map (λ a. a.name) r.attrs)
  pub entities : All IsUtf8 r.entities
  pub rows : All IsUtf8 (map (λ row. row.name) r.rows)
