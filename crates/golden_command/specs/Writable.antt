-- What can be told of what is found of the entities of a relation.
use Rattle.std.specs.Prelude.{◌≡◌, All, length}
use Rattle.golden_values.specs.Golden.{IsPosed}
use Rattle.golden_values.specs.declared.field.Golden.{Golden}
use Rattle.golden_values.specs.declared.field.Golden.TheVariants as golden
use Rattle.report_write.specs.Writable.{IsWritableReport}
use Rattle.spec_model.specs.Spec.{Spec}
use Rattle.spec_model.specs.declared.relation.Relation.{Relation}

-- as many records as entities, each with as many fields as there are attributes; a report that can be written
abbrev pub IsWritableGolden : Spec → Relation → Golden → Type 0
IsWritableGolden s r (golden.Records table) =
    (length table ≡ length r.entities) × All (λ fields. length fields ≡ length r.attrs) table
IsWritableGolden s r golden.Inconsistent = Unit {0}
IsWritableGolden s r (golden.Undecided p report) = IsPosed s p × IsWritableReport s.relations report
