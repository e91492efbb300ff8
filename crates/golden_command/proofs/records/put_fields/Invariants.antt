use Rattle.std.proofs.Common.{◌≡◌, ◌++◌, drop}
use Rattle.golden_command.specs.Text.{fields_from}
use Rattle.golden_command.proofs.records.put_fields.Given as goal

abbrev pub invariant-loop-attr : goal.invariant-loop-attr
invariant-loop-attr l =
    l.into ++ fields_from l.rows l.attr (drop l.attr l.fields) ≡ l.initial.into ++ fields_from l.rows 0 l.fields
