use Rattle.std.proofs.Common.{◌≡◌, drop}
use Rattle.text_write.specs.Spacing.{writes_all}
use Rattle.golden_command.specs.Text.{open_names}
use Rattle.golden_command.proofs.records.write_names.Given as goal

abbrev pub invariant-loop-attr : goal.invariant-loop-attr
invariant-loop-attr l =
    writes_all l.into (open_names (drop l.attr l.attrs) (drop l.attr l.fields))
    ≡ writes_all l.initial.into (open_names l.attrs l.fields)
