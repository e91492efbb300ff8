use Rattle.std.proofs.Common.{◌≡◌, ◌++◌, drop, map}
use Rattle.golden_command.proofs.records.header.Given as goal

abbrev pub invariant-loop-attr : goal.invariant-loop-attr
invariant-loop-attr l =
    l.header ++ map (λ a. a.name) (drop l.attr-index l.attr-items) ≡ l.initial.header ++ map (λ a. a.name) l.relation.attrs
