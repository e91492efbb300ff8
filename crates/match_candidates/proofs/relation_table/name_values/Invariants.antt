use Rattle.std.proofs.Common.{◌≡◌, map, take}
use Rattle.currency_base.specs.declared.value.Value.TheVariants.{Text}
use Rattle.match_candidates.proofs.relation_table.name_values.Given as goal

abbrev pub invariant-loop-name : goal.invariant-loop-name
invariant-loop-name l = l.values ≡ map (λ name. Text name) (take l.name-index l.name-items)
