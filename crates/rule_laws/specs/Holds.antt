-- When a completion makes the instances of a rule hold.
use Rattle.std.specs.Prelude.{◌≡◌, List, [], All, Option, Some, None, slice_index_or}
use Rattle.currency_base.specs.declared.ids.RowId.{RowId}
use Rattle.currency_base.specs.declared.pair.Pair.{Pair}
use Rattle.currency_base.specs.declared.row.Row.{Row}
use Rattle.denial_rules.specs.Instances.{instance_of}
use Rattle.denial_rules.specs.declared.instance.RuleInstance.{RuleInstance}
use Rattle.denial_rules.specs.declared.rule.Rule.{Rule}
use Rattle.spec_model.specs.Completion.{Before}
use Rattle.spec_model.specs.Satisfies.{Lists, IsChoice}

-- a pair holds: its earlier row stands before its later row, in its attribute
abbrev pub PairHolds : Lists → Pair → Type 0
PairHolds lists p = Before (slice_index_or lists p.attr.0 []) p.earlier p.later

-- what an instance concludes holds; where it concludes nothing, this never does
abbrev pub ConcludedHolds : Lists → Option Pair → Type 0
ConcludedHolds lists None = ⊥
ConcludedHolds lists (Some p) = PairHolds lists p

-- if the premises of an instance all hold, its conclusion does
abbrev pub InstanceHolds : Lists → RuleInstance → Type 0
InstanceHolds lists i = All (PairHolds lists) i.premises → ConcludedHolds lists i.conclusion

-- every instance of a rule holds
abbrev pub InstancesHold : List Row → Lists → Rule → Type 0
InstancesHold table lists rule = (rows : List RowId) → IsChoice table rule.vars rows
    → (i : RuleInstance) → instance_of rule table rows ≡ Some i → InstanceHolds lists i
