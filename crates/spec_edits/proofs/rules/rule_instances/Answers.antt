use Rattle.std.proofs.Common.{◌^◌, ◌∙◌, ℕ, List, Option, length, sym, refl, subst}
use Rattle.std.specs.List.{sum_by}
use Rattle.std.specs.Option.{IsSome}
use Rattle.currency_base.specs.declared.ids.RowId.{RowId}
use Rattle.spec_edits.proofs.RuleEdits.{some_left, told_left}
use Rattle.spec_edits.proofs.rules.rule_instances.Goals as goal

pub unwrap-left-requires : goal.unwrap-left-requires
unwrap-left-requires c =
    let n = sum_by (λ (rows : List RowId). length rows ^ c.args.vars) c.args.entities.now in
    subst (λ (o : Option ℕ). IsSome o) (sym (c.left_by_rule.ensures ∙ some_left n c.requires)) refl

pub returns : goal.returns
returns c =
    told_left (sum_by (λ (rows : List RowId). length rows ^ c.args.vars) c.args.entities.now) c.unwrap-left.result
    (sym c.left_by_rule.ensures ∙ c.unwrap-left.ensures)
