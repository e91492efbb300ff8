use Rattle.std.proofs.Common.{◌≡◌, ◌^◌, ◌∙◌, List, None, length, inr, sym, ap}
use Rattle.std.specs.List.{sum_by}
use Rattle.currency_base.specs.declared.ids.RowId.{RowId}
use Rattle.spec_limits.specs.Left.{left_of}
use Rattle.spec_limits.specs.Limits.{exceeded}
use Rattle.spec_limits.proofs.OfSpec.{rule_sum}
use Rattle.spec_edits.specs.Edits.{with_rule}
use Rattle.spec_edits.proofs.Counting.{above_with_rule, counted_rule}
use Rattle.spec_edits.proofs.RuleEdits.{listed, refused_instances, refused_parts, rule_fits, rules_longer}
use Rattle.spec_edits.proofs.rules.left_with_rule.Goals as goal

pub returns-in-Some-clause-due : goal.returns-in-Some-clause-due
returns-in-Some-clause-due c =
    inr (refused_parts c.args.spec.now c.args.rule.now c.in-Some.limit (sym c.limit_with_rule.ensures ∙ c.in-Some.is))

pub get-requires : goal.get-requires
get-requires c =
    let s = c.args.spec.now in
    let rule = c.args.rule.now in
    let within : exceeded (with_rule s rule) ≡ None = sym c.limit_with_rule.ensures ∙ c.in_default.is in
    listed s c.args.lists.now rule c.requires.counted.rows (rule_fits s rule c.requires.new within)

pub returns-in-Some-left_by_rule-clause-counted : goal.returns-in-Some-left_by_rule-clause-counted
returns-in-Some-left_by_rule-clause-counted c =
    let s = c.args.spec.now in
    let rule = c.args.rule.now in
    let within : exceeded (with_rule s rule) ≡ None = sym c.limit_with_rule.ensures ∙ c.in_default.is in
    let sum = ap (λ (es : List (List RowId)). sum_by (λ (rows : List RowId). length rows ^ rule.vars) es)
    c.as_slice-entities.ensures
    ∙ rule_sum s.relations c.args.lists.now rule c.get.result.now c.requires.counted.rows (rule_fits s rule c.requires.new within)
    c.get.ensures in
    counted_rule s rule c.args.lists.now c.args.left c.in-Some-left_by_rule.rest c.requires.counted within
    (sym (c.left_by_rule.ensures ∙ ap (left_of c.args.left) sum) ∙ c.in-Some-left_by_rule.is)

pub returns-in-Some-left_by_rule-clause-rules : goal.returns-in-Some-left_by_rule-clause-rules
returns-in-Some-left_by_rule-clause-rules c =
    let s = c.args.spec.now in
    let rule = c.args.rule.now in
    let within : exceeded (with_rule s rule) ≡ None = sym c.limit_with_rule.ensures ∙ c.in_default.is in
    rules_longer s rule c.are_rules.ensures c.requires.new within

pub returns-in-None-clause-due : goal.returns-in-None-clause-due
returns-in-None-clause-due c =
    let s = c.args.spec.now in
    let rule = c.args.rule.now in
    let within : exceeded (with_rule s rule) ≡ None = sym c.limit_with_rule.ensures ∙ c.in_default.is in
    let sum = ap (λ (es : List (List RowId)). sum_by (λ (rows : List RowId). length rows ^ rule.vars) es)
    c.as_slice-entities.ensures
    ∙ rule_sum s.relations c.args.lists.now rule c.get.result.now c.requires.counted.rows (rule_fits s rule c.requires.new within)
    c.get.ensures in
    inr (refused_instances s rule (above_with_rule s rule c.args.lists.now c.args.left c.requires.counted within
    (sym (c.left_by_rule.ensures ∙ ap (left_of c.args.left) sum) ∙ c.in-None.is)))
