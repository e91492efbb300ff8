use Rattle.std.proofs.Common.{◌≡◌, ◌+◌, ◌^◌, ◌∙◌, ℕ, List, length, get_or, refl, sym, ap, subst, arith}
use Rattle.std.specs.List.{sum_by}
use Rattle.currency_base.specs.declared.ids.RowId.{RowId}
use Rattle.spec_limits.proofs.OfSpec.{read_at, rule_at, rule_sum}
use Rattle.spec_edits.specs.Counted.{IsCounted}
use Rattle.spec_edits.specs.Edits.{without_rule}
use Rattle.spec_edits.proofs.Counting.{counted_without_rule, rule_within}
use Rattle.spec_edits.proofs.rules.left_without_rule.Goals as goal

pub rule_instances-requires : goal.rule_instances-requires
rule_instances-requires c =
    let s = c.args.spec.now in
    let rule = c.index-rules-rule.result in
    let read : rule ≡ get_or s.rules c.args.rule.0 rule = rw c.rules.ensures.value at c.index-rules-rule.is in
    let at = read_at s.rules c.args.rule.0 c.args.rule.0 rule refl c.requires.there read in
    let of = rule_at s.relations s.rules c.args.rule.0 rule c.rules.ensures.facts c.requires.there read in
    let sum = ap (λ (es : List (List RowId)). sum_by (λ (rows : List RowId). length rows ^ rule.vars) es)
    c.as_slice-entities.ensures
    ∙ rule_sum s.relations c.args.lists.now rule c.get.result.now c.requires.counted.rows of c.get.ensures in
    omega (arith, sum, rule_within s c.args.rule.0 rule c.args.lists.now c.args.left c.requires.counted at)

pub overflow_add-result : goal.overflow_add-result
overflow_add-result c =
    let s = c.args.spec.now in
    let rule = c.index-rules-rule.result in
    let read : rule ≡ get_or s.rules c.args.rule.0 rule = rw c.rules.ensures.value at c.index-rules-rule.is in
    let at = read_at s.rules c.args.rule.0 c.args.rule.0 rule refl c.requires.there read in
    let of = rule_at s.relations s.rules c.args.rule.0 rule c.rules.ensures.facts c.requires.there read in
    let sum = ap (λ (es : List (List RowId)). sum_by (λ (rows : List RowId). length rows ^ rule.vars) es)
    c.as_slice-entities.ensures
    ∙ rule_sum s.relations c.args.lists.now rule c.get.result.now c.requires.counted.rows of c.get.ensures in
    omega (
      arith,
      sum,
      c.rule_instances.ensures,
      rule_within s c.args.rule.0 rule c.args.lists.now c.args.left
          c.requires.counted at,
    )

pub returns : goal.returns
returns c =
    let s = c.args.spec.now in
    let rule = c.index-rules-rule.result in
    let read : rule ≡ get_or s.rules c.args.rule.0 rule = rw c.rules.ensures.value at c.index-rules-rule.is in
    let at = read_at s.rules c.args.rule.0 c.args.rule.0 rule refl c.requires.there read in
    let of = rule_at s.relations s.rules c.args.rule.0 rule c.rules.ensures.facts c.requires.there read in
    let sum = ap (λ (es : List (List RowId)). sum_by (λ (rows : List RowId). length rows ^ rule.vars) es)
    c.as_slice-entities.ensures
    ∙ rule_sum s.relations c.args.lists.now rule c.get.result.now c.requires.counted.rows of c.get.ensures in
    subst (λ (n : ℕ). IsCounted (without_rule s c.args.rule.0) c.args.lists.now (c.args.left + n))
    (sym (c.rule_instances.ensures ∙ sum))
    (counted_without_rule s c.args.rule.0 rule c.args.lists.now c.args.left c.requires.counted at)
