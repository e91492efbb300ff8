use Rattle.std.proofs.Common.{◌≡◌, Some, length, slice_get, refl, ◌∙◌}
use Rattle.std.proofs.lemmas.Option.{slice_get_read, slice_get_within}
use Rattle.std.proofs.lemmas.Result.{IfOk-weaker}
use Rattle.completion_check.proofs.OneRule.{not_one}
use Rattle.completion_check.proofs.one_rule.satisfies_rule.Goals as goal

pub returns-clause-no : goal.returns-clause-no
returns-clause-no c =
    let rs = c.args.spec.now.relations in
    let rule = c.args.rule.now in
    let rel = rule.relation.0 in
    let r = c.index-relations-rule.result in
    let within = slice_get_within rs rel c.requires.rule.relation c.requires.rule.is_relation in
    let at : slice_get rs rel ≡ Some r =
    slice_get_read rs (length rs) rel r refl within (rw c.relations.ensures.value at c.index-relations-rule.is) in
    IfOk-weaker c.holds_on.result _ _
    (λ held fails is.
    not_one rs c.args.completion.now rule r c.as_slice-rankings.result.now at
    (c.as_slice-rankings.ensures ∙ c.relation.ensures) (fails is))
    c.holds_on.ensures.no
