use Rattle.std.proofs.Common.{sym, subst}
use Rattle.spec_model.specs.Facts.{AreRules}
use Rattle.kept_items.specs.Steps.{marked}
use Rattle.kept_items.proofs.Places.{read_item}
use Rattle.kept_items.proofs.Putting.{rule_fits}
use Rattle.kept_items.proofs.copying.put_rules.Goals as goal

pub put_rule-requires-clause-fits : goal.put_rule-requires-clause-fits
put_rule-requires-clause-fits c =
    let rules = c.args.whole.now.rules in
    let items = c.rules-rule-items in
    let here = read_item rules items.result.now c.loop-rule.rule-index c.rule-item.result items.ensures.value
    c.loop-rule-test.true c.rule-item.is in
    let fits = subst (λ relations. AreRules relations (marked c.args.marks.now c.args.at.now rules))
    (sym c.loop-rule.invariant.relations) c.requires.fits in
    rule_fits c.loop-rule.part.relations c.args.marks.now c.loop-rule.at rules c.loop-rule.rule-index c.rule-item.result
    c.loop-rule.part.rules _ fits here c.loop-rule.invariant.kept
