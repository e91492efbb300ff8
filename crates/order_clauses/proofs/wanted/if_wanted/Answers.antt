use Rattle.std.proofs.Common.{◌∙◌, sym}
use Rattle.std.proofs.lemmas.Result.{on_ok_weaker}
use Rattle.order_clauses.proofs.Reading.{item_at}
use Rattle.order_clauses.proofs.WantedClauses.{wanted_none, wanted_some}
use Rattle.order_clauses.proofs.wanted.if_wanted.Goals as goal

pub returns-then-not-is_wanted : goal.returns-then-not-is_wanted
returns-then-not-is_wanted c =
    let r = item_at c.args.sayings.now.spec.relations c.args.rel.0 c.requires in
    wanted_none c.args.sayings.now c.args.rel r.0 c.args.steps.now r.1 (sym c.is_wanted.ensures ∙ c.if-not-is_wanted.true)

pub returns : goal.returns
returns c =
    on_ok_weaker c.of_relation.result
    (wanted_some c.args.sayings.now c.args.rel c.relation.result.now c.args.steps.now c.of_relation.new.steps
    c.relation.ensures.value (sym c.is_wanted.ensures ∙ c.if-not-is_wanted.false))
    c.of_relation.ensures
