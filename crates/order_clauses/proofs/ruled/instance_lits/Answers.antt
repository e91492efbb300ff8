use Rattle.std.proofs.Common.{◌≡◌, ◌∙◌, subst, map, take}
use Rattle.std.proofs.lemmas.List.{take_all}
use Rattle.std.proofs.lemmas.Option.{slice_get-get_or}
use Rattle.std.proofs.lemmas.Result.{on_ok_weaker}
use Rattle.currency_base.specs.declared.pair.Pair.{Pair}
use Rattle.order_literals.specs.Said.{Said, not_before}
use Rattle.order_clauses.specs.Added.{Say}
use Rattle.order_clauses.specs.Subject.{variables}
use Rattle.order_clauses.proofs.RuleClauses.{say_premise, say_conclusion}
use Rattle.order_clauses.proofs.ruled.instance_lits.Goals as goal

pub loop-pair-preserved : goal.loop-pair-preserved
loop-pair-preserved c =
    say_premise (variables c.args.sayings.now) c.args.rel c.as_slice-pair-items.result.now c.loop-pair.pair-index _
    c.loop-pair.lits.items c.put.new.lits.items c.not_before.result
    (slice_get-get_or c.as_slice-pair-items.result.now c.loop-pair.pair-index _ c.loop-pair-test.true)
    c.loop-pair.invariant c.not_before.ensures c.in_ok-put.ensures

pub returns-in-Some : goal.returns-in-Some
returns-in-Some c =
    let said : Pair → Said = λ p. not_before c.args.rel p.attr p.earlier p.later in
    let all : take c.loop-pair.pair-index c.as_slice-pair-items.result.now ≡ c.args.instance.now.premises =
    take_all c.loop-pair.pair-index c.as_slice-pair-items.result.now c.loop-pair-test.false ∙ cc in
    let say = subst (λ ps. Say (variables c.args.sayings.now) c.loop-pair.lits.items (map said ps)) all c.loop-pair.invariant in
    on_ok_weaker c.put-in-Some.result
    (say_conclusion (variables c.args.sayings.now) c.args.rel c.args.instance.now c.in-Some.pair c.loop-pair.lits.items
    c.put-in-Some.new.lits.items c.before-in-Some.result
    c.in-Some.is say c.before-in-Some.ensures)
    c.put-in-Some.ensures
