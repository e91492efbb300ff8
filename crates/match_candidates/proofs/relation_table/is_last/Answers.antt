use Rattle.std.proofs.Common.{◌-◌, ◌∙◌, Bor, length, sym}
use Rattle.currency_base.specs.declared.value.Value.{Value}
use Rattle.match_candidates.proofs.Once.{is_contained}
use Rattle.match_candidates.proofs.relation_table.is_last.Goals as goal

pub returns-in-Some : goal.returns-in-Some
returns-in-Some c holds =
    is_contained (λ (v : Bor Value). v.now) c.args.values.now (length c.args.values.now - 1) c.in-Some.last.now c.args.value.now
    (sym c.in-Some.ensures.value) (sym c.test.ensures ∙ holds)
