use Rattle.std.proofs.Common.{◌≡◌, subst}
use Rattle.order_literals.specs.Held.{IsOwnName}
use Rattle.order_literals.specs.Numbers.{Numbered}
use Rattle.order_literals.proofs.Saying.{last_said}
use Rattle.order_literals.proofs.numbering.Numbering.last_if.Goals as goal

pub returns-then-not-has_place-clause-none : goal.returns-then-not-has_place-clause-none
returns-then-not-has_place-clause-none c lit told =
    let said = last_said c.args.self.now c.args.rel c.args.attr c.args.row lit told in
    c.has_place.ensures.no c.if-not-has_place.true
    (rw c.self.view_is (record { table = said.0; is_table = said.1; attr_within = said.2 }))

pub returns-then-not-is_own_name-clause-none : goal.returns-then-not-is_own_name-clause-none
returns-then-not-is_own_name-clause-none c lit told =
    let said = last_said c.args.self.now c.args.rel c.args.attr c.args.row lit told in
    let here = rw c.self.view_is at c.table.ensures in
    let same : said.0 ≡ c.table.result.now = cc (said.1) in
    c.is_own_name.ensures.no c.if-not-is_own_name.true
    (subst (λ (t : Numbered). IsOwnName t c.args.attr.0 c.args.row) same said.3)
