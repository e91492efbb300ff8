use Rattle.std.proofs.Common.{◌||◌, ap, sym, ◌∙◌}
use Rattle.query_plan.proofs.Following.{follows_on}
use Rattle.query_plan.proofs.standing.joined.Goals as goal

pub returns-then-first : goal.returns-then-first
returns-then-first c = λ tests one other.
    follows_on tests c.args.first c.args.second c.args.first.is_below c.if-first-second.false
    (c.if-first.true ∙ sym (ap (λ u. u || c.args.second.is_below) c.if-first.true)) one other

pub returns-else-first : goal.returns-else-first
returns-else-first c = λ tests one other.
    follows_on tests c.args.first c.args.second c.args.second.is_below c.if-first-second.false
    (sym (ap (λ u. u || c.args.second.is_below) c.if-first.false)) one other
