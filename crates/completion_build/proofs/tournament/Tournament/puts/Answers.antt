use Rattle.std.proofs.Common.{not, sym, subst}
use Rattle.std.specs.Bool.{OnFalse}
use mathlib.Core.Bool.{beq}
use Rattle.order_literals.specs.Numbers.{IsPairOf}
use Rattle.completion_build.specs.Contests.{Contest, Puts}
use Rattle.completion_build.proofs.Decisions.{read_other}
use Rattle.completion_build.proofs.tournament.Tournament.puts.Goals as goal

pub returns-clause-no : goal.returns-clause-no
returns-clause-no c =
    let t = c.args.first in
    let u = c.args.second in
    let fields = c.self.inside in
    let seen : Contest = record {
      numbers = fields.numbering.now;
      truths = fields.assignment.now;
      rel =
          fields.rel;
      attr = fields.attr;
      rows = fields.rows.now;
    } in
    let pair = subst (λ (v : Contest). IsPairOf v.numbers v.rel.0 v.attr.0 t u) (sym c.self.view_is) c.requires in
    subst (λ (v : Contest). OnFalse (not (beq c.value.result c.negative.result)) (Puts v u t)) c.self.view_is
    (read_other c.one_literal.ensures.one c.pairs_are_decided.ensures.decided seen c.self.invariant t u pair
    c.before-lit.result c.before-lit.ensures c.var.result c.var.ensures.value
    c.value.result c.negative.result c.value.ensures c.negative.ensures)
