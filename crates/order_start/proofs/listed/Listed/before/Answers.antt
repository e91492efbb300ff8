use Rattle.std.proofs.Common.{◌≡◌, ◌<◌, Some, length, slice_get, sym, subst}
use Rattle.currency_base.specs.Literals.{var_of}
use Rattle.order_literals.specs.Statements.{statements_of}
use Rattle.order_start.specs.Lists.{Listed, slot_of}
use Rattle.order_start.proofs.Pairing.{pair_at}
use Rattle.order_start.proofs.listed.Listed.before.Goals as goal

pub before-requires : goal.before-requires
before-requires c =
    let fields = c.self.inside in
    let seen : Listed = record {
      numbers = fields.numbering.now;
      known = fields.known.now.given;
      rel = fields.rel;
      attr =
          fields.attr;
      rows = fields.rows.now;
      turned = fields.turned;
    } in
    pair_at seen c.args.first c.args.second c.row.result c.row-2.result c.self.invariant
    (subst (λ (l : Listed). c.args.first < length l.rows) (sym c.self.view_is) c.requires.first)
    (subst (λ (l : Listed). c.args.second < length l.rows) (sym c.self.view_is) c.requires.second) c.requires.differ
    (subst (λ (l : Listed). slice_get l.rows (slot_of l c.args.first) ≡ Some c.row.result) (sym c.self.view_is) c.row.ensures)
    (subst (λ (l : Listed). slice_get l.rows (slot_of l c.args.second) ≡ Some c.row-2.result) (sym c.self.view_is)
    c.row-2.ensures)

pub returns : goal.returns
returns c =
    subst (λ (l : Listed). var_of c.before-2.result < length (statements_of l.numbers)) c.self.view_is
    (c.one_literal.ensures.within (statements_of c.self.inside.numbering.now) c.before-2.result _ c.before-2.ensures)
