use Rattle.std.proofs.Common.{◌≡◌, ◌<◌, length, sym, subst}
use Rattle.order_literals.specs.Numbers.{is_wanted}
use Rattle.order_start.specs.Lists.{Subject}
use Rattle.order_start.proofs.Subjects.{rel_within, wanted_is}
use Rattle.order_start.proofs.source.Source.is_wanted.Goals as goal

pub is_wanted-requires : goal.is_wanted-requires
is_wanted-requires c =
    let fields = c.self.inside in
    let seen : Subject = record {
      relations = fields.spec.now.relations;
      wanted = fields.wanted.now;
      numbers =
          fields.numbering.now;
      known = fields.known.now.given;
    } in
    rel_within seen c.args.rel.0 c.self.invariant (subst (λ (s : Subject). c.args.rel.0 < length s.relations)
    (sym c.self.view_is) c.requires)

pub returns : goal.returns
returns c =
    let fields = c.self.inside in
    let seen : Subject = record {
      relations = fields.spec.now.relations;
      wanted = fields.wanted.now;
      numbers =
          fields.numbering.now;
      known = fields.known.now.given;
    } in
    subst (λ (s : Subject). c.is_wanted.result ≡ is_wanted s.wanted.currents c.args.rel.0) c.self.view_is
    (wanted_is seen c.args.rel.0 c.is_wanted.result c.self.invariant
    (subst (λ (s : Subject). c.args.rel.0 < length s.relations) (sym c.self.view_is) c.requires) c.is_wanted.ensures)
