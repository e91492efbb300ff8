use Rattle.std.proofs.Common.{◌≡◌, ◌<◌, length, subst, sym}
use Rattle.order_clauses.proofs.Reading.{table_within, wanted_is}
use Rattle.order_literals.specs.Numbers.{is_wanted}
use Rattle.order_search.specs.Searches.{Subject}
use Rattle.order_search.proofs.subject.Subject.is_wanted.Goals as goal

pub is_wanted-requires : goal.is_wanted-requires
is_wanted-requires c =
    let f = c.self.inside in
    table_within (record { spec = f.spec.now; wanted = f.wanted }) f.numbering c.args.rel.0 c.self.invariant
    (subst (λ (s : Subject). c.args.rel.0 < length s.spec.relations) (sym c.self.view_is) c.requires)

pub returns : goal.returns
returns c =
    let f = c.self.inside in
    subst (λ (s : Subject). c.is_wanted.result ≡ is_wanted s.wanted.currents c.args.rel.0) c.self.view_is
    (wanted_is (record { spec = f.spec.now; wanted = f.wanted }) f.numbering c.args.rel.0 c.is_wanted.result c.self.invariant
    (subst (λ (s : Subject). c.args.rel.0 < length s.spec.relations) (sym c.self.view_is) c.requires) c.is_wanted.ensures)
