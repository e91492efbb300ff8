use Rattle.std.proofs.Common.{subst}
use Rattle.order_clauses.specs.Subject.{Subject}
use Rattle.order_clauses.proofs.Reading.{AreNumbersOf, table_within, wanted_is}
use Rattle.order_clauses.proofs.sayings.Sayings.is_wanted.Goals as goal

pub is_wanted-requires : goal.is_wanted-requires
is_wanted-requires c =
    let n = c.self.inside.numbering.now in
    let are : AreNumbersOf c.args.self.now n = subst (λ (s : Subject). AreNumbersOf s n) c.self.view_is c.self.invariant in
    table_within c.args.self.now n c.args.rel.0 are c.requires

pub returns : goal.returns
returns c =
    let n = c.self.inside.numbering.now in
    let are : AreNumbersOf c.args.self.now n = subst (λ (s : Subject). AreNumbersOf s n) c.self.view_is c.self.invariant in
    wanted_is c.args.self.now n c.args.rel.0 c.is_wanted.result are c.requires c.is_wanted.ensures
