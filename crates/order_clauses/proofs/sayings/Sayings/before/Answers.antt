use Rattle.std.proofs.Common.{subst}
use Rattle.order_clauses.specs.Subject.{Subject}
use Rattle.order_clauses.proofs.Reading.{AreNumbersOf, pair_in, says_of}
use Rattle.order_clauses.proofs.sayings.Sayings.before.Goals as goal

pub before-requires : goal.before-requires
before-requires c =
    let n = c.self.inside.numbering.now in
    let are : AreNumbersOf c.args.self.now n = subst (λ (s : Subject). AreNumbersOf s n) c.self.view_is c.self.invariant in
    pair_in c.args.self.now n c.args.rel c.args.attr c.args.earlier c.args.later are c.requires

pub returns : goal.returns
returns c =
    let n = c.self.inside.numbering.now in
    let are : AreNumbersOf c.args.self.now n = subst (λ (s : Subject). AreNumbersOf s n) c.self.view_is c.self.invariant in
    says_of c.args.self.now n c.before-2.result _ are c.before-2.ensures
