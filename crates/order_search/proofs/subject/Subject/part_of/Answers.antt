use Rattle.std.proofs.Common.{◌<◌, length, subst, sym}
use Rattle.order_literals.specs.Numbers.{Numbers}
use Rattle.order_literals.specs.Statements.{statements_of}
use Rattle.order_search.specs.Kept.{vars_of}
use Rattle.order_search.specs.Searches.{Subject}
use Rattle.order_search.proofs.PartNumbers.{before_row, last_row, meant, stands_in, top_row}
use Rattle.order_search.proofs.subject.Subject.part_of.Goals as goal

pub meaning_of-requires : goal.meaning_of-requires
meaning_of-requires c =
    subst (λ (n : Numbers). c.args.var < length (statements_of n)) (sym c.self.invariant)
    (subst (λ (s : Subject). c.args.var < length (vars_of s)) (sym c.self.view_is) c.requires.within)

pub part_of_row-requires-clause-row : goal.part_of_row-requires-clause-row
part_of_row-requires-clause-row c =
    before_row c.args.self.now.spec c.args.self.now.wanted c.args.var c.in-Before.rel _ c.in-Before.earlier _
    (meant c.args.self.now _ c.self.inside.numbering c.args.var _ _ c.self.view_is c.self.invariant c.meaning_of.ensures
    c.in-Before.is)

pub part_of_row-requires-in-Top-clause-row : goal.part_of_row-requires-in-Top-clause-row
part_of_row-requires-in-Top-clause-row c =
    top_row c.args.self.now.spec c.args.self.now.wanted c.args.var c.in-Top.rel _ c.in-Top.row
    (meant c.args.self.now _ c.self.inside.numbering c.args.var _ _ c.self.view_is c.self.invariant c.meaning_of.ensures
    c.in-Top.is)

pub part_of_row-requires-in-Last-clause-row : goal.part_of_row-requires-in-Last-clause-row
part_of_row-requires-in-Last-clause-row c =
    last_row c.args.self.now.spec c.args.self.now.wanted c.args.var c.in-Last.rel _ c.in-Last.row
    (meant c.args.self.now _ c.self.inside.numbering c.args.var _ _ c.self.view_is c.self.invariant c.meaning_of.ensures
    c.in-Last.is)

pub returns-in-Before : goal.returns-in-Before
returns-in-Before c =
    stands_in c.args.self.now c.args.parts.now c.part_of_row.result c.args.var _ c.requires.parts
    (meant c.args.self.now _ c.self.inside.numbering c.args.var _ _ c.self.view_is c.self.invariant c.meaning_of.ensures
    c.in-Before.is) c.part_of_row.ensures

pub returns-in-Top : goal.returns-in-Top
returns-in-Top c =
    stands_in c.args.self.now c.args.parts.now c.part_of_row-in-Top.result c.args.var _ c.requires.parts
    (meant c.args.self.now _ c.self.inside.numbering c.args.var _ _ c.self.view_is c.self.invariant c.meaning_of.ensures
    c.in-Top.is) c.part_of_row-in-Top.ensures

pub returns-in-Last : goal.returns-in-Last
returns-in-Last c =
    stands_in c.args.self.now c.args.parts.now c.part_of_row-in-Last.result c.args.var _ c.requires.parts
    (meant c.args.self.now _ c.self.inside.numbering c.args.var _ _ c.self.view_is c.self.invariant c.meaning_of.ensures
    c.in-Last.is) c.part_of_row-in-Last.ensures
