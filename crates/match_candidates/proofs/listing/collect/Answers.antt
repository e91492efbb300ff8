use Rattle.std.proofs.Common.{sym, subst}
use Rattle.std.proofs.lemmas.List.Elements.{All-contains}
use Rattle.query_model.specs.Fitting.{IsDisjunct}
use Rattle.match_candidates.specs.Found.{Adds}
use Rattle.match_candidates.specs.Meant.{IsMatchBy}
use Rattle.match_candidates.proofs.Whole.{last_disjunct, more_disjuncts}
use Rattle.match_candidates.proofs.listing.collect.Goals as goal

pub collect_by-requires : goal.collect_by-requires
collect_by-requires c =
    All-contains IsDisjunct c.args.disjuncts.now c.index-disjuncts-place.result c.requires.fit
    (c.loop-place.place, c.loop-place-test.true, sym c.index-disjuncts-place.is)

pub returns-then-branch : goal.returns-then-branch
returns-then-branch c =
    last_disjunct c.args.tables.now c.args.disjuncts.now c.loop-place.place c.index-disjuncts-place.result c.loop-place-test.true
    c.index-disjuncts-place.is c.args.found.now c.loop-place.found c.collect_by.new.found c.loop-place.invariant
    c.in_ok-collect_by.field-0
    c.if-branch.true c.in_ok-collect_by.ensures

pub loop-place-preserved : goal.loop-place-preserved
loop-place-preserved c =
    more_disjuncts c.args.tables.now c.args.disjuncts.now c.loop-place.place c.index-disjuncts-place.result c.loop-place-test.true
    c.index-disjuncts-place.is c.args.found.now c.loop-place.found c.collect_by.new.found c.loop-place.invariant
    (subst (Adds (IsMatchBy c.args.tables.now c.index-disjuncts-place.result c.loop-place.place) c.loop-place.found
    c.collect_by.new.found)
    c.if-branch.false c.in_ok-collect_by.ensures)
