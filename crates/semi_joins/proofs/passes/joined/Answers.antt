use Rattle.std.proofs.Common.{subst}
use Rattle.semi_joins.specs.Kept.{AreLinks}
use Rattle.semi_joins.proofs.Keeping.{stays_all}
use Rattle.semi_joins.proofs.passes.joined.Goals as goal

pub returns : goal.returns
returns c =
    let tests = c.args.conditions.now.tests in
    let here = c.in_ok-links.links.here.items in
    let there = c.in_ok-links.links.there.items in
    let ones = subst (λ l. AreLinks tests l c.as_slice-2.result.now here there) c.as_slice.ensures c.in_ok-links.ensures in
    let links = subst (λ l. AreLinks tests c.args.one.now.terms l here there) c.as_slice-2.ensures ones in
    stays_all c.args.instance.now.relations tests c.args.one.now c.args.other.now c.args.old.now c.args.theirs.now
    c.in_ok-kept.kept c.rows_of-rows.result.now c.rows_of-others.result.now here there c.rows_of-rows.ensures
    c.rows_of-others.ensures links c.in_ok-kept.ensures
