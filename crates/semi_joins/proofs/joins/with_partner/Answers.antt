use Rattle.std.proofs.Common.{◌≡◌, true, subst, sym}
use Rattle.semi_joins.specs.Kept.{AreNoted, IsJoined, is_key, key_at}
use Rattle.semi_joins.proofs.Keeping.{marked}
use Rattle.semi_joins.proofs.Marking.{below_all, below_next}
use Rattle.semi_joins.proofs.joins.with_partner.Goals as goal

pub loop-place-preserved : goal.loop-place-preserved
loop-place-preserved c =
    let here = c.args.links.now.here.items in
    let there = c.args.links.now.there.items in
    let old = c.args.old.now in
    let others = c.args.others.now in
    let theirs = c.args.theirs.now in
    let keys = c.in_ok-keys.keys in
    let row = c.index-rows-place.result in
    let noted = subst (λ l. AreNoted others theirs l keys) c.deref.ensures.value c.in_ok-keys.ensures in
    below_next (IsJoined old others theirs here there) c.args.rows.now c.loop-place.place c.loop-place.kept c.push.new.self
    c.is_joined.result row c.loop-place-test.true c.index-rows-place.is c.in_ok-push.ensures
    (λ joins. c.is_joined.ensures joins.kept (subst (λ l. is_key keys (key_at l row) ≡ true)
    (sym c.deref-in-loop-place.ensures.value) (marked keys old theirs others here there c.loop-place.place row noted joins)))
    c.loop-place.invariant

pub returns : goal.returns
returns c =
    let here = c.args.links.now.here.items in
    let there = c.args.links.now.there.items in
    below_all (IsJoined c.args.old.now c.args.others.now c.args.theirs.now here there)
    c.args.rows.now c.loop-place.place c.loop-place.kept c.loop-place-test.false c.loop-place.invariant
