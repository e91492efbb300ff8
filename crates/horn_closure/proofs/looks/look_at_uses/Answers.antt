use Rattle.std.proofs.Common.{◌≡◌, ◌+◌, ◌-◌, slice_index, sym, refl, arith}
use Rattle.std.proofs.lemmas.List.{get_or_read}
use Rattle.std.proofs.lemmas.Option.{slice_get_read, slice_get-get_or}
use Rattle.horn_closure.proofs.UseFacts.{use_there}
use Rattle.horn_closure.proofs.LookFacts.{walked_none, walked_more, walked_all}
use Rattle.horn_closure.proofs.looks.look_at_uses.Goals as goal

pub loop-at-init : goal.loop-at-init
loop-at-init c =
    let there = slice_get_read c.args.uses.now.lasts.items _ c.args.slot _ refl c.requires.within c.index-at.ensures in
    let last : slice_index c.args.uses.now.lasts.items c.args.slot ≡ c.index-at.result.now =
    sym (get_or_read _ _ _ c.requires.within c.index-at.ensures 0) in
    record {
      cells = refl;
      within = c.requires.uses.linked.lasts_in c.args.slot c.index-at.result.now there;
      walked = rw last (walked_none _ _ _ _ _);
    }

pub look-requires-clause-there : goal.look-requires-clause-there
look-requires-clause-there c = c.requires.uses.linked.by_clauses (c.loop-at.at - 1) _
    (use_there _ _ _ c.loop-at-test.true c.loop-at.invariant.within c.index-one.ensures)

pub loop-at-smaller : goal.loop-at-smaller
loop-at-smaller c = omega (
  arith,
  c.requires.uses.linked.befores (c.loop-at.at - 1) _
      (use_there _ _ _ c.loop-at-test.true c.loop-at.invariant.within c.index-one.ensures),
  c.loop-at-test.true,
)

pub loop-at-preserved : goal.loop-at-preserved
loop-at-preserved c =
    let at_is : c.loop-at.at ≡ (c.loop-at.at - 1) + 1 = omega (arith, c.loop-at-test.true) in
    record {
      cells = cc;
      within = omega (
        arith,
        c.requires.uses.linked.befores (c.loop-at.at - 1) _
            (use_there _ _ _ c.loop-at-test.true c.loop-at.invariant.within c.index-one.ensures),
        c.loop-at.invariant.within,
      );
      walked = walked_more _ _ _ _ _ _ _ _ _ _ at_is (use_there _ _ _ c.loop-at-test.true c.loop-at.invariant.within
          c.index-one.ensures) c.loop-at.invariant.walked c.in_ok-look.ensures.ok;
    }

pub returns-clause-ok : goal.returns-clause-ok
returns-clause-ok c =
    walked_all _ _ _ _ _ _ _ _ _ c.requires.uses (slice_get-get_or c.args.uses.now.lasts.items c.args.slot 0 c.requires.within)
    (omega (arith, c.loop-at-test.false)) c.loop-at.invariant.walked
