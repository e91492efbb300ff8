use Rattle.std.proofs.Common.{length, refl}
use Rattle.std.proofs.lemmas.Option.{slice_get_read}
use Rattle.report_verify.proofs.Needing.{count_more, items_more, items_unmet}
use Rattle.report_verify.proofs.needs.check_items.Goals as goal

pub returns-in-Err-clause-unmet : goal.returns-in-Err-clause-unmet
returns-in-Err-clause-unmet c =
    let items = c.args.items.now in
    let at = slice_get_read items (length items) c.loop-at.at c.index-items-at.result refl c.loop-at-test.true
    c.index-items-at.is in
    items_unmet c.args.units.now.relations c.args.units.now.log items c.loop-at.at c.index-items-at.result
    c.loop-at.place c.in-Err.fault at
    c.loop-at.invariant.count c.loop-at.invariant.derived c.in-Err.ensures.unmet

pub loop-at-preserved : goal.loop-at-preserved
loop-at-preserved c =
    let items = c.args.items.now in
    let at = slice_get_read items (length items) c.loop-at.at c.index-items-at.result refl c.loop-at-test.true
    c.index-items-at.is in
    record {
      derived = items_more c.args.units.now.relations c.args.units.now.log items c.loop-at.at c.index-items-at.result at
          c.loop-at.invariant.derived c.in-Ok.ensures.derived;
      count = count_more c.args.units.now.relations c.args.units.now.log items c.loop-at.at c.index-items-at.result
          c.loop-at.place c.in-Ok.next at
          c.loop-at.invariant.count c.in-Ok.ensures.next;
    }
