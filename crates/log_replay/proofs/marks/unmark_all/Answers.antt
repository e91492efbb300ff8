use Rattle.std.proofs.Common.{◌<◌, ◌≤◌, length, drop, false, refl, arith, ◌∙◌, length-set}
use Rattle.std.proofs.lemmas.List.{length-drop}
use Rattle.log_replay.proofs.MarksSet.{index_within, unmark_more, all_among, none_left}
use Rattle.log_replay.proofs.marks.unmark_all.Goals as goal

pub index_mut-requires : goal.index_mut-requires
index_mut-requires c =
    let inside : c.index.result < length c.args.marked.now.items =
    index_within c.args.marked.now.items c.args.lits.now c.loop-lit.lit-index _ c.index.result c.requires
    c.loop-lit-test.true c.index.ensures in
    omega (arith, c.loop-lit.invariant.count, c.loop-lit.marked.ok.0)

pub loop-lit-preserved : goal.loop-lit-preserved
loop-lit-preserved c =
    let inside : c.index.result < length c.args.marked.now.items =
    index_within c.args.marked.now.items c.args.lits.now c.loop-lit.lit-index _ c.index.result c.requires
    c.loop-lit-test.true c.index.ensures in
    record {
      among =
          unmark_more c.loop-lit.marked.items c.args.lits.now c.loop-lit.lit-index _ c.index.result
          c.loop-lit-test.true c.index.ensures
          (omega (arith, c.loop-lit.invariant.count)) c.loop-lit.invariant.among;
      count = length-set c.loop-lit.marked.items c.index.result false ∙ c.loop-lit.invariant.count;
    }

pub loop-lit-init : goal.loop-lit-init
loop-lit-init c = record { among = all_among c.args.marked.now.items c.args.lits.now c.requires; count = refl }

pub returns : goal.returns
returns c =
    let none : length (drop c.loop-lit.lit-index c.args.lits.now) ≤ 0 =
    omega (arith, length-drop c.loop-lit.lit-index c.args.lits.now, c.loop-lit-test.false) in
    none_left c.loop-lit.marked.items (drop c.loop-lit.lit-index c.args.lits.now) none c.loop-lit.invariant.among
