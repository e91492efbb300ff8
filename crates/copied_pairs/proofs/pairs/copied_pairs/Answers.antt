use Rattle.std.proofs.Common.{◌<◌, ◌≤◌, ◌∙◌, length, get_or, ap, arith}
use Rattle.std.proofs.lemmas.Option.{slice_get-get_or}
use Rattle.entity_lists.proofs.Facts.{length-entities_of}
use Rattle.copied_pairs.proofs.Listed.{pairs_more, pairs_all, copied_pairs_are, copied_pairs_ascend}
use Rattle.copied_pairs.proofs.pairs.copied_pairs.Goals as goal

pub add_pairs_of-requires-clause-first : goal.add_pairs_of-requires-clause-first
add_pairs_of-requires-clause-first c = omega (arith, ap length c.requires.entities, length-entities_of c.args.target.now.rows)

pub loop-row-preserved : goal.loop-row-preserved
loop-row-preserved c =
    let entities = c.args.lists.now.entities in
    let within : c.loop-row.row < length entities = omega (
      arith,
      ap length c.requires.entities,
      length-entities_of
          c.args.target.now.rows,
    ) in
    let put = c.in_ok-add_pairs_of.ensures (get_or entities c.loop-row.row 0)
    (slice_get-get_or entities c.loop-row.row 0 within) in
    pairs_more c.args.copy.now c.args.source.now.rows entities c.loop-row.row _ _ within put ∙ c.loop-row.invariant

pub returns : goal.returns
returns c =
    let entities = c.args.lists.now.entities in
    let end : length entities ≤ c.loop-row.row = omega (
      arith,
      ap length c.requires.entities,
      length-entities_of
          c.args.target.now.rows,
    ) in
    let listed = pairs_all c.args.copy.now c.args.source.now.rows entities c.loop-row.row c.loop-row.pairs end
    c.loop-row.invariant in
    let are = rw c.requires.entities at listed in
    record {
      exact = copied_pairs_are c.args.copy.now c.args.target.now.rows c.args.source.now.rows c.loop-row.pairs are;
      ascend = copied_pairs_ascend c.args.copy.now c.args.target.now.rows c.args.source.now.rows c.loop-row.pairs are;
    }
