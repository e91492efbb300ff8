use Rattle.std.proofs.Common.{◌≡◌, ◌∷◌, ◌++◌, [], length, rules, refl, arith}
use Rattle.order_literals.specs.Layout.{statements_before}
use Rattle.order_literals.specs.Numbers.{Numbers}
use Rattle.order_literals.specs.declared.block.Block.TheVariants.{Pairs}
use Rattle.order_literals.proofs.Lengths.{put_more, total_more, statements_within}
use Rattle.order_literals.proofs.blocks.all_starts.Goals as goal

pub overflow_cast-total : goal.overflow_cast-total
overflow_cast-total c =
    let n : Numbers = record { tables = c.args.tables.now; answers = c.args.answers } in
    omega (arith, statements_within n c.args.blocks.now c.loop-place.place, c.loop-place.invariant.total, c.requires.few)

pub overflow_add-total : goal.overflow_add-total
overflow_add-total c =
    let n : Numbers = record { tables = c.args.tables.now; answers = c.args.answers } in
    let next = total_more n c.args.blocks.now c.loop-place.place c.loop-place.total c.block_len-total.result _
    (Pairs (record { 0 = 0 }) (record { 0 = 0 }))
    c.loop-place-test.true c.loop-place.invariant.total c.block_len-total.ensures refl in
    omega (arith, next.1, c.requires.few)

pub loop-place-preserved : goal.loop-place-preserved
loop-place-preserved c =
    let n : Numbers = record { tables = c.args.tables.now; answers = c.args.answers } in
    let pushed : c.push.new.self.items ≡ c.loop-place.starts.items ++ c.loop-place.total ∷ [] = search rules in
    let next = total_more n c.args.blocks.now c.loop-place.place c.loop-place.total c.block_len-total.result _
    (Pairs (record { 0 = 0 }) (record { 0 = 0 }))
    c.loop-place-test.true c.loop-place.invariant.total c.block_len-total.ensures refl in
    record {
      items = put_more (statements_before n c.args.blocks.now) c.loop-place.place _ _ _ c.loop-place.invariant.items
          c.loop-place.invariant.total pushed;
      total = next.0;
    }

pub returns-in-Ok-push : goal.returns-in-Ok-push
returns-in-Ok-push c =
    let n : Numbers = record { tables = c.args.tables.now; answers = c.args.answers } in
    let pushed : c.push-2.new.self.items ≡ c.loop-place.starts.items ++ c.loop-place.total ∷ [] = search rules in
    let all : c.loop-place.place ≡ length c.args.blocks.now = omega arith in
    let put = put_more (statements_before n c.args.blocks.now) c.loop-place.place _ _ _ c.loop-place.invariant.items
    c.loop-place.invariant.total pushed in
    rw all at put
