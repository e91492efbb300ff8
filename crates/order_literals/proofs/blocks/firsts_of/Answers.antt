use Rattle.std.proofs.Common.{◌≡◌, ◌+◌, ◌<◌, ◌∷◌, ◌++◌, [], length, rules, arith}
use Rattle.order_literals.specs.Layout.{attrs_before}
use Rattle.order_literals.proofs.Lengths.{put_more, attrs_more}
use Rattle.order_literals.proofs.blocks.firsts_of.Goals as goal

pub loop-rel-preserved : goal.loop-rel-preserved
loop-rel-preserved c =
    let pushed : c.push.new.self.items ≡ c.loop-rel.firsts.items ++ c.loop-rel.total ∷ [] = search rules in
    let within : c.loop-rel.rel < length c.args.tables.now = omega arith in
    let more = attrs_more c.args.tables.now c.loop-rel.rel c.index-tables-rel.result within c.index-tables-rel.is in
    let next : c.in-Some.next ≡ c.loop-rel.total + c.attrs.result = search rules in
    record {
      items = put_more (attrs_before c.args.tables.now) c.loop-rel.rel _ _ _ c.loop-rel.invariant.items
          c.loop-rel.invariant.total pushed;
      total = omega (arith, c.attrs.ensures, c.loop-rel.invariant.total);
    }

pub returns-in-Ok-push : goal.returns-in-Ok-push
returns-in-Ok-push c =
    let pushed : c.push-2.new.self.items ≡ c.loop-rel.firsts.items ++ c.loop-rel.total ∷ [] = search rules in
    let all : c.loop-rel.rel ≡ length c.args.tables.now = omega arith in
    let put = put_more (attrs_before c.args.tables.now) c.loop-rel.rel _ _ _ c.loop-rel.invariant.items
    c.loop-rel.invariant.total pushed in
    rw all at put
