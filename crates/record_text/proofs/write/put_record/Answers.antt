use Rattle.std.proofs.Common.{rules, ◌≡◌, ◌+◌, ◌-◌, ◌^◌, ◌≤◌, take}
use Rattle.std.proofs.lemmas.List.{take_all}
use Rattle.record_text.proofs.Begun.{begun_all, begun_next, begun_none}
use Rattle.record_text.proofs.write.put_record.Goals as goal

pub loop-field-init : goal.loop-field-init
loop-field-init g c = begun_none g.W.Write.contents c.args.writer.now c.requires

pub loop-field-preserved : goal.loop-field-preserved
loop-field-preserved g c =
    let e = c.in-Ok.ensures in
    let few : c.loop-field.field-index + 1 ≤ 2 ^ 64 - 1 = search rules in
    begun_next g.W.Write.contents c.args.writer.now c.loop-field.writer c.write_field.new.self
    c.as_slice-field-items.result.now c.loop-field.field-index c.field-item.result c.loop-field.invariant
    c.loop-field-test.true c.field-item.is few (record {
      same = e.same;
      count = e.count;
      text = rw c.as_slice.ensures at e.text;
      shows = rw c.as_slice.ensures at e.wrote;
      stays = e.stays;
    })

pub returns-clause-text : goal.returns-clause-text
returns-clause-text g c =
    let fields = c.as_slice-field-items.result.now in
    let all : take c.loop-field.field-index fields ≡ fields = search (rules, take_all) in
    rw (← c.as_slice-field-items.ensures) (begun_all g.W.Write.contents c.args.writer.now c.loop-field.writer
    c.end_record.new.self fields (rw all at c.loop-field.invariant) c.in-Ok-end_record.ensures.bytes)
