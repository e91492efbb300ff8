use Rattle.std.proofs.Common.{◌≡◌, ◌∷◌, ◌++◌, [], Some, length, slice_get, rules, arith}
use Rattle.std.proofs.lemmas.Option.{slice_get_read}
use Rattle.entity_ties.specs.Numbers.{AddsMembers}
use Rattle.entity_ties.proofs.Numbered.{numbered_more}
use Rattle.entity_ties.proofs.cells.number_entities.Goals as goal

pub loop-rel-preserved : goal.loop-rel-preserved
loop-rel-preserved c =
    let relations = c.args.relations.now in
    let rel = c.loop-rel.rel in
    let r = c.index-relations-rel.result in
    let at : slice_get relations rel ≡ Some r = slice_get_read relations (length relations) rel r (omega arith)
    (omega arith) c.index-relations-rel.is in
    let first : c.in_ok-number_of.field-0 ≡ length c.loop-rel.members.items = search rules in
    let firsts : c.push.new.self.items ≡ c.loop-rel.firsts.items ++ c.in_ok-number_of.field-0 ∷ [] = search rules in
    let adds : AddsMembers rel (length r.entities) c.loop-rel.members.items c.add_members.new.members.items = search rules in
    rw firsts (numbered_more relations rel c.in_ok-number_of.field-0 r c.loop-rel.firsts.items c.loop-rel.members.items
    c.add_members.new.members.items at first c.loop-rel.invariant adds)
