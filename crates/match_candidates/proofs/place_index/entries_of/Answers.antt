use Rattle.std.proofs.Common.{◌+◌, get_or, subst, take}
use Rattle.std.proofs.lemmas.List.{take_all, take_more}
use Rattle.currency_base.specs.declared.ids.EntId.{EntId}
use Rattle.match_candidates.proofs.AlikeEntries.{AreOfEntities, all_of, more_of}
use Rattle.match_candidates.proofs.place_index.entries_of.Goals as goal

pub loop-ent-preserved : goal.loop-ent-preserved
loop-ent-preserved c =
    let ents = c.all-ent-items.result.now in
    let i = c.loop-ent.ent-index in
    let first : EntId = record { 0 = 0 } in
    more_of c.args.table.now c.args.place (take i ents) (take (i + 1) ents) (get_or ents i first) c.loop-ent.entries.items
    c.add_entity.new.entries.items (take_more ents i first c.loop-ent-test.true) c.in_ok-add_entity.ensures c.loop-ent.invariant

pub returns : goal.returns
returns c =
    let ents = c.all-ent-items.result.now in
    all_of c.args.table.now c.args.place ents c.loop-ent.entries.items c.all-ent-items.ensures
    (subst (λ l. AreOfEntities c.args.table.now c.args.place l c.loop-ent.entries.items)
    (take_all c.loop-ent.ent-index ents c.loop-ent-test.false)
    c.loop-ent.invariant)
