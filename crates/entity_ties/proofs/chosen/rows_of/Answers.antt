use Rattle.std.proofs.Common.{◌≡◌, ◌<◌, ◌+◌, ◌++◌, length, get_or, map, take, sym, subst, arith, rules}
use Rattle.std.proofs.lemmas.List.{take_all}
use Rattle.std.proofs.lemmas.Option.{slice_get-get_or}
use Rattle.currency_base.specs.declared.ids.RowId.{RowId}
use Rattle.entity_lists.specs.Lists.{rows_of}
use Rattle.entity_ties.specs.Chosen.{AreRowsOf}
use Rattle.entity_ties.proofs.Rising.{rows_more}
use Rattle.entity_ties.proofs.chosen.rows_of.Goals as goal

pub loop-ent-preserved : goal.loop-ent-preserved
loop-ent-preserved c =
    let group = c.args.group.now in
    let numbers = c.args.entities.now in
    let i = c.loop-ent.ent-index in
    let below : i < length numbers = omega arith in
    let rows : c.append_rows.new.rows.items ≡ c.loop-ent.rows.items ++ map (λ (r : RowId). r.0)
    (rows_of group.entities (get_or numbers i 0)) = search rules in
    subst (AreRowsOf group.entities (take (i + 1) numbers)) (sym rows)
    (rows_more group.entities numbers i (get_or numbers i 0) c.loop-ent.rows.items
    (slice_get-get_or numbers i 0 below) c.loop-ent.invariant)

pub returns : goal.returns
returns c =
    let numbers = c.args.entities.now in
    let all : take c.loop-ent.ent-index numbers ≡ numbers = take_all c.loop-ent.ent-index numbers (omega arith) in
    subst (λ l. AreRowsOf c.args.group.now.entities l c.loop-ent.rows.items) all c.loop-ent.invariant
