use Rattle.std.proofs.Common.{◌∙◌, ◌++◌, ◌∷◌, [], ℕ, List, ap, length, refl}
use Rattle.std.proofs.lemmas.Option.{slice_get_read}
use Rattle.golden_values.specs.declared.field.Field.{Field}
use Rattle.golden_command.specs.Text.{record_of}
use Rattle.golden_command.proofs.Written.{record_more}
use Rattle.golden_command.proofs.records.records.Goals as goal

pub loop-ent-preserved : goal.loop-ent-preserved
loop-ent-preserved c =
    let r = c.args.relation.now in
    let entity = c.get-name.result.now in
    let one = c.in_ok-record.ensures ∙ ap (λ (fields : List Field). record_of r entity fields) c.as_slice.ensures in
    record_more r r.entities c.args.table.now c.loop-ent.ent entity c.index-table-ent.result c.loop-ent.list
    c.push-in-loop-ent.new.self c.get-name.ensures
    (slice_get_read c.args.table.now (length c.args.table.now) c.loop-ent.ent c.index-table-ent.result refl
    c.loop-ent-test.true c.index-table-ent.is)
    (c.in_ok-push-2.ensures.ok ∙ ap (λ (x : List (List ℕ)). c.loop-ent.list ++ x ∷ []) one)
    ∙ c.loop-ent.invariant
