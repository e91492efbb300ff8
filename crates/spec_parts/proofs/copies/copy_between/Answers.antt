use Rattle.std.proofs.Common.{◌∙◌, length, slice_get, sym, ap, arith}
use Rattle.std.proofs.lemmas.Option.{slice_get_within}
use Rattle.spec_parts.proofs.CopyCuts.{copied_in}
use Rattle.spec_parts.proofs.Pairing.{read_item}
use Rattle.spec_parts.proofs.copies.copy_between.Goals as goal

pub returns-clause-copied : goal.returns-clause-copied
returns-clause-copied c =
    let relations = c.args.part.now.relations in
    let copy = c.args.copy.now in
    let items = c.relations-relations in
    let same = ap length items.ensures.value in
    let t_id = ap (λ i. i.0) c.target.ensures in
    let s_id = ap (λ i. i.0) c.source.ensures in
    let t_in = slice_get_within relations copy.target.0 c.requires.target c.requires.is_target in
    let s_in = slice_get_within relations copy.source.0 c.requires.source c.requires.is_source in
    let t = read_item relations items.result.now c.target.result.0 c.index-relations-target.result items.ensures.value
    (omega (arith, same, t_id, t_in))
    c.index-relations-target.is in
    let s = read_item relations items.result.now c.source.result.0 c.index-relations-source.result items.ensures.value
    (omega (arith, same, s_id, s_in))
    c.index-relations-source.is in
    copied_in relations copy c.rows.result.now c.rows-2.result.now c.index-relations-target.result c.index-relations-source.result
    (ap (slice_get relations) (sym t_id) ∙ t) (ap (slice_get relations) (sym s_id) ∙ s) c.copy_part.result
    c.copy_part.ensures.part
    c.copy_part.ensures.copied
