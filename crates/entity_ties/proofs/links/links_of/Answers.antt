use Rattle.std.proofs.Common.{◌≡◌, Some, length, slice_get, ap, arith}
use Rattle.std.proofs.lemmas.Option.{slice_get_read}
use Rattle.entity_ties.specs.Links.{AddsLinksOf}
use Rattle.entity_ties.proofs.LinkSteps.{below_more, below_all}
use Rattle.entity_ties.proofs.links.links_of.Goals as goal

pub loop-copy-preserved : goal.loop-copy-preserved
loop-copy-preserved c =
    let s = c.args.spec.now in
    let firsts = c.args.numbering.now.firsts.items in
    let i = c.loop-copy.copy-index in
    let copies = c.copies-copy-items.result.now in
    let copy = c.copy-item.result in
    let at : slice_get copies i ≡ Some copy = slice_get_read copies (length copies) i copy (omega arith)
    (omega arith) c.copy-item.is in
    let at_spec : slice_get s.copies i ≡ Some copy = rw (← c.copies-copy-items.ensures.value) at in
    let adds : AddsLinksOf s.relations firsts copy c.loop-copy.links.items c.add_copy.new.links.items =
    rw (← c.relations.ensures.value) c.in_ok-add_copy.ensures in
    below_more s firsts i copy c.loop-copy.links.items c.add_copy.new.links.items at_spec c.loop-copy.invariant adds

pub returns : goal.returns
returns c =
    below_all c.args.spec.now c.args.numbering.now.firsts.items c.loop-copy.copy-index c.loop-copy.links.items
    (let count = ap length c.copies-copy-items.ensures.value in omega arith) c.loop-copy.invariant
