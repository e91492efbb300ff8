use Rattle.std.proofs.Common.{◌≡◌, length, vec_len, arith}
use Rattle.std.proofs.lemmas.Result.{IfOk-weaker}
use Rattle.entity_ties.specs.Classes.{AreLabels}
use Rattle.entity_ties.proofs.TiedCells.{links_within, cell_labels, labels_below}
use Rattle.entity_ties.proofs.labels.part_labels.Goals as goal

pub linked_labels-requires-clause-within : goal.linked_labels-requires-clause-within
linked_labels-requires-clause-within c =
    let n = c.args.numbering.now in
    let within = links_within c.args.spec.now n.firsts.items n.members.items c.relations-relations.ensures.facts
    c.requires.numbers
    c.in_ok-links.links.items c.in_ok-links.ensures in
    let many : vec_len n.members ≡ length n.members.items = omega (arith, n.members.ok) in
    rw (c.deref.ensures.value, c.len.ensures, many) within

pub in_order-requires-clause-within : goal.in_order-requires-clause-within
in_order-requires-clause-within c =
    let labels : AreLabels c.in_ok-links.links.items c.in_ok-labels.labels.items = rw c.deref.ensures.value at
    c.in_ok-labels.ensures.labels in
    rw c.deref-2.ensures.value (labels_below c.in_ok-links.links.items c.in_ok-labels.labels.items labels)

pub returns : goal.returns
returns c =
    let n = c.args.numbering.now in
    let labels : AreLabels c.in_ok-links.links.items c.in_ok-labels.labels.items = rw c.deref.ensures.value at
    c.in_ok-labels.ensures.labels in
    let many : length c.in_ok-labels.labels.items ≡ length n.members.items =
    omega (arith, c.in_ok-labels.ensures.many, c.len.ensures, n.members.ok) in
    IfOk-weaker c.in_order.result _ _ (λ o is.
    cell_labels c.args.spec.now n.firsts.items n.members.items c.relations-relations.ensures.facts c.requires.numbers
    c.in_ok-links.links.items
    c.in_ok-links.ensures c.in_ok-labels.labels.items o.labels.items o.count many labels (rw c.deref-2.ensures.value at is))
    c.in_order.ensures
