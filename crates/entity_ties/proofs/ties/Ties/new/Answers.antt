use Rattle.std.proofs.Common.{◌≡◌, length, map}
use Rattle.entity_ties.specs.Labels.{grouping_of}
use Rattle.entity_ties.specs.Numbers.{AreNumbered}
use Rattle.entity_ties.specs.Parts.{AreCut, ArePartsOf}
use Rattle.entity_ties.proofs.Assembled.{assembled, held}
use Rattle.entity_ties.proofs.ties.Ties.new.Goals as goal

pub invariant_of-result : goal.invariant_of-result
invariant_of-result c =
    let s = c.args.spec.now in
    let firsts = c.in_ok-numbering.numbering.firsts.items in
    let members = c.in_ok-numbering.numbering.members.items in
    let labels = c.in_ok-ordered.ordered.labels.items in
    let are : AreNumbered s.relations (length s.relations) firsts members =
    rw (← c.relations-relations.ensures.value) c.in_ok-numbering.ensures.numbers in
    let cut : AreCut s.relations (length s.relations) firsts labels c.in_ok-labels.labels =
    rw (← c.relations-relations.ensures.value, ← c.deref.ensures.value, ← c.deref-2.ensures.value) c.in_ok-labels.ensures in
    let of : ArePartsOf members labels c.in_ok-ordered.ordered.count c.in_ok-parts.parts =
    rw (← c.deref-3.ensures.value, ← c.deref-4.ensures.value) c.in_ok-parts.ensures in
    held s firsts labels members c.in_ok-ordered.ordered.count c.in_ok-labels.labels
    c.relations-relations.ensures.facts are c.in_ok-ordered.ensures cut
    c.in_ok-parts.parts of

pub returns : goal.returns
returns c =
    let s = c.args.spec.now in
    let firsts = c.in_ok-numbering.numbering.firsts.items in
    let members = c.in_ok-numbering.numbering.members.items in
    let labels = c.in_ok-ordered.ordered.labels.items in
    let are : AreNumbered s.relations (length s.relations) firsts members =
    rw (← c.relations-relations.ensures.value) c.in_ok-numbering.ensures.numbers in
    let cut : AreCut s.relations (length s.relations) firsts labels c.in_ok-labels.labels =
    rw (← c.relations-relations.ensures.value, ← c.deref.ensures.value, ← c.deref-2.ensures.value) c.in_ok-labels.ensures in
    let of : ArePartsOf members labels c.in_ok-ordered.ordered.count c.in_ok-parts.parts =
    rw (← c.deref-3.ensures.value, ← c.deref-4.ensures.value) c.in_ok-parts.ensures in
    let groups : c.in_ok-groups.groups.items ≡ map grouping_of s.relations =
    rw (← c.relations-relations.ensures.value) c.in_ok-groups.ensures in
    rw of.many (assembled s firsts labels members c.in_ok-ordered.ordered.count c.in_ok-labels.labels
    c.relations-relations.ensures.facts are c.in_ok-ordered.ensures
    cut c.in_ok-groups.groups.items groups)
