use Rattle.std.proofs.Common.{◌≡◌, ◌++◌, [], Some, slice_get, slice_set, rules}
use Rattle.entity_ties.specs.Classes.{IsRelabelled}
use Rattle.entity_ties.proofs.Joining.{moved_inside, one_class}
use Rattle.entity_ties.proofs.classes.unite.Goals as goal

pub relabel-requires : goal.relabel-requires
relabel-requires c =
    rw c.as_slice.ensures (moved_inside c.args.labels.now.items c.replace-moved.result c.args.members.now c.args.from
    c.requires.classes c.replace-moved.ensures.old)

pub returns-clause-classes : goal.returns-clause-classes
returns-clause-classes c =
    let labels = c.args.labels.now.items in
    let members = c.args.members.now in
    let from = c.args.from in
    let to = c.args.to in
    let moved = c.replace-moved.result in
    let class = c.replace-class.result in
    let first : c.replace-moved.new.self ≡ slice_set members from [] = search rules in
    let at_class : slice_get (slice_set members from []) to ≡ Some class = rw (← first) c.replace-class.ensures.old in
    let is : IsRelabelled to moved labels c.relabel.new.labels.items = rw c.as_slice.ensures at c.relabel.ensures in
    let after : c.replace.new.self ≡ slice_set (slice_set (slice_set members from []) to []) to (class ++ moved) = search rules in
    (one_class labels c.relabel.new.labels.items members c.replace.new.self from to moved class c.requires.classes
    c.requires.from c.requires.to
    c.requires.apart c.replace-moved.ensures.old is at_class after).0

pub returns-clause-united : goal.returns-clause-united
returns-clause-united c =
    let labels = c.args.labels.now.items in
    let members = c.args.members.now in
    let from = c.args.from in
    let to = c.args.to in
    let moved = c.replace-moved.result in
    let class = c.replace-class.result in
    let first : c.replace-moved.new.self ≡ slice_set members from [] = search rules in
    let at_class : slice_get (slice_set members from []) to ≡ Some class = rw (← first) c.replace-class.ensures.old in
    let is : IsRelabelled to moved labels c.relabel.new.labels.items = rw c.as_slice.ensures at c.relabel.ensures in
    let after : c.replace.new.self ≡ slice_set (slice_set (slice_set members from []) to []) to (class ++ moved) = search rules in
    (one_class labels c.relabel.new.labels.items members c.replace.new.self from to moved class c.requires.classes
    c.requires.from c.requires.to
    c.requires.apart c.replace-moved.ensures.old is at_class after).1
